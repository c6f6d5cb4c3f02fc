use Rattle.std.proofs.Common.{arith}
use Rattle.command_parser.proofs.Cuts.{words_begun}
use Rattle.command_parser.proofs.cutting.word_count.Goals as goal

pub loop-rest-init : goal.loop-rest-init
loop-rest-init c = (omega (arith, words_begun c.args.line.now), omega arith)
