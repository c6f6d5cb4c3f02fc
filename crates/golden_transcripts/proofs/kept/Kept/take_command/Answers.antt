use Rattle.std.proofs.Common.{arith}
use Rattle.golden_transcripts.proofs.Parts.{behind_on, is_no_longer}
use Rattle.golden_transcripts.proofs.kept.Kept.take_command.Goals as goal

pub returns-clause-behind : goal.returns-clause-behind
returns-clause-behind c = behind_on c.args.self.now.rest.now c.take.new.self.rest.now c.take_line.new.self.rest.now c.take.result.now c.take.ensures.parts c.take_line.ensures

pub returns-clause-shorter : goal.returns-clause-shorter
returns-clause-shorter c = λ x is. omega (arith, is_no_longer c.take.new.self.rest.now c.take_line.new.self.rest.now c.take_line.ensures, c.take.ensures.fewer, c.if-not-starts_with.ensures.bound)
