use Rattle.i7_sentences.proofs.Verdicts.{answered}
use Rattle.i7_sentences.proofs.reader.read.Goals as goal

pub returns : goal.returns
returns c = answered (λ v. v.items) c.args.lexed.now c.read_through.result c.read_through.ensures.read c.read_through.ensures.refused c.read_through.ensures.memory
