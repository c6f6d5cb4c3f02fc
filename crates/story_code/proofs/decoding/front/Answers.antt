use Rattle.std.proofs.Common.{arith}
use Rattle.story_code.proofs.Exact.{front_exact}
use Rattle.story_code.proofs.decoding.front.Goals as goal

pub returns : goal.returns
returns c = front_exact c.args.bytes.now c.first.result (λ i. omega (arith, c.type_inv.bytes i)) c.first.ensures
