use Rattle.std.proofs.Common.{arith}
use Rattle.story_code.proofs.Exact.{checked_exact}
use Rattle.story_code.proofs.verifying.check_short.Goals as goal

pub returns : goal.returns
returns c =
    checked_exact c.args.sizes.now c.args.bytes.now 4096 c.check.result (λ i. omega (arith, c.type_inv.bytes i)) (omega (arith, c.requires)) (omega (arith, c.requires)) c.check.ensures
