use Rattle.std.proofs.Common.{◌≡◌, ◌≤◌, length}
use Rattle.std.specs.Prelude.{fold}
use Rattle.world_meaning.specs.Literals.{magnitude, with_digit}
use Rattle.world_meaning.proofs.literal.exceeds.Given as goal

abbrev pub invariant-loop-rest : goal.invariant-loop-rest
invariant-loop-rest l = (l.number ≤ l.most) × (fold with_digit l.number l.rest ≡ magnitude l.digits)

abbrev pub decreases-loop-rest : goal.decreases-loop-rest
decreases-loop-rest l = length l.rest
