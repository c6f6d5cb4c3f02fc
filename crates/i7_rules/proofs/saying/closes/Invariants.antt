use Rattle.std.proofs.Common.{◌≡◌, length}
use Rattle.i7_rules.specs.Saying.{closes}
use Rattle.i7_rules.proofs.saying.closes.Given as goal

abbrev pub invariant-loop-rest : goal.invariant-loop-rest
invariant-loop-rest l = closes l.rest ≡ closes l.bytes

abbrev pub decreases-loop-rest : goal.decreases-loop-rest
decreases-loop-rest l = length l.rest
