use Rattle.std.proofs.Common.{◌≡◌, ◌++◌, length}
use Rattle.i7_kinds.specs.Bounds.{AreSmallPlaces}
use Rattle.i7_kinds.proofs.making.places_in.Given as goal

abbrev pub invariant-loop-rest : goal.invariant-loop-rest
invariant-loop-rest l = (l.places.items ++ l.rest ≡ l.spots) × AreSmallPlaces l.rest

abbrev pub decreases-loop-rest : goal.decreases-loop-rest
decreases-loop-rest l = length l.rest
