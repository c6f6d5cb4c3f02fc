use Rattle.std.proofs.Common.{◌≡◌, ◌+◌, ◌≤◌, length}
use Rattle.world_meaning.specs.Sorts.{kinds_told}
use Rattle.world_meaning.specs.Standing.{are_well_placed}
use Rattle.world_meaning.proofs.sorts.are_well_placed.Given as goal

abbrev pub invariant-loop-rest : goal.invariant-loop-rest
invariant-loop-rest l = record { same : are_well_placed (kinds_told l.sorts) l.object l.rest ≡ are_well_placed (kinds_told l.sorts) 0 l.places; bound : l.object + length l.rest ≤ length l.places }

abbrev pub decreases-loop-rest : goal.decreases-loop-rest
decreases-loop-rest l = length l.rest
