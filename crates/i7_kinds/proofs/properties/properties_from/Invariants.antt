use Rattle.std.proofs.Common.{◌≡◌, ◌++◌, ◌+◌, length, map}
use Rattle.i7_kinds.specs.Making.{made_of}
use Rattle.i7_kinds.specs.Tales.{properties_from}
use Rattle.i7_kinds.proofs.properties.properties_from.Given as goal

abbrev pub invariant-loop-rest : goal.invariant-loop-rest
invariant-loop-rest l = (l.found.items ++ properties_from (made_of l.makings) l.object l.kind l.property (map (λ row. row.3.now) l.truths) l.rest ≡ properties_from (made_of l.makings) l.object l.kind 0 (map (λ row. row.3.now) l.rows) l.makings.flags.now) × (l.property + length l.rest ≡ length l.makings.flags.now)

abbrev pub decreases-loop-rest : goal.decreases-loop-rest
decreases-loop-rest l = length l.rest
