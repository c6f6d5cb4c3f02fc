use Rattle.std.proofs.Common.{◌≡◌, length, map}
use Rattle.world_meaning.specs.Declarations.{begin_with_properties}
use Rattle.story_format.proofs.world_checks.begin_with_properties.Given as goal

abbrev pub invariant-loop-rows : goal.invariant-loop-rows
invariant-loop-rows l =
    begin_with_properties l.granted (map (λ row. record { kinds = row.2.now; true_of = row.3.now }) l.rows)
    ≡ begin_with_properties l.initial.granted (map (λ row. record { kinds = row.2.now; true_of = row.3.now }) l.initial.rows)

abbrev pub decreases-loop-rows : goal.decreases-loop-rows
decreases-loop-rows l = length l.rows
