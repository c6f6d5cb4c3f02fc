use Rattle.std.proofs.Common.{◌≡◌, ◌+◌, ◌≤◌, length, map}
use Rattle.std.specs.Prelude.{count_by}
use Rattle.world_meaning.specs.Declarations.{is_had}
use Rattle.story_format.proofs.value_facts.count_had.Given as goal

abbrev pub invariant-loop-rest : goal.invariant-loop-rest
invariant-loop-rest l = record { counted : l.count + count_by (is_had l.parents l.kind) (map (λ v. v.given) l.rest) ≡ count_by (is_had l.parents l.kind) (map (λ v. v.given) l.values); bound : l.count + length l.rest ≤ length l.values }

abbrev pub decreases-loop-rest : goal.decreases-loop-rest
decreases-loop-rest l = length l.rest
