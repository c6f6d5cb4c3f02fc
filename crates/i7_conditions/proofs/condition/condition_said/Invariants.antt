use Rattle.std.proofs.Common.{◌≡◌}
use Rattle.std.specs.Prelude.{option_map}
use Rattle.play_meaning.specs.Trees as tree
use Rattle.i7_conditions.specs.Conjoining.{condition_said, conjunction_said, found_condition, joined_behind, parts_behind}
use Rattle.i7_conditions.specs.Scopes.{scope_of}
use Rattle.i7_conditions.specs.declared.joint.Joint.TheVariants.{Or}
use Rattle.i7_conditions.proofs.Conjoined.{left}
use Rattle.i7_conditions.proofs.condition.condition_said.Given as goal

abbrev pub invariant-loop-behind : goal.invariant-loop-behind
invariant-loop-behind l =
    joined_behind tree.Or (conjunction_said (scope_of l.scope)) (found_condition l.any) (parts_behind Or (option_map (λ rest. rest.now) l.behind)) ≡ condition_said (scope_of l.scope) l.words

abbrev pub decreases-loop-behind : goal.decreases-loop-behind
decreases-loop-behind l = left (option_map (λ rest. rest.now) l.behind)
