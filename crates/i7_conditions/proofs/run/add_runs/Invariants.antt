use Rattle.std.proofs.Common.{◌≡◌, ◌++◌}
use Rattle.std.specs.Prelude.{flat_map, option_map}
use Rattle.i7_conditions.specs.Conjoining.{parts_behind}
use Rattle.i7_conditions.specs.Marks.{marks_in, run_marks}
use Rattle.i7_conditions.specs.Scopes.{scope_of}
use Rattle.i7_conditions.specs.declared.joint.Joint.TheVariants.{From}
use Rattle.i7_conditions.proofs.Conjoined.{left}
use Rattle.i7_conditions.proofs.run.add_runs.Given as goal

abbrev pub invariant-loop-behind : goal.invariant-loop-behind
invariant-loop-behind l =
    l.marks.items ++ flat_map (run_marks (scope_of l.scope)) (parts_behind From (option_map (λ rest. rest.now) l.behind)) ≡ l.fn.marks.items ++ marks_in (scope_of l.scope) l.words

abbrev pub decreases-loop-behind : goal.decreases-loop-behind
decreases-loop-behind l = left (option_map (λ rest. rest.now) l.behind)
