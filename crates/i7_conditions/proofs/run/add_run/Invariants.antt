use Rattle.std.proofs.Common.{◌≡◌, ◌++◌, length}
use Rattle.i7_conditions.specs.Marks.{run_marks}
use Rattle.i7_conditions.specs.Scopes.{scope_of}
use Rattle.i7_conditions.proofs.run.add_run.Given as goal

abbrev pub invariant-loop-rest : goal.invariant-loop-rest
invariant-loop-rest l = l.marks.items ++ run_marks (scope_of l.scope) l.rest ≡ l.initial.marks.items ++ run_marks (scope_of l.scope) l.run

abbrev pub decreases-loop-rest : goal.decreases-loop-rest
decreases-loop-rest l = length l.rest
