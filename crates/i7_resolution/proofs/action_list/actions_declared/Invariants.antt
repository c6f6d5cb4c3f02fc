use Rattle.std.proofs.Common.{◌≡◌, ◌++◌, length}
use Rattle.i7_sentences.specs.ActionDeclarations.{actions_declared}
use Rattle.i7_resolution.specs.SourceActions.{actions_lent}
use Rattle.i7_resolution.proofs.action_list.actions_declared.Given as goal

abbrev pub invariant-loop-rest : goal.invariant-loop-rest
invariant-loop-rest l = actions_lent l.actions.items ++ actions_declared l.rest ≡ actions_declared l.sentences

abbrev pub decreases-loop-rest : goal.decreases-loop-rest
decreases-loop-rest l = length l.rest
