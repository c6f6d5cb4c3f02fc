use Rattle.std.proofs.Common.{◌≡◌, length}
use Rattle.story_format.specs.ValueChecks.{have_told_values}
use Rattle.story_format.proofs.value_checks.have_told_values.Given as goal

abbrev pub invariant-loop-entries : goal.invariant-loop-entries
invariant-loop-entries l = have_told_values l.told l.entries l.all ≡ have_told_values l.told l.initial.entries l.initial.all

abbrev pub decreases-loop-entries : goal.decreases-loop-entries
decreases-loop-entries l = length l.entries
