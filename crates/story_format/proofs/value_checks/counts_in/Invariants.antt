use Rattle.std.proofs.Common.{◌≡◌, ◌++◌, length}
use Rattle.story_format.specs.ValueChecks.{counts_in}
use Rattle.story_format.proofs.value_checks.counts_in.Given as goal

abbrev pub invariant-loop-rest : goal.invariant-loop-rest
invariant-loop-rest l = l.counts.items ++ counts_in l.parents l.rest l.kind ≡ counts_in l.parents l.values l.kind

abbrev pub decreases-loop-rest : goal.decreases-loop-rest
decreases-loop-rest l = length l.rest
