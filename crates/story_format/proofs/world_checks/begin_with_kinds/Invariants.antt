use Rattle.std.proofs.Common.{◌≡◌, length}
use Rattle.world_meaning.specs.Declarations.{begin_with_kinds}
use Rattle.story_format.proofs.world_checks.begin_with_kinds.Given as goal

abbrev pub invariant-loop-others : goal.invariant-loop-others
invariant-loop-others l = begin_with_kinds l.parents l.others ≡ begin_with_kinds l.initial.parents l.initial.others

abbrev pub decreases-loop-others : goal.decreases-loop-others
decreases-loop-others l = length l.others
