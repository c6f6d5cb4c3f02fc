use Rattle.std.proofs.Common.{length}
use Rattle.i7_rules.proofs.Looked.{IsLookedTo}
use Rattle.i7_rules.specs.Knowns.{known_of}
use Rattle.i7_resolution.specs.SceneChangeList.{changes_lent}
use Rattle.i7_resolution.proofs.EdgesSeen.{IsSeenTo}
use Rattle.i7_resolution.proofs.scene_twice.change_twice.Given as goal

abbrev pub invariant-loop-rest : goal.invariant-loop-rest
invariant-loop-rest l = IsLookedTo (IsSeenTo (known_of l.known) l.seen.items l.low) (changes_lent l.changes) (changes_lent l.rest)

abbrev pub decreases-loop-rest : goal.decreases-loop-rest
decreases-loop-rest l = length l.rest
