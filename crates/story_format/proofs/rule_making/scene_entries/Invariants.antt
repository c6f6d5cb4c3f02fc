-- Those so far, and those of what is left.
use Rattle.std.proofs.Common.{◌≡◌, ◌++◌, ◌+◌, ◌*◌, ◌≤◌, length, map}
use Rattle.play_meaning.specs.ScenesMeant.{scene_meant}
use Rattle.story_format.specs.RuleMaking.{scene_entries}
use Rattle.story_format.proofs.rule_making.scene_entries.Given as goal

abbrev pub invariant-loop-rest : goal.invariant-loop-rest
invariant-loop-rest l = record { made : l.entries.items ++ scene_entries l.next (map scene_meant l.rest) ≡ scene_entries l.first (map scene_meant l.scenes); bound : l.next + 2 * length l.rest ≤ 5000 }

abbrev pub decreases-loop-rest : goal.decreases-loop-rest
decreases-loop-rest l = length l.rest
