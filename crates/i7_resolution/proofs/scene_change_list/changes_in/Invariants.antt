use Rattle.std.proofs.Common.{◌≡◌, ◌++◌, length}
use Rattle.i7_resolution.specs.SceneChangeList.{changes_in, changes_lent}
use Rattle.i7_resolution.proofs.scene_change_list.changes_in.Given as goal

abbrev pub invariant-loop-rest : goal.invariant-loop-rest
invariant-loop-rest l = changes_lent l.changes.items ++ changes_in l.rest ≡ changes_in l.sentences

abbrev pub decreases-loop-rest : goal.decreases-loop-rest
decreases-loop-rest l = length l.rest
