use Rattle.std.proofs.Common.{ℕ, List, length}
use Rattle.std.specs.Prelude.{map}
use Rattle.play_meaning.specs.ScenesMeant.{scene_meant}
use Rattle.code_table.specs.Origins.{origins_of_scene}
use Rattle.code_table.proofs.Stopped.{IsOnWay}
use Rattle.code_table.proofs.coding.add_scenes.Given as goal

abbrev pub invariant-loop-rest : goal.invariant-loop-rest
invariant-loop-rest l =
    (string : List ℕ → ℕ) → IsOnWay origins_of_scene l.counts string l.heads (map scene_meant l.fn.scenes) l.fn.out.codes.items l.fn.out.tests.items l.out.codes.items l.out.tests.items (map scene_meant l.rest)

abbrev pub decreases-loop-rest : goal.decreases-loop-rest
decreases-loop-rest l = length l.rest
