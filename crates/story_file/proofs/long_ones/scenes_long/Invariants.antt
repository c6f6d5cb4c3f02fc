use Rattle.std.proofs.Common.{ℕ, List, length}
use Rattle.std.specs.Prelude.{map}
use Rattle.play_meaning.specs.ScenesMeant.{scene_meant}
use Rattle.code_table.specs.Origins.{origins_of_scene}
use Rattle.code_table.specs.Emitted.{IsToldLong}
use Rattle.story_file.proofs.LongLines.{IsOnWay}
use Rattle.story_file.proofs.long_ones.scenes_long.Given as goal

abbrev pub invariant-loop-rest : goal.invariant-loop-rest
invariant-loop-rest l = (string : List ℕ → ℕ) → IsOnWay (IsToldLong l.counts string) (map (λ scene. origins_of_scene (scene_meant scene)) l.scenes) (map (λ scene. origins_of_scene (scene_meant scene)) l.rest) l.longs.items

abbrev pub decreases-loop-rest : goal.decreases-loop-rest
decreases-loop-rest l = length l.rest
