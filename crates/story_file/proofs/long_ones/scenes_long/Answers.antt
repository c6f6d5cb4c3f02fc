use Rattle.std.specs.Prelude.{map}
use Rattle.play_meaning.specs.ScenesMeant.{scene_meant}
use Rattle.code_table.specs.Origins.{origins_of_scene}
use Rattle.code_table.specs.Emitted.{IsToldLong}
use Rattle.story_file.proofs.LongLines.{ends, grows}
use Rattle.story_file.proofs.long_ones.scenes_long.Goals as goal

pub loop-rest-preserved : goal.loop-rest-preserved
loop-rest-preserved c = λ string.
    grows (IsToldLong c.args.counts.now string) (map (λ scene. origins_of_scene (scene_meant scene)) c.args.scenes.now) (λ scene. origins_of_scene (scene_meant scene)) c.loop-rest.rest.now c.scene-item.result c.loop-rest.longs.items c.push.new.self.items c.in_ok-scene_is_long.field-0 c.in-len1-up.len_at_least c.scene-item.is (c.in_ok-scene_is_long.ensures string) c.in_ok-push.ensures.items (c.loop-rest.invariant string)

pub returns : goal.returns
returns c = λ string. ends (IsToldLong c.args.counts.now string) (map (λ scene. origins_of_scene (scene_meant scene)) c.args.scenes.now) (λ scene. origins_of_scene (scene_meant scene)) c.loop-rest.rest.now c.loop-rest.longs.items c.in_default.len_below (c.loop-rest.invariant string)
