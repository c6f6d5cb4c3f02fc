use Rattle.std.proofs.Common.{map}
use Rattle.play_meaning.specs.ScenesMeant.{scene_meant}
use Rattle.code_table.specs.Origins.{origins_of_scene}
use Rattle.code_table.proofs.Stopped.{ends, grows_on, loop_stops}
use Rattle.code_table.proofs.coding.add_scenes.Goals as goal

pub returns-in-Err-clause-none : goal.returns-in-Err-clause-none
returns-in-Err-clause-none c = λ string.
    loop_stops origins_of_scene c.args.counts.now string c.args.heads (map scene_meant c.args.scenes.now) c.args.out.now.codes.items c.args.out.now.tests.items scene_meant c.loop-rest.out.codes.items c.loop-rest.out.tests.items
    c.loop-rest.rest.now c.scene-item.result c.in-Err.fault c.in-len1-up.len_at_least c.scene-item.is (c.in-Err.ensures.none string) (c.loop-rest.invariant string)

pub loop-rest-preserved : goal.loop-rest-preserved
loop-rest-preserved c = λ string.
    grows_on origins_of_scene c.args.counts.now string c.args.heads (map scene_meant c.args.scenes.now) c.args.out.now.codes.items c.args.out.now.tests.items scene_meant c.loop-rest.out.codes.items c.loop-rest.out.tests.items
    c.add_scene.new.out.codes.items c.add_scene.new.out.tests.items c.loop-rest.rest.now c.scene-item.result c.in-len1-up.len_at_least c.scene-item.is (c.in-Ok.ensures.coded string) (c.loop-rest.invariant string)

pub returns-clause-coded : goal.returns-clause-coded
returns-clause-coded c = λ string.
    ends origins_of_scene c.args.counts.now string c.args.heads (map scene_meant c.args.scenes.now) c.args.out.now.codes.items c.args.out.now.tests.items scene_meant c.loop-rest.out.codes.items c.loop-rest.out.tests.items c.loop-rest.rest.now
    c.in_default.len_below (c.loop-rest.invariant string)
