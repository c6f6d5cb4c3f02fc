use Rattle.std.proofs.lemmas.Result.{IfErr-weaker, on_ok_weaker}
use Rattle.code_table.proofs.SceneCodes.{begins_stops, ends_stops, scene_added}
use Rattle.code_table.proofs.coding.add_scene.Goals as goal

pub returns-in-Ok-clause-coded : goal.returns-in-Ok-clause-coded
returns-in-Ok-clause-coded c = λ string.
    on_ok_weaker c.add_asked-in-Ok.result
    (scene_added c.args.counts.now string c.args.heads c.args.scene.now c.args.out.now.codes.items c.args.out.now.tests.items c.add_asked.new.out.codes.items c.add_asked.new.out.tests.items c.add_asked-in-Ok.new.out.codes.items c.add_asked-in-Ok.new.out.tests.items
    (c.in-Ok.ensures.coded string)) (c.add_asked-in-Ok.ensures.coded string)

pub returns-in-Ok-clause-none : goal.returns-in-Ok-clause-none
returns-in-Ok-clause-none c = λ string.
    IfErr-weaker c.add_asked-in-Ok.result _ _
    (λ fault. ends_stops c.args.counts.now string c.args.heads c.args.scene.now c.args.out.now.codes.items c.args.out.now.tests.items c.add_asked.new.out.codes.items c.add_asked.new.out.tests.items fault (c.in-Ok.ensures.coded string))
    (c.add_asked-in-Ok.ensures.none string)

pub returns-in-Err-clause-none : goal.returns-in-Err-clause-none
returns-in-Err-clause-none c = λ string. begins_stops c.args.counts.now string c.args.heads c.args.scene.now c.args.out.now.codes.items c.args.out.now.tests.items c.in-Err.fault (c.in-Err.ensures.none string)
