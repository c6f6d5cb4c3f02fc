use Rattle.std.proofs.Common.{◌∙◌, ◌++◌, ap, subst, [], ◌∷◌, Some, Ok, Err, arith}
use Rattle.std.specs.List.{range_with_len}
use Rattle.play_meaning.specs.Machines.{passing}
use Rattle.story_code.specs.Runs.{Standing, TestIs, kept_if, passes_in}
use Rattle.story_code.proofs.Listed.{passed_broken, passed_on}
use Rattle.story_code.proofs.listing.passing_in.Goals as goal

pub returns-in-Err : goal.returns-in-Err
returns-in-Err g c granted depth describes enough =
    let fixed = g.G.Ground.fixed c.args.ground.now in
    let w = g.G.Ground.world c.args.ground.now in
    let f = passes_in fixed c.args.codes.now c.args.now.now w depth describes c.args.test c.args.state.now.loops in
    let loops = c.with.ensures ∙ ap (λ (x : Standing). x.loops ++ Some c.new-object.result ∷ []) c.state.view_is ∙ ap (λ n. c.args.state.now.loops ++ Some n ∷ []) c.new-object.ensures in
    let broke = subst (λ open_loops. TestIs fixed c.args.codes.now c.args.now.now w c.args.test open_loops (Err c.in-Err.reason)) loops (c.in-Err.ensures granted) depth describes enough in
    passed_broken f fixed.setting.count (passing f (range_with_len 0 fixed.setting.count)) c.in-Err.reason c.loop-number.objects.items c.loop-number.number
    (omega (arith, c.loop-number-test.true, c.object_count-number-end.ensures)) broke (c.loop-number.invariant depth describes enough)

pub loop-number-preserved : goal.loop-number-preserved
loop-number-preserved g c depth describes enough =
    let fixed = g.G.Ground.fixed c.args.ground.now in
    let w = g.G.Ground.world c.args.ground.now in
    let f = passes_in fixed c.args.codes.now c.args.now.now w depth describes c.args.test c.args.state.now.loops in
    let loops = c.with.ensures ∙ ap (λ (x : Standing). x.loops ++ Some c.new-object.result ∷ []) c.state.view_is ∙ ap (λ n. c.args.state.now.loops ++ Some n ∷ []) c.new-object.ensures in
    let is = subst (λ open_loops. TestIs fixed c.args.codes.now c.args.now.now w c.args.test open_loops (Ok c.in-Ok.passes)) loops c.in-Ok.ensures depth describes enough in
    passed_on f fixed.setting.count (passing f (range_with_len 0 fixed.setting.count)) c.in-Ok.passes c.loop-number.objects.items c.keep_if.new.kept.items c.loop-number.number
    (c.in_ok-keep_if-in-Ok.ensures.kept ∙ ap (λ n. kept_if c.in-Ok.passes c.loop-number.objects.items n) c.new-object.ensures)
    (omega (arith, c.loop-number-test.true, c.object_count-number-end.ensures)) is (c.loop-number.invariant depth describes enough)
