use Rattle.std.proofs.Common.{◌∙◌, ◌++◌, ap}
use Rattle.play_meaning.specs.Saying.{listed}
use Rattle.story_code.proofs.Listed.{listed_broken, listed_step}
use Rattle.story_code.proofs.listing.say_passing.Goals as goal

pub returns-in_ok-say_listed-in-Ok-clause-step : goal.returns-in_ok-say_listed-in-Ok-clause-step
returns-in_ok-say_listed-in-Ok-clause-step g c =
    let fixed = g.G.Ground.fixed c.args.ground.now in
    let l = c.args.listing in
    listed_step fixed c.args.codes.now c.args.now.now (g.G.Ground.world c.args.ground.now) c.args.state.now l.naming l.number l.test c.requires.loops
    c.pass.new.self c.args.text.now.items c.say_listed.new.text.items c.in-Ok.objects.items c.pass.ensures
    (c.in_ok-say_listed-in-Ok.ensures.said ∙ ap (λ objects. c.args.text.now.items ++ listed fixed.setting l.naming objects) c.as_slice.ensures.value) c.in-Ok.ensures

pub returns-in-Err-clause-step : goal.returns-in-Err-clause-step
returns-in-Err-clause-step g c =
    let l = c.args.listing in
    listed_broken (g.G.Ground.fixed c.args.ground.now) c.args.codes.now c.args.now.now (g.G.Ground.world c.args.ground.now) c.args.state.now l.naming l.number l.test c.requires.loops
    c.in-Err.reason c.args.text.now.items c.in-Err.ensures
