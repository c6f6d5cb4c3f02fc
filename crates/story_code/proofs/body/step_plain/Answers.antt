use Rattle.std.proofs.Common.{◌≡◌, ◌∙◌, ap}
use Rattle.story_code.specs.Steps.{leads_on}
use Rattle.story_code.proofs.Stepped.{stands_again}
use Rattle.story_code.proofs.body.step_plain.Goals as goal

pub returns-in_ok-came-in-Some-clause-stands : goal.returns-in_ok-came-in-Some-clause-stands
returns-in_ok-came-in-Some-clause-stands g c came is leads =
    let same : c.in_ok-came-in-Some.came ≡ came = cc in
    stands_again (g.G.Ground.fixed c.args.ground.now) c.args.codes.now c.args.now.now (g.G.Ground.world c.args.ground.now) (g.G.Ground.world c.do_in_body.new.ground) c.args.state.now c.do_in_body.new.state
    c.args.text.now.items c.do_in_body.new.text.items c.in-Some.instruction c.requires.stands c.in-Some.ensures c.in_ok-came-in-Some.came (ap leads_on same ∙ leads)
    c.in_ok-came-in-Some.ensures.step c.in_ok-came-in-Some.ensures.small c.in_ok-came-in-Some.ensures.same
