use Rattle.std.proofs.Common.{◌∙◌, ap, subst, take, Ok, arith}
use Rattle.play_meaning.specs.declared.instruction.Instruction.TheVariants.{Next}
use Rattle.story_code.specs.Runs.{NextIs, Standing, behind}
use Rattle.story_code.proofs.Looped.{broken_off, closed, too_much, turned}
use Rattle.story_code.proofs.body.turn.Goals as goal

pub returns-then-state-ge-MOST_WORK-clause-step : goal.returns-then-state-ge-MOST_WORK-clause-step
returns-then-state-ge-MOST_WORK-clause-step g c text granted =
    let fixed = g.G.Ground.fixed c.args.ground.now in
    let w = g.G.Ground.world c.args.ground.now in
    let s = c.args.state.now in
    let is = subst (λ o. NextIs fixed c.args.codes.now c.args.now.now w s.loops c.args.number c.args.test (Ok o)) c.in-Ok-Some.field-0-is c.in-Ok-Some.ensures in
    too_much fixed c.args.codes.now c.args.now.now w s c.args.number c.args.test c.args.exit c.in-Ok-Some.object is
    (omega (arith, c.if-state-ge-MOST_WORK.true, ap (λ (x : Standing). x.work) c.state.view_is)) text

pub returns-else-state-ge-MOST_WORK-clause-step : goal.returns-else-state-ge-MOST_WORK-clause-step
returns-else-state-ge-MOST_WORK-clause-step g c text =
    let fixed = g.G.Ground.fixed c.args.ground.now in
    let w = g.G.Ground.world c.args.ground.now in
    let s = c.args.state.now in
    let is = subst (λ o. NextIs fixed c.args.codes.now c.args.now.now w s.loops c.args.number c.args.test (Ok o)) c.in-Ok-Some.field-0-is c.in-Ok-Some.ensures in
    turned fixed c.args.codes.now c.args.now.now w s c.args.number c.args.test c.args.exit c.in-Ok-Some.object c.pass.new.self is
    (omega (arith, c.if-state-ge-MOST_WORK.false, ap (λ (x : Standing). x.work) c.state.view_is))
    (c.pass.ensures ∙ ap (behind (Next c.args.number c.args.test c.args.exit)) c.turn.ensures) text

pub returns-in-Ok-None-clause-step : goal.returns-in-Ok-None-clause-step
returns-in-Ok-None-clause-step g c text =
    let fixed = g.G.Ground.fixed c.args.ground.now in
    let w = g.G.Ground.world c.args.ground.now in
    let s = c.args.state.now in
    let is = subst (λ o. NextIs fixed c.args.codes.now c.args.now.now w s.loops c.args.number c.args.test (Ok o)) c.in-Ok-None.field-0-is c.in-Ok-None.ensures in
    closed fixed c.args.codes.now c.args.now.now w s c.args.number c.args.test c.args.exit c.leap.new.self is
    (c.leap.ensures ∙ ap (λ (x : Standing). record x { place = c.from.result }) c.close.ensures ∙ ap (λ p. record s { place = p; loops = take c.args.number s.loops }) c.from.ensures) text

pub returns-in-Err-clause-step : goal.returns-in-Err-clause-step
returns-in-Err-clause-step g c text =
    broken_off (g.G.Ground.fixed c.args.ground.now) c.args.codes.now c.args.now.now (g.G.Ground.world c.args.ground.now) c.args.state.now c.args.number c.args.test c.args.exit c.in-Err.reason c.in-Err.ensures text
