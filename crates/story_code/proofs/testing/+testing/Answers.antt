use Rattle.std.proofs.Common.{◌∙◌, ap, sym, subst, ◌++◌, [], ◌∷◌, Some, Ok, Err, of_z, to_z, w32, arith}
use Rattle.std.specs.Prelude.{MatchOption}
use Rattle.play_meaning.specs.Machines.{Abandons, Answers, Leaves}
use Rattle.play_meaning.specs.declared.instruction.Instruction.{Instruction}
use Rattle.play_meaning.specs.declared.outcome.Flow.TheVariants.{GoesOn}
use Rattle.play_meaning.specs.declared.instruction.Instruction.TheVariants.{Count}
use Rattle.story_code.specs.Runs.{BreaksOff, IsFetched, Leads, LoopsSuit, Standing, count_passing, TestIs, behind, passes_in, state_in}
use Rattle.story_code.specs.declared.came.Came.TheVariants.{On}
use Rattle.story_code.specs.Testing.{IsRunning, begun}
use Rattle.story_code.proofs.Answered.{answered_step, answers_so, begins_so, broken_step, counted_broken, counted_least, counted_next, count_broken, count_step, left_step, on_step, read_back}
use Rattle.story_code.proofs.testing.+testing.Goals as goal

pub answer-loop-instruction-init : goal.answer-loop-instruction-init
answer-loop-instruction-init g t c =
    let fixed = g.G.Ground.fixed c.args.ground.now in
    let w = g.G.Ground.world c.args.ground.now in
    subst (λ (s : Standing). IsRunning fixed c.args.codes.now c.args.now.now w (begun c.args.number c.args.loops) [] s []) (sym c.inside-state.ensures)
    (begins_so fixed c.args.codes.now c.args.now.now w c.args.number c.args.loops c.requires.sound c.requires.there)

pub answer-loop-instruction-smaller : goal.answer-loop-instruction-smaller
answer-loop-instruction-smaller g t c =
    let s = c.loop-instruction.state in
    let fetched = subst (λ o. MatchOption o ⊥ (IsFetched c.args.codes.now s)) c.in-Some.is c.fetch.ensures in
    (on_step (g.G.Ground.fixed c.args.ground.now) c.args.codes.now c.args.now.now (g.G.Ground.world c.args.ground.now) (begun c.args.number c.args.loops) [] s c.ask_in_test.new.state [] [] c.in-Some.instruction
    c.ask_in_test.result c.loop-instruction.invariant fetched (c.ask_in_test.ensures.step []) c.ask_in_test.ensures.small c.ask_in_test.ensures.same (c.in-Ok-On.is ∙ ap Ok c.in-Ok-On.field-0-is)).1

pub answer-loop-instruction-preserved : goal.answer-loop-instruction-preserved
answer-loop-instruction-preserved g t c =
    let s = c.loop-instruction.state in
    let fetched = subst (λ o. MatchOption o ⊥ (IsFetched c.args.codes.now s)) c.in-Some.is c.fetch.ensures in
    (on_step (g.G.Ground.fixed c.args.ground.now) c.args.codes.now c.args.now.now (g.G.Ground.world c.args.ground.now) (begun c.args.number c.args.loops) [] s c.ask_in_test.new.state [] [] c.in-Some.instruction
    c.ask_in_test.result c.loop-instruction.invariant fetched (c.ask_in_test.ensures.step []) c.ask_in_test.ensures.small c.ask_in_test.ensures.same (c.in-Ok-On.is ∙ ap Ok c.in-Ok-On.field-0-is)).0

pub answer-returns-in-Ok-Left : goal.answer-returns-in-Ok-Left
answer-returns-in-Ok-Left g t c =
    let s = c.loop-instruction.state in
    let fetched = subst (λ o. MatchOption o ⊥ (IsFetched c.args.codes.now s)) c.in-Some.is c.fetch.ensures in
    answers_so (g.G.Ground.fixed c.args.ground.now) c.args.codes.now c.args.now.now (g.G.Ground.world c.args.ground.now) c.args.number c.args.loops (Leaves GoesOn (state_in c.ask_in_test.new.state (g.G.Ground.world c.args.ground.now) []).progress) c.requires.there
    (left_step (g.G.Ground.fixed c.args.ground.now) c.args.codes.now c.args.now.now (g.G.Ground.world c.args.ground.now) (begun c.args.number c.args.loops) [] s c.ask_in_test.new.state [] [] c.in-Some.instruction
    c.ask_in_test.result c.loop-instruction.invariant fetched (c.ask_in_test.ensures.step []) (c.in-Ok-Left.is ∙ ap Ok c.in-Ok-Left.field-0-is))

pub answer-returns-in-Ok-Answered : goal.answer-returns-in-Ok-Answered
answer-returns-in-Ok-Answered g t c =
    let s = c.loop-instruction.state in
    let fetched = subst (λ o. MatchOption o ⊥ (IsFetched c.args.codes.now s)) c.in-Some.is c.fetch.ensures in
    answers_so (g.G.Ground.fixed c.args.ground.now) c.args.codes.now c.args.now.now (g.G.Ground.world c.args.ground.now) c.args.number c.args.loops (Answers c.in-Ok-Answered.truth) c.requires.there
    (answered_step (g.G.Ground.fixed c.args.ground.now) c.args.codes.now c.args.now.now (g.G.Ground.world c.args.ground.now) (begun c.args.number c.args.loops) [] s c.ask_in_test.new.state [] [] c.in-Some.instruction
    c.ask_in_test.result c.in-Ok-Answered.truth c.loop-instruction.invariant fetched (c.ask_in_test.ensures.step []) (c.in-Ok-Answered.is ∙ ap Ok c.in-Ok-Answered.field-0-is))

pub answer-returns-in-Err : goal.answer-returns-in-Err
answer-returns-in-Err g t c granted =
    let s = c.loop-instruction.state in
    let fetched = subst (λ o. MatchOption o ⊥ (IsFetched c.args.codes.now s)) c.in-Some.is c.fetch.ensures in
    answers_so (g.G.Ground.fixed c.args.ground.now) c.args.codes.now c.args.now.now (g.G.Ground.world c.args.ground.now) c.args.number c.args.loops (Abandons c.in-Err.reason) c.requires.there
    (broken_step (g.G.Ground.fixed c.args.ground.now) c.args.codes.now c.args.now.now (g.G.Ground.world c.args.ground.now) (begun c.args.number c.args.loops) [] s c.ask_in_test.new.state [] [] c.in-Some.instruction
    c.ask_in_test.result c.in-Err.reason c.loop-instruction.invariant fetched (c.ask_in_test.ensures.step []) c.in-Err.is granted)

pub count_or_ask-returns-in-Ok-clause-step : goal.count_or_ask-returns-in-Ok-clause-step
count_or_ask-returns-in-Ok-clause-step g t c text =
    let fixed = g.G.Ground.fixed c.args.ground.now in
    let w = g.G.Ground.world c.args.ground.now in
    let s = c.args.state.now in
    let counted = Count c.in-Count.field-0 c.in-Count.test in
    let runs = subst (λ (i : Instruction). LoopsSuit c.args.codes.now s i) c.in-Count.is c.requires.loops in
    subst (λ (i : Instruction). Leads fixed c.args.codes.now c.args.now.now w i s text On c.pass.new.self text) (sym c.in-Count.is)
    (count_step fixed c.args.codes.now c.args.now.now w s c.in-Count.field-0 c.in-Count.test runs c.pass.new.self c.in-Ok.count (to_z w32 (of_z w32 c.from.result)) (read_back c.from.result c.from.type_inv ∙ c.from.ensures)
    (c.pass.ensures ∙ ap (behind counted) c.push.ensures) c.in-Ok.ensures text)

pub count_or_ask-returns-in-Err-clause-step : goal.count_or_ask-returns-in-Err-clause-step
count_or_ask-returns-in-Err-clause-step g t c text =
    let fixed = g.G.Ground.fixed c.args.ground.now in
    let w = g.G.Ground.world c.args.ground.now in
    let s = c.args.state.now in
    let runs = subst (λ (i : Instruction). LoopsSuit c.args.codes.now s i) c.in-Count.is c.requires.loops in
    subst (λ (i : Instruction). BreaksOff fixed c.args.codes.now c.args.now.now w i s text c.in-Err.reason) (sym c.in-Count.is)
    (count_broken fixed c.args.codes.now c.args.now.now w s c.in-Count.field-0 c.in-Count.test runs c.in-Err.reason c.in-Err.ensures text)

pub count_in-returns-in-Err : goal.count_in-returns-in-Err
count_in-returns-in-Err g t c granted depth describes enough =
    let fixed = g.G.Ground.fixed c.args.ground.now in
    let w = g.G.Ground.world c.args.ground.now in
    let f = passes_in fixed c.args.codes.now c.args.now.now w depth describes c.args.test c.args.state.now.loops in
    let loops = c.with-loops.ensures ∙ ap (λ (x : Standing). x.loops ++ Some c.new.result ∷ []) c.state.view_is ∙ ap (λ n. c.args.state.now.loops ++ Some n ∷ []) c.new.ensures in
    let broke = subst (λ open_loops. TestIs fixed c.args.codes.now c.args.now.now w c.args.test open_loops (Err c.in-Err.reason)) loops (c.in-Err.ensures granted) depth describes enough in
    counted_broken f fixed.setting.count (count_passing f fixed.setting.count 0) c.in-Err.reason c.loop-number.count c.loop-number.number (omega (arith, c.loop-number-test.true, c.object_count-number-end.ensures))
    broke (c.loop-number.invariant.1 depth describes enough)

pub count_in-loop-number-preserved : goal.count_in-loop-number-preserved
count_in-loop-number-preserved g t c = (
  counted_least c.in-Ok.passes c.loop-number.count c.loop-number.number c.counted_if-count.result c.counted_if-count.ensures c.loop-number.invariant.0,
  λ depth describes enough.
      let fixed = g.G.Ground.fixed c.args.ground.now in
      let w = g.G.Ground.world c.args.ground.now in
      let f = passes_in fixed c.args.codes.now c.args.now.now w depth describes c.args.test c.args.state.now.loops in
      let loops = c.with-loops.ensures ∙ ap (λ (x : Standing). x.loops ++ Some c.new.result ∷ []) c.state.view_is ∙ ap (λ n. c.args.state.now.loops ++ Some n ∷ []) c.new.ensures in
      let is = subst (λ open_loops. TestIs fixed c.args.codes.now c.args.now.now w c.args.test open_loops (Ok c.in-Ok.passes)) loops c.in-Ok.ensures depth describes enough in
      counted_next f fixed.setting.count (count_passing f fixed.setting.count 0) c.in-Ok.passes c.loop-number.count c.loop-number.number c.counted_if-count.result c.counted_if-count.ensures
      (omega (arith, c.loop-number-test.true, c.object_count-number-end.ensures)) is (c.loop-number.invariant.1 depth describes enough),
)
