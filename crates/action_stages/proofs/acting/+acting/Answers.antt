use Rattle.std.proofs.Common.{ap, subst, ◌∙◌, Ok}
use Rattle.play_meaning.specs.Consulting.{consult}
use Rattle.play_meaning.specs.Acting.{inner_of}
use Rattle.play_meaning.specs.CodedStories.{game_of_codes}
use Rattle.story_code.specs.Steps.{leads_on}
use Rattle.world_store.specs.StoryPlay.{coded_story}
use Rattle.action_stages.specs.Bodies.{CameTo, at, step_at}
use Rattle.action_stages.proofs.Running.{steps_break, steps_end, steps_on}
use Rattle.action_stages.proofs.Walking.{walk_breaks, walk_decides, walk_ends, walk_goes, walk_over}
use Rattle.action_stages.proofs.acting.+acting.Goals as goal

-- ---- a step of a body

pub step_in-returns-in-GoesOn-clause-stands : goal.step_in-returns-in-GoesOn-clause-stands
step_in-returns-in-GoesOn-clause-stands g t c = λ none. c.in_ok-step.ensures.stands (ap leads_on c.in-GoesOn.is)

pub step_in-returns-in_ok-tries_in-in-Try-clause-stands : goal.step_in-returns-in_ok-tries_in-in-Try-clause-stands
step_in-returns-in_ok-tries_in-in-Try-clause-stands g t c = λ none. c.in_ok-step.ensures.stands (ap leads_on c.in-Try.is)

pub step_in-returns-in_ok-follows_in-in-Follow-clause-stands : goal.step_in-returns-in_ok-follows_in-in-Follow-clause-stands
step_in-returns-in_ok-follows_in-in-Follow-clause-stands g t c = λ none. c.in_ok-step.ensures.stands (ap leads_on c.in-Follow.is)

-- ---- a body, step by step

pub code_in-steps-smaller : goal.code_in-steps-smaller
code_in-steps-smaller g t c =
    let progress = g.P.Playing.progress in
    (steps_on (coded_story (g.P.Playing.tables c.args.play.now)) (coded_story (g.P.Playing.tables c.steps.play)) (ap coded_story c.steps.invariant.same) c.args.codes.now
    c.requires.told c.runs_begin_standing.ensures.does c.args.code c.requires.body c.args.now.now c.args.depth (progress c.args.play.now)
    c.steps.state c.step_in.new.state (progress c.steps.play) (progress c.step_in.new.play) c.steps.invariant.runs
    (subst (λ left. CameTo (step_at (coded_story (g.P.Playing.tables c.steps.play)) c.args.now.now (inner_of (game_of_codes (coded_story (g.P.Playing.tables c.steps.play)))
    c.args.depth) c.steps.state (progress c.steps.play)) (Ok left) (at c.step_in.new.state (progress c.step_in.new.play))) c.in-Ok-None.field-0-is c.in-Ok-None.ensures.came)
    (c.in-Ok-None.ensures.stands (ap Ok c.in-Ok-None.field-0-is)) c.in-Ok-None.ensures.code).1

pub code_in-steps-preserved : goal.code_in-steps-preserved
code_in-steps-preserved g t c =
    let progress = g.P.Playing.progress in
    record {
      same = c.in-Ok-None.ensures.same ∙ c.steps.invariant.same;
      kept = c.in-Ok-None.ensures.kept ∙ c.steps.invariant.kept;
      runs = (steps_on (coded_story (g.P.Playing.tables c.args.play.now)) (coded_story (g.P.Playing.tables c.steps.play)) (ap coded_story c.steps.invariant.same) c.args.codes.now
          c.requires.told c.runs_begin_standing.ensures.does c.args.code c.requires.body c.args.now.now c.args.depth (progress c.args.play.now)
          c.steps.state c.step_in.new.state (progress c.steps.play) (progress c.step_in.new.play) c.steps.invariant.runs
          (subst (λ left. CameTo (step_at (coded_story (g.P.Playing.tables c.steps.play)) c.args.now.now (inner_of (game_of_codes (coded_story (g.P.Playing.tables c.steps.play)))
          c.args.depth) c.steps.state (progress c.steps.play)) (Ok left) (at c.step_in.new.state (progress c.step_in.new.play))) c.in-Ok-None.field-0-is c.in-Ok-None.ensures.came)
          (c.in-Ok-None.ensures.stands (ap Ok c.in-Ok-None.field-0-is)) c.in-Ok-None.ensures.code).0;
    }

pub code_in-returns-in-Ok-Some-clause-answer : goal.code_in-returns-in-Ok-Some-clause-answer
code_in-returns-in-Ok-Some-clause-answer g t c =
    let progress = g.P.Playing.progress in
    steps_end (coded_story (g.P.Playing.tables c.args.play.now)) (coded_story (g.P.Playing.tables c.steps.play)) (ap coded_story c.steps.invariant.same) c.args.codes.now
    c.requires.told c.runs_begin_standing.ensures.does c.args.code c.requires.body c.args.now.now c.args.depth (progress c.args.play.now)
    c.steps.state (progress c.steps.play) (progress c.step_in.new.play) c.in-Ok-Some.flow c.is_within.ensures c.steps.invariant.runs
    (subst (λ left. CameTo (step_at (coded_story (g.P.Playing.tables c.steps.play)) c.args.now.now (inner_of (game_of_codes (coded_story (g.P.Playing.tables c.steps.play)))
    c.args.depth) c.steps.state (progress c.steps.play)) (Ok left) (at c.step_in.new.state (progress c.step_in.new.play))) c.in-Ok-Some.field-0-is c.in-Ok-Some.ensures.came)

pub code_in-returns-in-Err-clause-answer : goal.code_in-returns-in-Err-clause-answer
code_in-returns-in-Err-clause-answer g t c = λ other.
    let progress = g.P.Playing.progress in
    steps_break (coded_story (g.P.Playing.tables c.args.play.now)) (coded_story (g.P.Playing.tables c.steps.play)) (ap coded_story c.steps.invariant.same) c.args.codes.now
    c.requires.told c.runs_begin_standing.ensures.does c.args.code c.requires.body c.args.now.now c.args.depth (progress c.args.play.now)
    c.steps.state (progress c.steps.play) c.in-Err.reason c.is_within.ensures c.steps.invariant.runs (c.in-Err.ensures.came other)

-- ---- a rulebook, rule by rule

pub consult_in-loop-place-preserved : goal.consult_in-loop-place-preserved
consult_in-loop-place-preserved g t c =
    let progress = g.P.Playing.progress in
    record {
      same = c.in-Ok-None.ensures.same ∙ c.loop-place.invariant.same;
      kept = c.in-Ok-None.ensures.kept ∙ c.loop-place.invariant.kept;
      rest = walk_goes (coded_story (g.P.Playing.tables c.args.play.now)) (coded_story (g.P.Playing.tables c.loop-place.play)) (ap coded_story c.loop-place.invariant.same) c.args.depth
          c.args.book c.with_nouns-now.result c.in-Some.place c.in-Some.rule (progress c.loop-place.play)
          (consult (game_of_codes (coded_story (g.P.Playing.tables c.args.play.now))) (inner_of (game_of_codes (coded_story (g.P.Playing.tables c.args.play.now))) c.args.depth)
          c.args.book c.args.now.now (progress c.args.play.now))
          (progress c.ask_in.new.play) c.in-Ok-None.field-0 (walk_over (coded_story (g.P.Playing.tables c.args.play.now)) (coded_story (g.P.Playing.tables c.loop-place.play)) (ap coded_story c.loop-place.invariant.same) c.args.depth
          c.args.book c.with_nouns-now.result c.loop-place.from (progress c.loop-place.play)
          (consult (game_of_codes (coded_story (g.P.Playing.tables c.args.play.now))) (inner_of (game_of_codes (coded_story (g.P.Playing.tables c.args.play.now))) c.args.depth)
          c.args.book c.args.now.now (progress c.args.play.now))
          c.in-Some.place c.in-Some.rule c.in-Some.ensures.next c.loop-place.invariant.rest) c.in-Some.ensures.next.there c.in-Ok-None.ensures.answer c.in-Ok-None.field-0-is;
    }

pub consult_in-returns-in-Ok-Some-clause-answer : goal.consult_in-returns-in-Ok-Some-clause-answer
consult_in-returns-in-Ok-Some-clause-answer g t c =
    let progress = g.P.Playing.progress in
    walk_decides (coded_story (g.P.Playing.tables c.args.play.now)) (coded_story (g.P.Playing.tables c.loop-place.play)) (ap coded_story c.loop-place.invariant.same) c.args.depth
    c.args.book c.with_nouns-now.result c.in-Some.place c.in-Some.rule (progress c.loop-place.play)
    (consult (game_of_codes (coded_story (g.P.Playing.tables c.args.play.now))) (inner_of (game_of_codes (coded_story (g.P.Playing.tables c.args.play.now))) c.args.depth) c.args.book
    c.args.now.now (progress c.args.play.now))
    (progress c.ask_in.new.play) c.in-Ok-Some.field-0 (walk_over (coded_story (g.P.Playing.tables c.args.play.now)) (coded_story (g.P.Playing.tables c.loop-place.play)) (ap coded_story c.loop-place.invariant.same) c.args.depth
    c.args.book c.with_nouns-now.result c.loop-place.from (progress c.loop-place.play)
    (consult (game_of_codes (coded_story (g.P.Playing.tables c.args.play.now))) (inner_of (game_of_codes (coded_story (g.P.Playing.tables c.args.play.now))) c.args.depth)
    c.args.book c.args.now.now (progress c.args.play.now))
    c.in-Some.place c.in-Some.rule c.in-Some.ensures.next c.loop-place.invariant.rest) c.in-Some.ensures.next.there c.in-Ok-Some.ensures.answer c.in-Ok-Some.outcome c.in-Ok-Some.field-0-is

pub consult_in-returns-in-Err-clause-answer : goal.consult_in-returns-in-Err-clause-answer
consult_in-returns-in-Err-clause-answer g t c = λ other.
    let progress = g.P.Playing.progress in
    walk_breaks (coded_story (g.P.Playing.tables c.args.play.now)) (coded_story (g.P.Playing.tables c.loop-place.play)) (ap coded_story c.loop-place.invariant.same) c.args.depth
    c.args.book c.with_nouns-now.result c.in-Some.place c.in-Some.rule (progress c.loop-place.play)
    (consult (game_of_codes (coded_story (g.P.Playing.tables c.args.play.now))) (inner_of (game_of_codes (coded_story (g.P.Playing.tables c.args.play.now))) c.args.depth) c.args.book
    c.args.now.now (progress c.args.play.now))
    c.in-Err.reason (walk_over (coded_story (g.P.Playing.tables c.args.play.now)) (coded_story (g.P.Playing.tables c.loop-place.play)) (ap coded_story c.loop-place.invariant.same) c.args.depth
    c.args.book c.with_nouns-now.result c.loop-place.from (progress c.loop-place.play)
    (consult (game_of_codes (coded_story (g.P.Playing.tables c.args.play.now))) (inner_of (game_of_codes (coded_story (g.P.Playing.tables c.args.play.now))) c.args.depth)
    c.args.book c.args.now.now (progress c.args.play.now))
    c.in-Some.place c.in-Some.rule c.in-Some.ensures.next c.loop-place.invariant.rest) c.in-Some.ensures.next.there (c.in-Err.ensures.answer other)

pub consult_in-returns-clause-answer : goal.consult_in-returns-clause-answer
consult_in-returns-clause-answer g t c =
    let progress = g.P.Playing.progress in
    walk_ends (coded_story (g.P.Playing.tables c.args.play.now)) (coded_story (g.P.Playing.tables c.loop-place.play)) (ap coded_story c.loop-place.invariant.same) c.args.depth
    c.args.book c.with_nouns-now.result c.loop-place.from (progress c.loop-place.play)
    (consult (game_of_codes (coded_story (g.P.Playing.tables c.args.play.now))) (inner_of (game_of_codes (coded_story (g.P.Playing.tables c.args.play.now))) c.args.depth)
    c.args.book c.args.now.now (progress c.args.play.now))
    c.in_default.ensures.next c.loop-place.invariant.rest
