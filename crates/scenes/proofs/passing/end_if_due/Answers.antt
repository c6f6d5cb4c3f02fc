use Rattle.std.proofs.Common.{ap, sym, ◌∙◌, subst, Ok}
use Rattle.std.proofs.lemmas.Result.{err_from_is_err_and}
use Rattle.action_stages.specs.Answering.{Answers}
use Rattle.action_stages.specs.Stages.{progress_of, story_of}
use Rattle.scenes.proofs.Scenes.{ending_breaks, has_ended, not_ended}
use Rattle.scenes.proofs.passing.end_if_due.Goals as goal

pub returns-in_err-ends_now-clause-answer : goal.returns-in_err-ends_now-clause-answer
returns-in_err-ends_now-clause-answer g c =
    let p = err_from_is_err_and c.from_residual.result c.from_residual.ensures.1 in
    let stage = c.args.stage.now in
    rw (p.1, p.2) (λ other. ending_breaks (story_of stage) c.args.scene c.args.entry.now c.requires.entry (progress_of stage) c.in_err-ends_now.field-0.0 (c.in_err-ends_now.ensures.answer other))

pub returns-then-not-branch-clause-answer : goal.returns-then-not-branch-clause-answer
returns-then-not-branch-clause-answer g c =
    let stage = c.args.stage.now in
    not_ended (story_of stage) c.args.scene c.args.entry.now c.requires.entry (progress_of stage) (c.in_ok-ends_now.ensures.answer ∙ ap Ok c.if-not-branch.true)
    ∙ ap Ok (sym c.in_ok-ends_now.ensures.progress)

pub returns-clause-answer : goal.returns-clause-answer
returns-clause-answer g c =
    let stage = c.args.stage.now in
    let behind = c.ends_now.new.stage in
    subst (Answers c.set_and_follow.result (λ done. progress_of c.set_and_follow.new.stage))
    (has_ended (story_of stage) c.args.scene c.args.entry.now c.requires.entry (progress_of stage) (story_of behind) (progress_of behind) c.ends_book.result
    (c.in_ok-ends_now.ensures.answer ∙ ap Ok c.if-not-branch.false) c.in_ok-ends_now.ensures.story c.in_ok-ends_now.ensures.progress c.ends_book.ensures)
    c.set_and_follow.ensures.answer
