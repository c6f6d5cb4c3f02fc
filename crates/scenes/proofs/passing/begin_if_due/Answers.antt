use Rattle.std.proofs.lemmas.Result.{err_from_is_err_and}
use Rattle.action_stages.specs.Stages.{progress_of, story_of}
use Rattle.scenes.proofs.Scenes.{beginning_breaks}
use Rattle.scenes.proofs.passing.begin_if_due.Goals as goal

pub returns-in_err-begins-clause-answer : goal.returns-in_err-begins-clause-answer
returns-in_err-begins-clause-answer g c =
    let p = err_from_is_err_and c.from_residual.result c.from_residual.ensures.1 in
    let stage = c.args.stage.now in
    rw (p.1, p.2) (λ other. beginning_breaks (story_of stage) c.args.scene c.args.entry.now c.requires.entry (progress_of stage) c.in_err-begins.field-0.0 (c.in_err-begins.ensures.answer other))
