use Rattle.std.proofs.Common.{◌≡◌, ◌∙◌, ◌++◌, ap, sym}
use Rattle.golden_transcripts.proofs.Parts.{behind_behind, parted}
use Rattle.golden_transcripts.proofs.trial.tried.Goals as goal

pub returns-clause-parts : goal.returns-clause-parts
returns-clause-parts c =
    let begun = c.in-Ok-found_in.found.begun.now in
    let after = c.take_left.new.self.rest.now in
    let behind = behind_behind begun c.found_in.new.file.rest.now after c.in-Ok-found_in.ensures.behind (record { front = c.take_left.result.now; parts = c.take_left.ensures }) in
    c.in-Ok-found_in.ensures.parts
    ∙ ap (λ rest. c.in-Ok-found_in.found.comments.now ++ rest)
    (parted begun after behind ∙ ap (λ front. front ++ after) (sym c.split_at.ensures.front) ∙ ap (λ rest. c.split_at.result.0.now ++ rest) c.take_breaks-breaks.ensures)
