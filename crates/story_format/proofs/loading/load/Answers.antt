use Rattle.std.proofs.Common.{sym, ◌∙◌, arith}
use Rattle.std.proofs.lemmas.Result.{err_from_is_err_and}
use Rattle.story_format.proofs.ReadingLemmas.{failed_by, not_refused, only_memory, read_is, refused, story_there}
use Rattle.story_format.proofs.loading.load.Goals as goal

pub returns-in_err-version-clause-only : goal.returns-in_err-version-clause-only
returns-in_err-version-clause-only c =
    let p = err_from_is_err_and c.from_residual.result c.from_residual.ensures.1 in
    λ tables spells. rw p.1 (p.2 ∙ only_memory c.args.bytes.now tables c.in_err-version.field-0.0 spells c.in_err-version.ensures)

pub returns-in_err-version-clause-refused : goal.returns-in_err-version-clause-refused
returns-in_err-version-clause-refused c =
    let p = err_from_is_err_and c.from_residual.result c.from_residual.ensures.1 in
    rw (p.1, p.2) (refused c.args.bytes.now c.in_err-version.field-0.0 (λ i. omega (arith, c.type_inv.bytes i)) c.in_err-version.ensures)

pub new-requires-clause-story : goal.new-requires-clause-story
new-requires-clause-story c =
    let (codes, (right, sound, ordered)) = c.in-Ok.ensures.codes in
    (story_there c.args.bytes.now c.in_ok-version.version c.in_ok-version.tables (λ i. omega (arith, c.type_inv.bytes i)) c.in_ok-version.ensures right sound ordered).story

pub returns-in-Ok-clause-found : goal.returns-in-Ok-clause-found
returns-in-Ok-clause-found c =
    let (codes, (right, sound, ordered)) = c.in-Ok.ensures.codes in
    rw c.new.ensures (story_there c.args.bytes.now c.in_ok-version.version c.in_ok-version.tables (λ i. omega (arith, c.type_inv.bytes i)) c.in_ok-version.ensures right sound ordered)

pub returns-in-Ok-clause-only : goal.returns-in-Ok-clause-only
returns-in-Ok-clause-only c = λ tables spells. c.new.ensures ∙ sym (read_is c.args.bytes.now tables c.in_ok-version.version c.in_ok-version.tables spells c.in_ok-version.ensures)

pub returns-in-Err-clause-only : goal.returns-in-Err-clause-only
returns-in-Err-clause-only c = λ tables spells.
    not_refused c.args.bytes.now tables c.in-Err.fault spells
    (failed_by c.args.bytes.now c.in_ok-version.version c.in_ok-version.tables (λ i. omega (arith, c.type_inv.bytes i)) c.in_ok-version.ensures c.in-Err.fault c.in-Err.ensures.refused)

pub returns-in-Err-clause-refused : goal.returns-in-Err-clause-refused
returns-in-Err-clause-refused c =
    failed_by c.args.bytes.now c.in_ok-version.version c.in_ok-version.tables (λ i. omega (arith, c.type_inv.bytes i)) c.in_ok-version.ensures c.in-Err.fault c.in-Err.ensures.refused
