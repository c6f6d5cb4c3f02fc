use Rattle.std.proofs.lemmas.Result.{err_from_is_err_and}
use Rattle.story_file.specs.Compilations.IsRefused.{unread, unspelled}
use Rattle.story_file.proofs.compiler.sentences_said.Goals as goal

pub returns-in_err-lexed-clause-refused : goal.returns-in_err-lexed-clause-refused
returns-in_err-lexed-clause-refused c =
    let p = err_from_is_err_and c.from_residual.result c.from_residual.ensures.1 in
    rw (p.1, p.2) (unspelled c.in_err-lexed.ensures)

pub returns-in_err-sentences-clause-refused : goal.returns-in_err-sentences-clause-refused
returns-in_err-sentences-clause-refused c =
    let p = err_from_is_err_and c.from_residual-in_err-sentences.result c.from_residual-in_err-sentences.ensures.1 in
    rw (p.1, p.2) (unread (record { tokens = c.in_ok-lexed.lexed; spells = c.in_ok-lexed.ensures; unread = c.in_err-sentences.ensures }))

pub returns-clause-said : goal.returns-clause-said
returns-clause-said c = record { tokens = c.in_ok-lexed.lexed; spells = c.in_ok-lexed.ensures; reads = c.in_ok-sentences.ensures }
