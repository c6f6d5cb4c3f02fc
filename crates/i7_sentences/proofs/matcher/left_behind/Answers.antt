use Rattle.std.proofs.Common.{◌∙◌, ap, sym, length}
use Rattle.i7_sentences.specs.Matching.{left_by, looked}
use Rattle.i7_sentences.proofs.Lists.{same_last}
use Rattle.i7_sentences.proofs.Columns.{left_same}
use Rattle.i7_sentences.proofs.matcher.left_behind.Goals as goal

pub returns-in_ok-set_free-in-Some-clause-left : goal.returns-in_ok-set_free-in-Some-clause-left
returns-in_ok-set_free-in-Some-clause-left c =
    let last = same_last _ _ _ _ (sym c.in-Some.ensures ∙ c.requires.told) in
    c.left_by-left.ensures.left
    ∙ ap (λ column. left_by c.args.piece (λ others. looked column (length others)) c.args.rest.now) (c.as_slice.ensures.value ∙ last.1)
    ∙ left_same c.args.piece c.args.after.now c.args.tokens.now c.args.rest.now c.requires.suffix
