use Rattle.std.proofs.Common.{List, subst}
use Rattle.std.specs.Prelude.{reverse}
use Rattle.i7_rules.specs.Knowns.{known_of}
use Rattle.i7_resolution.specs.TextList.{texts_lent}
use Rattle.i7_resolution.specs.TextScans.{IsSoFar, state_of}
use Rattle.i7_resolution.specs.declared.text_list.TextAt.{TextAt as Lent}
use Rattle.i7_resolution.proofs.ReadTexts.{sentences_told}
use Rattle.i7_resolution.proofs.source_texts.texts_of.Goals as goal

pub returns : goal.returns
returns c =
    let k = known_of c.args.known.now in
    sentences_told k c.args.sentences.now (texts_lent c.in_ok-texts.texts.items) c.in_ok-so_far.so_far c.told.result c.in_ok-texts.ensures
    (subst (λ (all : List Lent). IsSoFar k (reverse (texts_lent all)) (state_of c.in_ok-so_far.so_far)) c.as_slice.ensures.value c.in_ok-so_far.ensures)
    c.told.ensures
