use Rattle.std.proofs.Common.{rules, tests}
use Rattle.std.proofs.lemmas.Iterator.Search.{any_from_yields_List}
use Rattle.std.proofs.lemmas.Iterator.Splits.{YieldsList-from_slice_split}
use Rattle.i7_sentences.specs.Keywords.{is_sign}
use Rattle.i7_sentences.specs.Reserved.{is_no_adjective}
use Rattle.i7_sentences.specs.declared.keyword.Keyword.TheVariants.{And}
use Rattle.i7_sentences.proofs.reserved.lacks_adjective.Goals as goal

pub returns : goal.returns
returns c =
    any_from_yields_List is_no_adjective _ _ _ c.any.ensures.ran
    (YieldsList-from_slice_split _ (is_sign And) c.args.letter.now c.split.ensures.rest c.split.ensures.done c.split.ensures.closure (λ x b q called. search (rules, tests)))
    (λ x b q called. search (rules, tests))
