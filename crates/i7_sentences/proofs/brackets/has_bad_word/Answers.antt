use Rattle.std.proofs.Common.{rules, tests}
use Rattle.std.proofs.lemmas.Iterator.Search.{any_from_yields_List}
use Rattle.std.proofs.lemmas.Iterator.Splits.{YieldsList-from_slice_split}
use Rattle.i7_sentences.specs.BracketedWords.{is_gap}
use Rattle.world_meaning.specs.Literals.{is_out_of_range}
use Rattle.i7_sentences.proofs.brackets.has_bad_word.Goals as goal

pub returns : goal.returns
returns c =
    any_from_yields_List is_out_of_range _ _ _ c.any.ensures.ran
    (YieldsList-from_slice_split _ is_gap c.args.bytes.now c.split.ensures.rest c.split.ensures.done c.split.ensures.closure (λ x b q called. search (rules, tests)))
    (λ x b q called. search (rules, tests))
