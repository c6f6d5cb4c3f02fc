use Rattle.std.proofs.Common.{rules, tests}
use Rattle.std.proofs.lemmas.Iterator.Search.{all_from_yields_List}
use Rattle.std.proofs.lemmas.Iterator.Splits.{YieldsList-from_slice_split}
use Rattle.i7_sentences.specs.Conditions.{is_basic, parts_conditions}
use Rattle.i7_sentences.proofs.condition.is_condition.Goals as goal

pub returns : goal.returns
returns c =
    all_from_yields_List is_basic _ _ _ c.all.ensures.ran
    (YieldsList-from_slice_split _ parts_conditions c.args.words.now c.split.ensures.rest c.split.ensures.done c.split.ensures.closure (λ x b q called. search (rules, tests)))
    (λ x b q called. search (rules, tests))
