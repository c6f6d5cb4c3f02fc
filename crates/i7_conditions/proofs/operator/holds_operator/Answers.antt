use Rattle.std.proofs.Common.{rules, tests}
use Rattle.std.proofs.lemmas.Iterator.Search.{any_from_yields_List}
use Rattle.std.proofs.lemmas.Iterator.Splits.{YieldsList-from_slice_split}
use Rattle.i7_conditions.specs.Operators.{is_blank, is_operator}
use Rattle.i7_conditions.proofs.operator.holds_operator.Goals as goal

pub returns : goal.returns
returns c =
    any_from_yields_List is_operator _ _ _ c.any.ensures.ran
    (YieldsList-from_slice_split _ is_blank c.args.name.now c.split.ensures.rest c.split.ensures.done c.split.ensures.closure (λ x b q called. search (rules, tests)))
    (λ x b q called. search (rules, tests))
