use Rattle.std.proofs.Common.{List, ap, subst, ◌∙◌}
use Rattle.std.specs.Prelude.{reverse}
use Rattle.i7_rules.specs.Knowns.{known_of}
use Rattle.i7_rules.specs.RuleList.{placed, rules_lent}
use Rattle.i7_rules.specs.RuleScans.{IsLow, IsSoFar, line_behind, state_of}
use Rattle.i7_rules.specs.SourceRules.{IsNamedTwice, most_rules}
use Rattle.i7_rules.specs.declared.rule_list.RuleAt.{RuleAt as Lent}
use Rattle.i7_rules.proofs.Whole.{sentences_told}
use Rattle.i7_rules.proofs.source_rules.rules_of.Goals as goal

pub returns : goal.returns
returns c =
    let k = known_of c.args.known.now in
    sentences_told k c.args.sentences.now (rules_lent c.in_ok-rules.rules.items) c.in_ok-twice.twice c.one_too_many-too_many.result c.in_ok-so_far.so_far c.told.result c.in_ok-rules.ensures
    (subst (λ (all : List Lent). IsLow IsNamedTwice (placed (reverse (rules_lent all))) c.in_ok-twice.twice) c.as_slice.ensures.value c.in_ok-twice.ensures)
    (subst (λ (all : List Lent). IsSoFar k (reverse (rules_lent all)) (state_of c.in_ok-so_far.so_far)) c.as_slice-2.ensures.value c.in_ok-so_far.ensures)
    (c.one_too_many-too_many.ensures ∙ ap (λ (all : List Lent). line_behind (rules_lent all) most_rules) c.as_slice-3.ensures.value)
    c.told.ensures
