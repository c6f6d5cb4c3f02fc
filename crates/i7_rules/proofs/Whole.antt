-- What is told of all rules is what they are, by what was found of them.
use Rattle.std.proofs.Common.{◌≡◌, ℕ, Bool, true, false, List, refl, sym, subst}
use Rattle.std.specs.Prelude.{Option, None, Some, if◌then◌else◌, nat_lt, reverse}
use Rattle.world_meaning.specs.declared.fault.FaultCode.TheVariants.{NotUnderstood, TooMany, Twice, UnknownName, WrongKind}
use Rattle.i7_sentences.specs.Lowest.{IsNowhere, lower_of}
use Rattle.i7_sentences.specs.declared.sentence.Sentence.{Sentence}
use Rattle.i7_rules.specs.Knowns.{Known}
use Rattle.i7_rules.specs.RuleList.{RuleAt, placed, rules_in}
use Rattle.i7_rules.specs.RuleScans.{IsLow, IsSoFar, line_behind, refused_or, so_far_told, state_of}
use Rattle.i7_rules.specs.SourceRules.{AreFound, HoldsTooMuch, IsMisplaced, IsNamedTwice, IsOneTooMany, IsOver, IsRulesFound, IsUnknown, IsUnnested, most_rules}
use Rattle.i7_rules.specs.declared.source_rules.RulesFound.{RulesFound}
use Rattle.i7_rules.specs.declared.source_rules.SoFar.{SoFar}
use Rattle.i7_rules.proofs.Counted.{one_too_many}
use Rattle.i7_rules.proofs.Lows.{low_either}

-- where neither of two lines is there the first isn't
no_first : (a b : Option ℕ) → lower_of a b ≡ None → a ≡ None
no_first None b none = refl
no_first (Some a) None none = let no : ⊥ = cc in absurd no
no_first (Some a) (Some b) none = by_less (nat_lt b a) none
  where
    by_less : (here : Bool) → (if here then Some b else Some a) ≡ None → Some a ≡ None
    by_less true e = let no : ⊥ = cc in absurd no
    by_less false e = e

module _ (k : Known) (rules : List RuleAt) where
  by_unnested : (line : Option ℕ) (next : RulesFound) → IsNowhere IsNamedTwice (placed rules) → IsNowhere (IsUnknown k) (placed rules) → IsNowhere (IsMisplaced k) (placed rules) → IsNowhere (IsOver k) (placed rules)
      → IsLow (IsUnnested k) (placed rules) line → (IsNowhere (IsUnnested k) (placed rules) → line ≡ None → AreFound k rules next) → AreFound k rules (refused_or NotUnderstood line next)
  by_unnested None next apart known in_rooms within low all = all low refl
  by_unnested (Some line) next apart known in_rooms within low all = (apart, known, in_rooms, within, low)

  by_over : (line : Option ℕ) (next : RulesFound) → IsNowhere IsNamedTwice (placed rules) → IsNowhere (IsUnknown k) (placed rules) → IsNowhere (IsMisplaced k) (placed rules) → IsLow (IsOver k) (placed rules) line
      → (IsNowhere (IsOver k) (placed rules) → line ≡ None → AreFound k rules next) → AreFound k rules (refused_or TooMany line next)
  by_over None next apart known in_rooms low all = all low refl
  by_over (Some line) next apart known in_rooms low all = (apart, known, in_rooms, low)

  by_misplaced : (line : Option ℕ) (next : RulesFound) → IsNowhere IsNamedTwice (placed rules) → IsNowhere (IsUnknown k) (placed rules) → IsLow (IsMisplaced k) (placed rules) line
      → (IsNowhere (IsMisplaced k) (placed rules) → line ≡ None → AreFound k rules next) → AreFound k rules (refused_or WrongKind line next)
  by_misplaced None next apart known low all = all low refl
  by_misplaced (Some line) next apart known low all = (apart, known, low)

  by_unknown : (line : Option ℕ) (next : RulesFound) → IsNowhere IsNamedTwice (placed rules) → IsLow (IsUnknown k) (placed rules) line
      → (IsNowhere (IsUnknown k) (placed rules) → line ≡ None → AreFound k rules next) → AreFound k rules (refused_or UnknownName line next)
  by_unknown None next apart low all = all low refl
  by_unknown (Some line) next apart low all = (apart, low)

  by_twice : (line : Option ℕ) (next : RulesFound) → IsLow IsNamedTwice (placed rules) line → (IsNowhere IsNamedTwice (placed rules) → AreFound k rules next) → AreFound k rules (refused_or Twice line next)
  by_twice None next low all = all low
  by_twice (Some line) next low all = low

  all_told : (twice too_many : Option ℕ) (so_far : SoFar) → IsLow IsNamedTwice (placed rules) twice → IsLow IsOneTooMany (placed rules) too_many → IsSoFar k rules (state_of so_far)
      → AreFound k rules (so_far_told twice too_many so_far)
  all_told twice too_many so_far named counted so =
      by_twice twice _ named (λ apart.
      by_unknown so_far.unknown _ apart so.unknown (λ known no_unknown.
      by_misplaced so_far.misplaced _ apart known so.misplaced (λ in_rooms no_misplaced.
      by_over (lower_of so_far.too_many too_many) _ apart known in_rooms (low_either (HoldsTooMuch k) IsOneTooMany (placed rules) so_far.too_many too_many so.too_many counted) (λ within no_over.
      by_unnested so_far.unnested _ apart known in_rooms within so.unnested (λ nested no_unnested. record {
        apart = apart;
        known = known;
        in_rooms = in_rooms;
        within = within;
        nested = nested;
        each = so.told no_unknown no_misplaced (no_first so_far.too_many too_many no_over) no_unnested;
      })))))

-- as sentences say them
pub sentences_told : (k : Known) (sentences : List Sentence) (rules : List RuleAt) (twice too_many : Option ℕ) (so_far : SoFar) (found : RulesFound) → rules ≡ rules_in sentences
    → IsLow IsNamedTwice (placed (reverse rules)) twice → IsSoFar k (reverse rules) (state_of so_far) → too_many ≡ line_behind rules most_rules → found ≡ so_far_told twice too_many so_far → IsRulesFound k sentences found
sentences_told k sentences rules twice too_many so_far found said named so counted told =
    subst (λ (all : List RuleAt). AreFound k (reverse all) found) said
    (subst (AreFound k (reverse rules)) (sym told)
    (all_told k (reverse rules) twice too_many so_far named (subst (IsLow IsOneTooMany (placed (reverse rules))) (sym counted) (one_too_many rules)) so))
