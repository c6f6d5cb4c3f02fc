-- Strings that are counted: each is among those so far, or the next.
use Rattle.std.proofs.Common.{◌≡◌, ◌∙◌, ap, sym, ℕ, ◌+◌, ◌≤◌, leb, Bool, true, false, List, [], ◌∷◌, ◌++◌, Option, None, Some, refl, arith, if◌then◌else◌}
use Rattle.std.specs.Prelude.{max}
use Rattle.std.proofs.lemmas.Bool.{eq-eqb, eqb-true, leb-true}
use Rattle.code_table.specs.Strings.{counted_on}
use Rattle.code_table.proofs.Counted.{strings_stop, strings_then}
use Rattle.story_format.specs.Soundness.{is_count}

-- what is counted of the rest, where the first is among those so far or the next
pub counted_rest : (count next n : ℕ) (ns : List ℕ) → counted_on next (n ∷ ns) ≡ Some count → (n ≤ next) × (counted_on (max next (n + 1)) ns ≡ Some count)
counted_rest count next n ns h = by (leb n next) refl h
  where
    by : (b : Bool) → leb n next ≡ b → (if b then counted_on (max next (n + 1)) ns else None) ≡ Some count → (n ≤ next) × (counted_on (max next (n + 1)) ns ≡ Some count)
    by true is h = (leb-true n next is, h)
    by false is h = absurd cc

pub named_within : (count next : ℕ) (ns : List ℕ) → counted_on next ns ≡ Some count → next ≤ count
named_within count next [] h = let same : next ≡ count = cc in omega (arith, same)
named_within count next (n ∷ ns) h = omega (arith, named_within count (max next (n + 1)) ns (counted_rest count next n ns h).1)

-- ---- those of two lists

module _ (a b named : List ℕ) (front : Option ℕ) (counted : front ≡ counted_on 0 named) (named_is : named ≡ a) where
  pub front_uncounted : front ≡ None → None ≡ counted_on 0 (a ++ b)
  front_uncounted none = sym (strings_stop 0 a b (ap (counted_on 0) (sym named_is) ∙ sym counted ∙ none))

  pub back_counted : (next : ℕ) (o : Option ℕ) → front ≡ Some next → o ≡ counted_on next b → o ≡ counted_on 0 (a ++ b)
  back_counted next o some back = back ∙ sym (strings_then 0 next a b (ap (counted_on 0) (sym named_is) ∙ sym counted ∙ some))

-- as the strings of kinds of value are counted behind the others
module _ (count : ℕ) (a b : List ℕ) (front : Option ℕ) (counted : front ≡ counted_on 0 a) where
  pub none_behind : front ≡ None → false ≡ is_count count (counted_on 0 (a ++ b))
  none_behind none = ap (is_count count) (sym (strings_stop 0 a b (sym counted ∙ none)))

  pub all_behind : (named : List ℕ) (next : ℕ) (o : Option ℕ) → named ≡ b → front ≡ Some next → o ≡ counted_on next named → is_count count o ≡ is_count count (counted_on 0 (a ++ b))
  all_behind named next o same some back = ap (is_count count) (back ∙ ap (counted_on next) same ∙ sym (strings_then 0 next a b (sym counted ∙ some)))

pub count_is : (count : ℕ) (o : Option ℕ) → is_count count o ≡ true → o ≡ Some count
count_is count None h = absurd cc
count_is count (Some n) h = ap Some (eqb-true n count h)

pub is_counted : (count : ℕ) (o : Option ℕ) → o ≡ Some count → is_count count o ≡ false → ⊥
is_counted count o is h = let yes : is_count count o ≡ true = ap (is_count count) is ∙ eq-eqb count count refl in let no : true ≡ false = sym yes ∙ h in cc
