-- Names that are mentioned tell which rule has a name that is given.
use Rattle.std.proofs.Common.{◌≡◌, ℕ, Bool, true, false, ◌||◌, List, [], ◌∷◌, refl, sym, ap, ◌∙◌, subst, true≢false, inl, inr}
use Rattle.std.specs.Prelude.{Option, None, Some, bytes_eq, fold, if◌then◌else◌}
use Rattle.std.specs.List.{list_any}
use Rattle.std.proofs.lemmas.List.Folds.{list_any-append}
use Rattle.std.proofs.lemmas.Slice.Eq.{bytes_eq-Decides}
use Rattle.std.proofs.lemmas.Bool.{cases_Bool}
use Rattle.object_words.specs.Mentions.{mention}
use Rattle.i7_sentences.specs.Lowest.{lower_of}
use Rattle.i7_rules.specs.RuleList.{RuleAt, and_name, name_of, names_of, placed, standard_names}
use Rattle.i7_rules.specs.RuleScans.{IsLow, mention_name, named_twice, standard_mentions, twice_at}
use Rattle.i7_rules.specs.SourceRules.{IsNamedTwice}
use Rattle.i7_rules.proofs.Lows.{low_nothing, low_past, low_with}
use Rattle.i7_sentences.proofs.Lowest.{lower_none}

-- ---- names that are mentioned

abbrev has : List (List ℕ) → List ℕ → Bool
has names name = list_any (bytes_eq name) names

or_has : (a b : Bool) → (a ≡ true → b ≡ true) → b ≡ (a || b)
or_has true b h = h refl
or_has false b h = refl

or_turned : (a b : Bool) → (b || (a || false)) ≡ (a || b)
or_turned true true = refl
or_turned true false = refl
or_turned false true = refl
or_turned false false = refl

or_moved : (a b c : Bool) → ((a || b) || c) ≡ (b || (a || c))
or_moved true true c = refl
or_moved true false c = refl
or_moved false true c = refl
or_moved false false c = refl

mention_has : (names : List (List ℕ)) (name other : List ℕ) → has (mention names name) other ≡ has (name ∷ names) other
mention_has names name other = elim (cases_Bool (has names name)) [
  | inl is ↦ rw is (or_has (bytes_eq other name) (has names other) (λ same. ap (has names) ((bytes_eq-Decides other name).0 same) ∙ is))
  | inr isnt ↦ rw isnt (list_any-append (bytes_eq other) names (name ∷ []) ∙ or_turned (bytes_eq other name) (has names other))
]

all_mentioned : (seen names : List (List ℕ)) (other : List ℕ) → has (fold mention seen names) other ≡ (has seen other || has names other)
all_mentioned seen [] other = or_none (has seen other)
  where
    or_none : (a : Bool) → a ≡ (a || false)
    or_none true = refl
    or_none false = refl
all_mentioned seen (name ∷ names) other =
    all_mentioned (mention seen name) names other ∙ ap (λ b. b || has names other) (mention_has seen name other) ∙ or_moved (bytes_eq other name) (has seen other) (has names other)

-- ---- rules with names

-- the names so far are those of these rules, the last first, and of the standard rules; so far this is the lowest line
pub record IsNamedTo (names : List (List ℕ)) (found : Option ℕ) (before : List RuleAt) : Type 0 where
  pub same : (other : List ℕ) → has names other ≡ has (names_of before) other
  pub low : IsLow IsNamedTwice (placed before) found

pub none_named : (names : List (List ℕ)) (low : Option ℕ) → names ≡ standard_mentions → low ≡ None → IsNamedTo names low []
none_named names low is none = record {
  same = λ other. ap (λ (all : List (List ℕ)). has all other) is ∙ all_mentioned [] standard_names other;
  low = subst (IsLow IsNamedTwice []) (sym none) (low_nothing IsNamedTwice);
}

more_has : (names more : List (List ℕ)) (name : Option (List ℕ)) → ((other : List ℕ) → has names other ≡ has more other) → (other : List ℕ) → has (mention_name names name) other ≡ has (and_name name more) other
more_has names more None same other = same other
more_has names more (Some name) same other = mention_has names name other ∙ ap (λ b. bytes_eq other name || b) (same other)

-- the line of a rule whose name is given
low_named : (names : List (List ℕ)) (low : Option ℕ) (before : List RuleAt) (r : RuleAt) (name : Option (List ℕ)) → name_of r ≡ name → IsNamedTo names low before
    → IsLow IsNamedTwice (placed (r ∷ before)) (lower_of low (named_twice names r.line name))
low_named names low before r None none h =
    subst (IsLow IsNamedTwice (placed (r ∷ before))) (sym (lower_none low))
    (low_past IsNamedTwice (record { rule = r; before = before }) (placed before) low (λ line bad. let no : None ≡ Some bad.name = sym none ∙ bad.is_named in let never : ⊥ = cc in never) h.low)
low_named names low before r (Some name) named h = by_has (has names name) refl
  where
    by_has : (is : Bool) → has names name ≡ is → IsLow IsNamedTwice (placed (r ∷ before)) (lower_of low (if is then Some r.line else None))
    by_has true is = low_with IsNamedTwice (record { rule = r; before = before }) (placed before) low r.line (record {
      is = record { name = name; is_named = named; is_given = sym (h.same name) ∙ is; line_is = refl };
      alone = λ at bad. sym bad.line_is;
    }) h.low
    by_has false isnt =
        subst (IsLow IsNamedTwice (placed (r ∷ before))) (sym (lower_none low))
        (low_past IsNamedTwice (record { rule = r; before = before }) (placed before) low
        (λ line bad.
        let both : Some bad.name ≡ Some name = sym bad.is_named ∙ named in
        let same : bad.name ≡ name = cc in
        true≢false (sym bad.is_given ∙ ap (has (names_of before)) same ∙ sym (h.same name) ∙ isnt))
        h.low)

pub named_further : (names more : List (List ℕ)) (low told : Option ℕ) (next : Option ℕ) (r : RuleAt) → more ≡ mention_name names (name_of r) → told ≡ twice_at names r → next ≡ lower_of low told
    → (before : List RuleAt) → IsNamedTo names low before → IsNamedTo more next (r ∷ before)
named_further names more low told next r mentions tells lowers before h = record {
  same = λ other. ap (λ (all : List (List ℕ)). has all other) mentions ∙ more_has names (names_of before) (name_of r) h.same other;
  low = subst (IsLow IsNamedTwice (placed (r ∷ before))) (sym (lowers ∙ ap (lower_of low) tells)) (low_named names low before r (name_of r) refl h);
}
