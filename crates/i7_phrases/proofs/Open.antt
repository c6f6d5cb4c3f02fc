-- The repeats that are open where a phrase comes are those that stand around it.
use Rattle.std.proofs.Common.{◌≡◌, ℕ, ◌≤◌, true, false, List, [], ◌∷◌, refl, sym, ap, ◌∙◌, arith, inl, inr}
use Rattle.std.specs.Prelude.{Option, Some, None, nat_lt, not, if◌then◌else◌}
use Rattle.std.proofs.lemmas.Bool.{ltb-true, ltb-false, cases_Bool}
use Rattle.i7_sentences.specs.declared.rule.RulePhrase.{RulePhrase}
use Rattle.i7_conditions.specs.Words.{Word}
use Rattle.i7_phrases.specs.Around.{Open, depths_left, entered_if, is_left, is_left_by, left, left_from, name_given, names_around, names_left, open_behind, shut, with_name}

left_by_one : (depth : ℕ) (depths : List ℕ) (names : List Word) → is_left_by depth depths ≡ true → left_from depth (depths_left depths) (names_left names) ≡ left_from depth depths names
unfolding left_from
left_by_one depth [] names is = absurd cc
left_by_one depth (innermost ∷ depths) names is = elim (cases_Bool (nat_lt innermost depth)) [
  | inl lt ↦ let never : false ≡ true = sym (ap not lt) ∙ is in absurd cc
  | inr ge ↦ rw ge refl
]

pub left_further : (depth : ℕ) (o : Open) → is_left depth o ≡ true → left depth (shut o) ≡ left depth o
left_further depth o is = left_by_one depth o.depths o.names is

left_by_none : (depth : ℕ) (depths : List ℕ) (names : List Word) → is_left_by depth depths ≡ false → left_from depth depths names ≡ record { depths = depths; names = names }
unfolding left_from
left_by_none depth [] names is = refl
left_by_none depth (innermost ∷ depths) names is = elim (cases_Bool (nat_lt innermost depth)) [
  | inl lt ↦ rw lt refl
  | inr ge ↦ let never : true ≡ false = sym (ap not ge) ∙ is in absurd cc
]

pub left_no_further : (depth : ℕ) (o : Open) → is_left depth o ≡ false → left depth o ≡ o
left_no_further depth o is = left_by_none depth o.depths o.names is

-- a deeper phrase in between leaves no others
left_twice : (d e : ℕ) (depths : List ℕ) (names : List Word) → d ≤ e → left d (left_from e depths names) ≡ left_from d depths names
unfolding left_from
left_twice d e [] names le = refl
left_twice d e (innermost ∷ depths) names le = elim (cases_Bool (nat_lt innermost e)) [
  | inl lt ↦ rw lt refl
  | inr ge ↦ elim (cases_Bool (nat_lt innermost d)) [
    | inl lt ↦ absurd (omega (arith, le, ltb-true _ _ lt, ltb-false _ _ ge))
    | inr shallow ↦ rw ge (rw shallow (left_twice d e depths (names_left names) le))
  ]
]

-- a deeper phrase leaves none that this one has not left
left_deeper : (d e : ℕ) (depths : List ℕ) (names : List Word) → e ≤ d → left d (left_from e depths names) ≡ left_from e depths names
unfolding left_from
left_deeper d e [] names le = refl
left_deeper d e (innermost ∷ depths) names le = elim (cases_Bool (nat_lt innermost e)) [
  | inl lt ↦ elim (cases_Bool (nat_lt innermost d)) [
    | inl less ↦ rw lt (rw less refl)
    | inr ge ↦ absurd (omega (arith, le, ltb-true _ _ lt, ltb-false _ _ ge))
  ]
  | inr ge ↦ rw ge (left_deeper d e depths (names_left names) le)
]

-- a phrase that has left repeats leaves no more
pub left_again : (depth : ℕ) (o : Open) → left depth (left depth o) ≡ left depth o
left_again depth o = left_deeper depth depth o.depths o.names (omega arith)

left_behind : (d e : ℕ) (name : Option Word) (o : Open) (outer others : List Word) → (left e o).names ≡ outer → (left d o).names ≡ others
    → (left d (entered_if e name (left e o))).names ≡ (if nat_lt e d then with_name name outer else others)
unfolding left_from
left_behind d e None o outer others is_outer is_others = elim (cases_Bool (nat_lt e d)) [
  | inl lt ↦ rw lt (ap (λ (s : Open). s.names) (left_deeper d e o.depths o.names (omega (arith, ltb-true _ _ lt))) ∙ is_outer)
  | inr ge ↦ rw ge (ap (λ (s : Open). s.names) (left_twice d e o.depths o.names (omega (arith, ltb-false _ _ ge))) ∙ is_others)
]
left_behind d e (Some name) o outer others is_outer is_others = elim (cases_Bool (nat_lt e d)) [
  | inl lt ↦ rw lt (ap (λ names. name ∷ names) is_outer)
  | inr ge ↦ rw ge (ap (λ (s : Open). s.names) (left_twice d e o.depths o.names (omega (arith, ltb-false _ _ ge))) ∙ is_others)
]

pub open_around : (depth : ℕ) (before : List RulePhrase) → (left depth (open_behind before)).names ≡ names_around depth before
unfolding left_from names_around open_behind
open_around depth [] = refl
open_around depth (p ∷ before) = left_behind depth p.depth (name_given p.said) (open_behind before) (names_around p.depth before) (names_around depth before) (open_around p.depth before) (open_around depth before)
