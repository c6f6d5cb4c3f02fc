-- The lowest line at which one of many is bad, with one more.
use Rattle.std.proofs.Common.{◌≡◌, ℕ, ◌≤◌, Bool, true, false, List, [], ◌∷◌, refl, ap, ◌⊎◌, inl, inr, subst, arith}
use Rattle.std.specs.Prelude.{Option, None, Some, if◌then◌else◌, nat_lt}
use Rattle.std.specs.List.{All}
use Rattle.std.proofs.lemmas.List.Elements.{All-cons, All-head, All-nil, All-tail}
use Rattle.i7_sentences.specs.Lowest.{IsLowest, lower_of}
use Rattle.i7_rules.specs.RuleScans.{IsLow}
use Rattle.i7_sentences.proofs.Lowest.{Good, NoLower, at_most, below, both_ways, good_no_lower, less, lower_yet, no_less}

-- it is bad at this line alone
pub record BadAt {X : Type 0} (Bad : X → ℕ → Type 0) (p : X) (line : ℕ) : Type 0 where
  pub is : Bad p line
  pub alone : (at : ℕ) → Bad p at → line ≡ at

pub low_nothing : {X : Type 0} (Bad : X → ℕ → Type 0) → IsLow Bad [] None
low_nothing Bad = All-nil (Good Bad)

-- one that is nowhere bad
pub low_past : {X : Type 0} (Bad : X → ℕ → Type 0) (p : X) (ps : List X) (low : Option ℕ) → ((line : ℕ) → Bad p line → ⊥) → IsLow Bad ps low → IsLow Bad (p ∷ ps) low
low_past Bad p ps None good is = All-cons (Good Bad) p ps good is
low_past {X} Bad p ps (Some line) good is = record {
  before = p ∷ is.before;
  bad = is.bad;
  behind = is.behind;
  place = ap (λ (all : List X). p ∷ all) is.place;
  is_bad = is.is_bad;
  lowest = All-cons (NoLower Bad line) p ps (λ at bad. absurd (good at bad)) is.lowest;
}

lowest_here : {X : Type 0} (Bad : X → ℕ → Type 0) (p : X) (ps : List X) (line : ℕ) → BadAt Bad p line → All (NoLower Bad line) ps → IsLowest Bad (p ∷ ps) line
lowest_here Bad p ps line bad others = record {
  before = [];
  bad = p;
  behind = ps;
  place = refl;
  is_bad = bad.is;
  lowest = All-cons (NoLower Bad line) p ps (λ at other. subst (λ (n : ℕ). line ≤ n) (bad.alone at other) (let e : line ≤ line = omega arith in e)) others;
}

lowest_behind : {X : Type 0} (Bad : X → ℕ → Type 0) (p : X) (ps : List X) (line low : ℕ) → BadAt Bad p line → low ≤ line → IsLowest Bad ps low → IsLowest Bad (p ∷ ps) low
lowest_behind {X} Bad p ps line low bad under is = record {
  before = p ∷ is.before;
  bad = is.bad;
  behind = is.behind;
  place = ap (λ (all : List X). p ∷ all) is.place;
  is_bad = is.is_bad;
  lowest = All-cons (NoLower Bad low) p ps (λ at other. subst (λ (n : ℕ). low ≤ n) (bad.alone at other) under) is.lowest;
}

-- one that is bad at a line
pub low_with : {X : Type 0} (Bad : X → ℕ → Type 0) (p : X) (ps : List X) (low : Option ℕ) (line : ℕ) → BadAt Bad p line → IsLow Bad ps low → IsLow Bad (p ∷ ps) (lower_of low (Some line))
low_with Bad p ps None line bad is = lowest_here Bad p ps line bad (good_no_lower Bad line ps is)
low_with Bad p ps (Some low) line bad is = by_less (nat_lt line low) refl
  where
    by_less : (here : Bool) → nat_lt line low ≡ here → IsLow Bad (p ∷ ps) (if here then Some line else Some low)
    by_less true here = lowest_here Bad p ps line bad (lower_yet Bad line low ps (less line low here) is.lowest)
    by_less false here = lowest_behind Bad p ps line low bad (no_less line low here) is

pub not_none : (low : Option ℕ) (line : ℕ) → lower_of low (Some line) ≡ None → ⊥
not_none None line e = cc
not_none (Some low) line e = by_less (nat_lt line low) e
  where
    by_less : (here : Bool) → (if here then Some line else Some low) ≡ None → ⊥
    by_less true e = cc
    by_less false e = cc

-- ---- two sorts of what is bad

abbrev Either : {X : Type 0} → (X → ℕ → Type 0) → (X → ℕ → Type 0) → X → ℕ → Type 0
Either One Other p line = One p line ⊎ Other p line

either_lowest : {X : Type 0} (One Other : X → ℕ → Type 0) (ps : List X) (line : ℕ) → IsLowest One ps line → All (NoLower Other line) ps → IsLowest (Either One Other) ps line
either_lowest One Other ps line is others = record {
  before = is.before;
  bad = is.bad;
  behind = is.behind;
  place = is.place;
  is_bad = inl is.is_bad;
  lowest = λ n d within at bad. elim bad [
    | inl one ↦ is.lowest n d within at one
    | inr other ↦ others n d within at other
  ];
}

other_lowest : {X : Type 0} (One Other : X → ℕ → Type 0) (ps : List X) (line : ℕ) → IsLowest Other ps line → All (NoLower One line) ps → IsLowest (Either One Other) ps line
other_lowest One Other ps line is ones = record {
  before = is.before;
  bad = is.bad;
  behind = is.behind;
  place = is.place;
  is_bad = inr is.is_bad;
  lowest = λ n d within at bad. elim bad [
    | inl one ↦ ones n d within at one
    | inr other ↦ is.lowest n d within at other
  ];
}

pub low_either : {X : Type 0} (One Other : X → ℕ → Type 0) (ps : List X) (a b : Option ℕ) → IsLow One ps a → IsLow Other ps b → IsLow (Either One Other) ps (lower_of a b)
low_either One Other ps None None one other = λ n d within line bad. elim bad [
  | inl is ↦ one n d within line is
  | inr is ↦ other n d within line is
]
low_either One Other ps None (Some b) one other = other_lowest One Other ps b other (good_no_lower One b ps one)
low_either One Other ps (Some a) None one other = either_lowest One Other ps a one (good_no_lower Other a ps other)
low_either One Other ps (Some a) (Some b) one other = by_less (nat_lt b a) refl
  where
    by_less : (here : Bool) → nat_lt b a ≡ here → IsLow (Either One Other) ps (if here then Some b else Some a)
    by_less true here = other_lowest One Other ps b other (lower_yet One b a ps (less b a here) one.lowest)
    by_less false here = either_lowest One Other ps a one (lower_yet Other a b ps (no_less b a here) other.lowest)

-- ---- one line at most

pub lowest_once : {X : Type 0} (Bad : X → ℕ → Type 0) (ps : List X) (a b : ℕ) → IsLowest Bad ps a → IsLowest Bad ps b → a ≡ b
lowest_once Bad ps a b one other = both_ways a b (below Bad ps a b one other) (below Bad ps b a other one)
