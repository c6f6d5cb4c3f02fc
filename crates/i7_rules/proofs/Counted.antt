-- The rule that stands behind so many others is the one that is one too many.
use Rattle.std.proofs.Common.{◌≡◌, ℕ, zero, suc, ◌<◌, List, [], ◌∷◌, ◌++◌, length, length-append, refl, sym, ap, ◌∙◌, subst, arith, inl, inr}
use Rattle.std.specs.Prelude.{None, Some, option_map, reverse, slice_get}
use Rattle.std.proofs.lemmas.Bool.{cases_lt}
use Rattle.std.proofs.lemmas.Grind.{reverse_onto}
use Rattle.std.proofs.lemmas.List.{reverse-reverse}
use Rattle.std.proofs.lemmas.Option.{slice_get_past}
use Rattle.i7_rules.specs.RuleList.{Placed, RuleAt, placed}
use Rattle.i7_rules.specs.RuleScans.{IsLow, line_behind}
use Rattle.i7_rules.specs.SourceRules.{IsOneTooMany, most_rules}
use Rattle.i7_rules.proofs.Lows.{low_nothing, low_past, low_with}

-- ---- a list with one more

get_below : (xs : List RuleAt) (x : RuleAt) (k : ℕ) → k < length xs → slice_get (xs ++ x ∷ []) k ≡ slice_get xs k
get_below [] x k under = absurd (omega (arith, under))
get_below (y ∷ ys) x zero under = refl
get_below (y ∷ ys) x (suc k) under = get_below ys x k (omega (arith, under))

get_last : (xs : List RuleAt) (x : RuleAt) → slice_get (xs ++ x ∷ []) (length xs) ≡ Some x
get_last [] x = refl
get_last (y ∷ ys) x = get_last ys x

get_past : (xs : List RuleAt) (x : RuleAt) (k : ℕ) → length xs < k → slice_get (xs ++ x ∷ []) k ≡ None
get_past xs x k over = slice_get_past (xs ++ x ∷ []) k (omega (arith, over, length-append xs (x ∷ [])))

length_back : (xs : List RuleAt) → length (reverse xs) ≡ length xs
length_back [] = refl
length_back (x ∷ xs) = ap length (reverse_onto xs x []) ∙ length-append (reverse xs) (x ∷ []) ∙ (let len = length_back xs in omega (arith, len))

-- ---- rules

IsBehind : ℕ → Placed → ℕ → Type 0
IsBehind k p line = (length p.before ≡ k) × (line ≡ p.rule.line)

counted_last : (before : List RuleAt) (r : RuleAt) (k : ℕ) → length before ≡ k → IsLow (IsBehind k) (placed before) (line_behind (reverse before) k) → IsLow (IsBehind k) (placed (r ∷ before)) (line_behind (reverse before ++ r ∷ []) k)
unfolding IsBehind
counted_last before r k is low =
    let len : length (reverse before) ≡ k = length_back before ∙ is in
    let none : slice_get (reverse before) k ≡ None = slice_get_past (reverse before) k (omega (arith, len)) in
    let last : slice_get (reverse before ++ r ∷ []) k ≡ Some r = ap (slice_get (reverse before ++ r ∷ [])) (sym len) ∙ get_last (reverse before) r in
    subst (IsLow (IsBehind k) (placed (r ∷ before))) (sym (ap (option_map (λ (q : RuleAt). q.line)) last))
    (low_with (IsBehind k) (record { rule = r; before = before }) (placed before) None r.line (record { is = (is, refl); alone = λ at bad. sym bad.1 })
    (subst (IsLow (IsBehind k) (placed before)) (ap (option_map (λ (q : RuleAt). q.line)) none) low))

counted_other : (before : List RuleAt) (r : RuleAt) (k : ℕ) → (length before ≡ k → ⊥) → slice_get (reverse before ++ r ∷ []) k ≡ slice_get (reverse before) k → IsLow (IsBehind k) (placed before) (line_behind (reverse before) k)
    → IsLow (IsBehind k) (placed (r ∷ before)) (line_behind (reverse before ++ r ∷ []) k)
unfolding IsBehind
counted_other before r k isnt same low =
    subst (IsLow (IsBehind k) (placed (r ∷ before))) (sym (ap (option_map (λ (q : RuleAt). q.line)) same))
    (low_past (IsBehind k) (record { rule = r; before = before }) (placed before) (line_behind (reverse before) k) (λ line bad. isnt bad.0) low)

differs_below : (m k : ℕ) → k < m → m ≡ k → ⊥
differs_below m k under same = omega (arith, under, same)

differs_past : (m k : ℕ) → m < k → m ≡ k → ⊥
differs_past m k over same = omega (arith, over, same)

counted_more : (before : List RuleAt) (r : RuleAt) (k : ℕ) → IsLow (IsBehind k) (placed before) (line_behind (reverse before) k) → IsLow (IsBehind k) (placed (r ∷ before)) (line_behind (reverse before ++ r ∷ []) k)
counted_more before r k low = elim (cases_lt k (length before)) [
  | inl under ↦ counted_other before r k (differs_below (length before) k under) (get_below (reverse before) r k (omega (arith, under, length_back before))) low
  | inr le ↦ elim (cases_lt (length before) k) [
    | inl over ↦
        let past : length (reverse before) < k = omega (arith, over, length_back before) in
        counted_other before r k (differs_past (length before) k over) (get_past (reverse before) r k past ∙ sym (slice_get_past (reverse before) k (omega (arith, past)))) low
    | inr ge ↦ counted_last before r k (omega (arith, le, ge)) low
  ]
]

counted : (before : List RuleAt) (k : ℕ) → IsLow (IsBehind k) (placed before) (line_behind (reverse before) k)
counted [] k = low_nothing (IsBehind k)
counted (r ∷ before) k =
    subst (λ (all : List RuleAt). IsLow (IsBehind k) (placed (r ∷ before)) (line_behind all k)) (sym (reverse_onto before r []))
    (counted_more before r k (counted before k))

pub one_too_many : (rules : List RuleAt) → IsLow IsOneTooMany (placed (reverse rules)) (line_behind rules most_rules)
unfolding IsBehind
one_too_many rules = subst (λ (all : List RuleAt). IsLow IsOneTooMany (placed (reverse rules)) (line_behind all most_rules)) (reverse-reverse rules) (counted (reverse rules) most_rules)
