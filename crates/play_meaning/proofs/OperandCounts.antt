-- Where an instruction stands, and how many operands there are behind it.
use Rattle.std.proofs.Common.{◌≡◌, ◌∙◌, ap, sym, ℕ, ◌+◌, ◌-◌, ◌<◌, ◌≤◌, Bool, true, false, List, [], ◌∷◌, length, refl, ◌⊎◌, inl, inr, Option, Some, None, arith}
use Rattle.std.specs.Prelude.{nat_lt, if◌then◌else◌}
use Rattle.std.proofs.lemmas.Bool.{cases_lt, le-ltb, ne_eqb}
use Rattle.play_meaning.specs.Instructions.{Instruction, at_place, size_of, sizes}
use Rattle.play_meaning.specs.Machines.{behind}
use Rattle.play_meaning.specs.Operands.{Sort, are_alike, behind_eq, below, with_given}
use Rattle.play_meaning.proofs.Standing.{size_is}

-- ---- places

-- an instruction stands before the code's end
pub inside : (is : List Instruction) (q : ℕ) (i : Instruction) → at_place is q ≡ Some i → q < sizes is
inside [] q i e = absurd cc
inside (j ∷ js) q i e = by_order (cases_lt q (size_of j)) (inside js (q - size_of j) i)
  where
    by_order : (q < size_of j) ⊎ (size_of j ≤ q) → (at_place js (q - size_of j) ≡ Some i → q - size_of j < sizes js) → q < size_of j + sizes js
    by_order (inl less) behind = omega (arith, less)
    by_order (inr more) behind =
        let passed : at_place (j ∷ js) q ≡ at_place js (q - size_of j) = rw (ne_eqb q 0 (λ none. omega (arith, none, more, size_is j)), le-ltb q (size_of j) more) refl in
        omega (arith, more, behind (sym passed ∙ e))

-- ---- how many operands there are behind an instruction

abbrev pub count_given : Option Sort → ℕ
count_given None = 0
count_given (Some sort) = 1

if_some : {A : Type 0} (b : Bool) (a : Option A) (x : A) → (if b then a else None) ≡ Some x → a ≡ Some x
if_some true a x e = e
if_some false a x e = absurd cc

pub below_many : (wanted sorts rest : List Sort) → below wanted sorts ≡ Some rest → length sorts ≡ length wanted + length rest
below_many [] sorts rest e = let same : sorts ≡ rest = cc in omega (arith, ap length same)
below_many (w ∷ ws) [] rest e = absurd cc
below_many (w ∷ ws) (sort ∷ sorts) rest e = omega (arith, below_many ws sorts rest (if_some _ (below ws sorts) rest e))

given_many : (given : Option Sort) (rest after : List Sort) → with_given given (Some rest) ≡ Some after → length after ≡ count_given given + length rest
given_many None rest after e = let same : rest ≡ after = cc in omega (arith, ap length same)
given_many (Some sort) rest after e =
    let one : Some (sort ∷ rest) ≡ Some after = if_some (nat_lt (length rest) 64) (Some (sort ∷ rest)) after e in
    let same : sort ∷ rest ≡ after = cc in
    omega (arith, ap length same)

pub eq_many : (sorts rest : List Sort) → behind_eq sorts ≡ Some rest → length sorts ≡ 2 + length rest
eq_many [] rest e = absurd cc
eq_many (b ∷ []) rest e = absurd cc
eq_many (b ∷ a ∷ sorts) rest e =
    let one : Some sorts ≡ Some rest = if_some (are_alike a b) (Some sorts) rest e in
    let same : sorts ≡ rest = cc in
    omega (arith, ap length same)

-- what stands behind an instruction that takes so many, one over what stays if it gives one
abbrev Moves : ℕ → ℕ → List Sort → List Sort → Type 0
Moves taken given before after = (stays : ℕ) × (length before ≡ taken + stays) × (length after ≡ given + stays)

pub moves_by : (given : Option Sort) (taken : ℕ) (before after : List Sort) (rest : Option (List Sort))
    → ((stays : List Sort) → rest ≡ Some stays → length before ≡ taken + length stays)
    → with_given given rest ≡ Some after → Moves taken (count_given given) before after
moves_by given taken before after None counts e = absurd (no_rest given after e)
  where
    no_rest : (given : Option Sort) (after : List Sort) → with_given given None ≡ Some after → ⊥
    no_rest None after e = absurd cc
    no_rest (Some sort) after e = absurd cc
moves_by given taken before after (Some rest) counts e = (length rest, counts rest refl, given_many given rest after e)
