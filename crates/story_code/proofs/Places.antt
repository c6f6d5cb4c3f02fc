-- Instructions that stand at a place of a code.
use Rattle.std.proofs.Common.{◌≡◌, ◌⊎◌, inl, inr, ℕ, ◌+◌, ◌-◌, ◌≤◌, ◌==◌, Bool, true, false, nat_lt, if◌then◌else◌, List, [], ◌∷◌, Some, None, refl, ap, ◌∙◌, arith}
use Rattle.std.proofs.lemmas.Grind.{common_steps}
use Rattle.play_meaning.specs.Instructions.{at_place, size_of, sizes}
use Rattle.play_meaning.specs.declared.instruction.Instruction.{Instruction}
use Rattle.story_code.proofs.WalkLemmas.{size_of-positive}

-- past a first instruction
pub at_past : (i : Instruction) (code : List Instruction) (p q : ℕ) → p ≡ size_of i + q → at_place (i ∷ code) p ≡ at_place code q
at_past i code p q e =
    let big = size_of-positive i in
    let nz : (p == 0) ≡ false = grind (arith, common_steps, e, big) in
    let nl : nat_lt p (size_of i) ≡ false = grind (arith, common_steps, e) in
    let m : p - size_of i ≡ q = omega (arith, e) in
    ap (λ b. if b then Some i else if nat_lt p (size_of i) then None else at_place code (p - size_of i)) nz
    ∙ ap (λ b. if b then None else at_place code (p - size_of i)) nl ∙ ap (at_place code) m

-- an instruction found is the first or behind it
at_split : (j i : Instruction) (js : List Instruction) (r : ℕ) (a b : Bool) → (r == 0) ≡ a → nat_lt r (size_of j) ≡ b
    → (if a then Some j else if b then None else at_place js (r - size_of j)) ≡ Some i → ((r ≡ 0) × (j ≡ i)) ⊎ ((size_of j ≤ r) × (at_place js (r - size_of j) ≡ Some i))
at_split j i js r true b e f h = let n : r ≡ 0 = grind (arith, common_steps, e) in let k : j ≡ i = cc in inl (n, k)
at_split j i js r false true e f h = let no : ⊥ = cc in absurd no
at_split j i js r false false e f h = let n : size_of j ≤ r = grind (arith, common_steps, f) in inr (n, h)

pub at_cases : (j : Instruction) (js : List Instruction) (r : ℕ) (i : Instruction) → at_place (j ∷ js) r ≡ Some i → ((r ≡ 0) × (j ≡ i)) ⊎ ((size_of j ≤ r) × (at_place js (r - size_of j) ≡ Some i))
at_cases j js r i h = at_split j i js r (r == 0) (nat_lt r (size_of j)) refl refl h

pub none_past_end : (is : List Instruction) (p : ℕ) (i : Instruction) → sizes is ≤ p → at_place is p ≡ Some i → ⊥
none_past_end [] p i e h = let no : ⊥ = cc in no
none_past_end (j ∷ js) p i e h = elim (at_cases j js p i h) [
  | inl f ↦ let no : ⊥ = omega (arith, size_of-positive j, e, f.0) in no
  | inr f ↦ let n : sizes js ≤ p - size_of j = omega (arith, e, f.0) in none_past_end js (p - size_of j) i n f.1
]

-- the instructions stand in the code at this place
abbrev pub HasAt : List Instruction → ℕ → List Instruction → Type 0
HasAt code p [] = Unit {0}
HasAt code p (i ∷ is) = (at_place code p ≡ Some i) × HasAt code (p + size_of i) is

past_has : (i : Instruction) (code : List Instruction) (p q : ℕ) (is : List Instruction) → p ≡ size_of i + q → HasAt code q is → HasAt (i ∷ code) p is
past_has i code p q [] e h = tt
past_has i code p q (j ∷ is) e h =
    let f : p + size_of j ≡ size_of i + (q + size_of j) = omega (arith, e) in
    (at_past i code p q e ∙ h.0, past_has i code (p + size_of j) (q + size_of j) is f h.1)

pub has_whole : (is : List Instruction) → HasAt is 0 is
has_whole [] = tt
has_whole (i ∷ is) = (refl, past_has i is (0 + size_of i) 0 is (omega arith) (has_whole is))
