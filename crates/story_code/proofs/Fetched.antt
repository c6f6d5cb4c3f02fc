-- The instruction at a place of a code stands in front of the bytes from there on.
use Rattle.std.proofs.Common.{◌≡◌, ◌∙◌, ◌++◌, ap, sym, ℕ, suc, ◌+◌, ◌-◌, ◌<◌, true, inl, inr, List, [], ◌∷◌, length, drop, refl, Some, arith}
use Rattle.std.specs.List.{list_all}
use Rattle.std.proofs.lemmas.Bool.{and_parts}
use Rattle.play_meaning.specs.Instructions.{at_place, size_of, sizes}
use Rattle.play_meaning.specs.declared.instruction.Instruction.{Instruction}
use Rattle.story_code.specs.Fronts.{front}
use Rattle.story_code.specs.Runs.{code_or_none, code_told}
use Rattle.story_code.specs.Soundness.{IsSoundCode, Judged}
use Rattle.story_code.specs.Spelling.{Spells, can_spell, spelled, spelling}
use Rattle.play_meaning.proofs.OperandCounts.{inside}
use Rattle.story_code.proofs.Exact.{spelled_size, spelling_size, spells_in}
use Rattle.story_code.proofs.Places.{at_cases}
use Rattle.story_code.proofs.SpelledFronts.{front_spelled}

skipped : (xs ys : List ℕ) (m n : ℕ) → m ≡ length xs + n → drop m (xs ++ ys) ≡ drop n ys
skipped [] ys m n e = let same : m ≡ n = omega (arith, e) in ap (λ k. drop k ys) same
skipped (x ∷ xs) ys m n e = let more : m ≡ suc (length xs + n) = omega (arith, e) in ap (λ k. drop k (x ∷ (xs ++ ys))) more ∙ skipped xs ys (length xs + n) n refl

fetched_in : (code : List Instruction) → list_all can_spell code ≡ true → (place : ℕ) (i : Instruction) → at_place code place ≡ Some i → front (drop place (spelling code)) ≡ Some i
fetched_in [] can place i at = absurd cc
fetched_in (j ∷ js) can place i at =
    let can_both = and_parts (can_spell j) (list_all can_spell js) can in
    elim (at_cases j js place i at) [
      | inl f ↦ ap (λ p. front (drop p (spelled j ++ spelling js))) f.0 ∙ front_spelled j (spelling js) can_both.0 ∙ ap Some f.1
      | inr f ↦
          let behind : place ≡ length (spelled j) + (place - size_of j) = omega (arith, spelled_size j, f.0) in
          ap front (skipped (spelled j) (spelling js) place (place - size_of j) behind) ∙ fetched_in js can_both.1 (place - size_of j) i f.1
    ]

-- what stands at a place of a code is read there
pub fetched : (bytes : List ℕ) (code : List Instruction) → Spells bytes code → (place : ℕ) (i : Instruction) → at_place code place ≡ Some i → front (drop place bytes) ≡ Some i
fetched bytes code s place i at = ap (λ b. front (drop place b)) s.whole ∙ fetched_in code s.each place i at

-- what a sound code's bytes tell is that code
pub told : (j : Judged) (s : IsSoundCode j.sizes j.bytes) → code_told j ≡ s.code
told j s = ap code_or_none (spells_in j.bytes s.code s.spells)

pub long : (j : Judged) (s : IsSoundCode j.sizes j.bytes) → sizes s.code < 65536
long j s = omega (arith, s.short, ap length s.spells.whole, spelling_size s.code)

-- where an instruction stands, its bytes do
pub found : (j : Judged) → IsSoundCode j.sizes j.bytes → (place : ℕ) (i : Instruction) → at_place (code_told j) place ≡ Some i → (place < length j.bytes) × (front (drop place j.bytes) ≡ Some i)
found j s place i at =
    let there : at_place s.code place ≡ Some i = ap (λ code. at_place code place) (sym (told j s)) ∙ at in
    (omega (arith, inside s.code place i there, ap length s.spells.whole, spelling_size s.code), fetched j.bytes s.code s.spells place i there)
