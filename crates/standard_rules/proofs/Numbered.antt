-- Rules that stand in the order of their numbers.
use Rattle.std.proofs.Common.{◌≡◌, ◌∙◌, refl, ℕ, ◌+◌, ◌<◌, true, List, [], ◌∷◌, ◌++◌, length, slice_index_or, zero, suc, arith}
use Rattle.std.specs.Prelude.{◌==◌}
use Rattle.std.proofs.lemmas.Bool.{eqb-true, eq-eqb, and_parts}
use Rattle.standard_rules.specs.Hosts.{are_numbered}

-- one rule more, of the next number
pub numbered_on : {R : Type 0} (id : R → ℕ) (next : ℕ) (rules : List R) (rule : R) → are_numbered id next rules ≡ true → id rule ≡ length rules + next → are_numbered id next (rules ++ rule ∷ []) ≡ true
numbered_on id next [] rule are is = rw (eq-eqb (id rule) next (is ∙ omega arith)) refl
numbered_on id next (first ∷ rules) rule are is =
    let both = and_parts (id first == next) (are_numbered id (next + 1) rules) are in
    rw both.0 (numbered_on id (next + 1) rules rule both.1 (is ∙ omega arith))

-- the rule at a place has its number
pub numbered_at : {R : Type 0} (id : R → ℕ) (next : ℕ) (rules : List R) (place : ℕ) (other : R) → are_numbered id next rules ≡ true → place < length rules → id (slice_index_or rules place other) ≡ place + next
numbered_at id next [] place other are there = absurd (omega (arith, there))
numbered_at id next (first ∷ rules) zero other are there = eqb-true (id first) next (and_parts (id first == next) (are_numbered id (next + 1) rules) are).0 ∙ omega arith
numbered_at id next (first ∷ rules) (suc place) other are there =
    numbered_at id (next + 1) rules place other (and_parts (id first == next) (are_numbered id (next + 1) rules) are).1 (omega (arith, there)) ∙ omega arith
