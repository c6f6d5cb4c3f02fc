-- Which number words are (*Writing with Inform*, chapter 15): one that stands alone, or two that an operator joins.
-- Operators bind alike, and to the right.
use Rattle.std.specs.Prelude.{◌≡◌, ℕ, ◌<◌, true, false, List, take, drop, Some}
use Rattle.play_meaning.specs.Meant.{by_operator}
use Rattle.play_meaning.specs.Trees.{Number}
use Rattle.play_meaning.specs.declared.tree.number.Operator.{Operator}
use Rattle.i7_conditions.specs.Operators.{operator_at}
use Rattle.i7_conditions.specs.Scopes.{Scope}
use Rattle.i7_conditions.specs.Terms.{IsTermMeant, is_over}
use Rattle.i7_conditions.specs.Words.{Word}
use Rattle.i7_conditions.specs.declared.found.Found.{Found}
use Rattle.i7_conditions.specs.declared.found.Found.TheVariants.{Read, TooMany, Unread}

-- a number that the names allow: each part in front of an operator stands alone
pub data IsNumber (s : Scope) : List Word → Number → Type 0 where
  alone : {words : List Word} {t : Number} → IsTermMeant s words t → IsNumber s words t
  joined : {words rest : List Word} {operator : Operator} {t m : Number} → (n : ℕ) → IsTermMeant s (take n words) t → operator_at (drop n words) ≡ Some (operator, rest) → IsNumber s rest m
      → IsNumber s words (by_operator operator t m)

-- no shorter part in front of an operator is a number with a number behind it
abbrev pub IsShortestPart : Scope → List Word → ℕ → Type 0
IsShortestPart s words n =
    (k : ℕ) → k < n → (t m : Number) (operator : Operator) (rest : List Word) → IsTermMeant s (take k words) t → operator_at (drop k words) ≡ Some (operator, rest) → IsNumber s rest m → ⊥

-- a number that stands alone is meant before joined ones, and of these the one with the shortest first part
pub data CountsAs (s : Scope) : List Word → Number → Type 0 where
  alone : {words : List Word} {t : Number} → IsTermMeant s words t → CountsAs s words t
  joined : {words rest : List Word} {operator : Operator} {t m : Number} → (n : ℕ) → ((lone : Number) → IsTermMeant s words lone → ⊥) → IsTermMeant s (take n words) t
      → operator_at (drop n words) ≡ Some (operator, rest) → IsShortestPart s words n → CountsAs s rest m → CountsAs s words (by_operator operator t m)

-- at most 9 adjectives in each of its descriptions, and at most 8 `from`s within one another
abbrev pub IsNumberFound : Scope → List Word → Found Number → Type 0
IsNumberFound s words (Read m) = CountsAs s words m × (is_over m ≡ false)
IsNumberFound s words TooMany = (m : Number) × CountsAs s words m × (is_over m ≡ true)
IsNumberFound s words Unread = (m : Number) → IsNumber s words m → ⊥
