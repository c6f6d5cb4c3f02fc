-- Which action words try, and on what (*Writing with Inform*, chapter 12).
use Rattle.std.specs.Prelude.{◌≡◌, ◌⊎◌, ℕ, ◌<◌, Bool, true, false, ◌&&◌, ◌||◌, nat_lt, ◌==◌, List, length, Some}
use Rattle.std.specs.List.{slice_get}
use Rattle.i7_conditions.specs.Predicates.{is_deep}
use Rattle.i7_conditions.specs.Scopes.{Scope}
use Rattle.i7_conditions.specs.Words.{Word}
use Rattle.i7_actions.specs.Nouns.{GivesNouns, Nouns, Reads}
use Rattle.i7_actions.specs.Parts.{first_part, second_part}
use Rattle.i7_actions.specs.declared.action.Action.{Action}

-- an action by its number, with its nouns
pub record Try : Type 0 where
  pub action : ℕ
  pub nouns : Nouns

-- the first part of the name has more words, or as many, and the second has more
unfoldable pub is_longer : Action → Action → Bool
is_longer a b =
    nat_lt (length (first_part b.name)) (length (first_part a.name))
    || ((length (first_part a.name) == length (first_part b.name)) && nat_lt (length (second_part b.name)) (length (second_part a.name)))

-- of two actions the longer one is meant, and of equals that with the lower number
abbrev pub GoesBefore : ℕ → Action → ℕ → Action → Type 0
GoesBefore m a n b = (is_longer a b ≡ true) ⊎ ((is_longer b a ≡ false) × (m < n))

-- words try an action: no other that goes before it has a reading
pub record Tries (actions : List Action) (s : Scope) (words : List Word) (t : Try) : Type 0 where
  pub action : Action
  pub at : slice_get actions t.action ≡ Some action
  pub gives : GivesNouns s action words t.nouns
  pub first : (m : ℕ) (other : Action) → slice_get actions m ≡ Some other → GoesBefore m other t.action action → (n : ℕ) (nouns : Nouns) → Reads s other words n nouns → ⊥

-- a noun with more than 8 `from`s within one another
abbrev pub nouns_are_deep : Nouns → Bool
nouns_are_deep nouns = is_deep nouns.0 || is_deep nouns.1

abbrev pub try_is_over : Try → Bool
try_is_over t = nouns_are_deep t.nouns
