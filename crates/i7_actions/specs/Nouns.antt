-- Which nouns words give an action (*Writing with Inform*, chapter 12).
use Rattle.std.specs.Prelude.{◌≡◌, ℕ, ◌<◌, ◌≤◌, true, false, List, length, take, drop, Some}
use Rattle.play_meaning.specs.Trees.{Nothing, Object}
use Rattle.i7_conditions.specs.Objects.{Means}
use Rattle.i7_conditions.specs.Scopes.{Scope}
use Rattle.i7_conditions.specs.Words.{Word, is_empty}
use Rattle.i7_actions.specs.Parts.{behind, first_part, is_name, second_part}
use Rattle.i7_actions.specs.declared.action.Action.{Action}
use Rattle.i7_actions.specs.declared.action.NounCount.{NounCount}
use Rattle.i7_actions.specs.declared.action.NounCount.TheVariants.{Zero, One, Two}

-- a noun and a second noun, each nothing where the action has none
abbrev pub Nouns : Type 0
Nouns = Object × Object

-- at least one word, which mean an object
abbrev pub IsNoun : Scope → List Word → Object → Type 0
IsNoun s words o = (is_empty words ≡ false) × Means s words o

-- what stands behind the second part: nothing more, or the second noun
abbrev pub IsLast : Scope → NounCount → List Word → Object → Type 0
IsLast s Zero words o = ⊥
IsLast s One words o = (is_empty words ≡ true) × (o ≡ Nothing)
IsLast s Two words o = IsNoun s words o

-- the first n of the words are the noun, and behind them comes the second part
pub record StandAt (s : Scope) (count : NounCount) (second words : List Word) (n : ℕ) (nouns : Nouns) : Type 0 where
  pub last : List Word
  pub within : n ≤ length words
  pub part : behind second (drop n words) ≡ Some last
  pub noun : IsNoun s (take n words) nouns.0
  pub ends : IsLast s count last nouns.1

-- words try an action: its name alone, or its first part, with the nouns behind it, of which the first has n words
pub data Reads (s : Scope) (a : Action) (words : List Word) : ℕ → Nouns → Type 0 where
  alone : a.nouns ≡ Zero → is_name a.name words ≡ true → Reads s a words 0 (Nothing, Nothing)
  around : {rest : List Word} {n : ℕ} {nouns : Nouns} → behind (first_part a.name) words ≡ Some rest → StandAt s a.nouns (second_part a.name) rest n nouns → Reads s a words n nouns

-- of an action's readings the one with the shortest noun is meant
pub record GivesNouns (s : Scope) (a : Action) (words : List Word) (nouns : Nouns) : Type 0 where
  pub n : ℕ
  pub reads : Reads s a words n nouns
  pub shortest : (m : ℕ) → m < n → (others : Nouns) → Reads s a words m others → ⊥
