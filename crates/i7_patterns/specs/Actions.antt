-- What words ask of an action's nouns, and of the place where it is done (*Writing with Inform*, chapters 7 and 12).
use Rattle.std.specs.Prelude.{◌≡◌, ℕ, ◌≤◌, Bool, true, List, [], ◌∷◌, length, take, drop, Some, codes}
use Rattle.world_meaning.specs.Spelling.{is_spelled}
use Rattle.play_meaning.specs.Rules.{Anything, Aspect}
use Rattle.i7_actions.specs.Parts.{behind, first_part, is_name, second_part}
use Rattle.i7_actions.specs.declared.action.Action.{Action}
use Rattle.i7_actions.specs.declared.action.NounCount.{NounCount}
use Rattle.i7_actions.specs.declared.action.NounCount.TheVariants.{Zero, One, Two}
use Rattle.i7_conditions.specs.Readings.{FirstOf}
use Rattle.i7_conditions.specs.Scopes.{Scope}
use Rattle.i7_conditions.specs.Words.{Word, is_empty}
use Rattle.i7_patterns.specs.Aspects.{AsksNoun, AsksOne}
use Rattle.i7_patterns.specs.Lowest.{IsLowest}

-- ---- nouns

-- what is asked of the noun and of the second noun, nothing where the action has none
abbrev pub Nouns : Type 0
Nouns = Aspect × Aspect

-- no words, which ask nothing
abbrev pub IsOmitted : List Word → Aspect → Type 0
IsOmitted words x = (is_empty words ≡ true) × (x ≡ Anything)

-- an action of one noun may omit it
abbrev pub AsksFirst : Scope → NounCount → List Word → Aspect → Type 0
AsksFirst s Zero words x = ⊥
AsksFirst s One words x = FirstOf (IsOmitted words) (AsksNoun s words) x
AsksFirst s Two words x = AsksNoun s words x

-- behind the second part of a name nothing more stands, or the second noun
abbrev pub AsksLast : Scope → NounCount → List Word → Aspect → Type 0
AsksLast s Zero words x = ⊥
AsksLast s One words x = IsOmitted words x
AsksLast s Two words x = AsksNoun s words x

-- the first n of the words are the noun, and behind them comes the second part
pub record AsksAround (s : Scope) (count : NounCount) (second words : List Word) (n : ℕ) (nouns : Nouns) : Type 0 where
  pub last : List Word
  pub within : n ≤ length words
  pub part : behind second (drop n words) ≡ Some last
  pub noun : AsksFirst s count (take n words) nouns.0
  pub ends : AsksLast s count last nouns.1

-- the first part of a name, with the nouns behind it, of which the first has n words
abbrev pub AsksBehind : Scope → NounCount → List Word → List Word → ℕ → Nouns → Type 0
AsksBehind s count name words n nouns = (rest : List Word) × (behind (first_part name) words ≡ Some rest) × AsksAround s count (second_part name) rest n nouns

-- the whole name of an action without nouns
abbrev pub IsAlone : List Word → List Word → ℕ → Nouns → Type 0
IsAlone name words n nouns = (is_name name words ≡ true) × (n ≡ 0) × (nouns ≡ (Anything, Anything))

abbrev pub AsksBy : Scope → NounCount → List Word → List Word → ℕ → Nouns → Type 0
AsksBy s Zero name words = IsAlone name words
AsksBy s One name words = AsksBehind s One name words
AsksBy s Two name words = AsksBehind s Two name words

-- words are an action with nouns, of which the first has n words
abbrev pub AsksNouns : Scope → Action → List Word → ℕ → Nouns → Type 0
AsksNouns s a words = AsksBy s a.nouns a.name words

-- ---- the place

unfoldable pub is_in : Word → Bool
is_in word = is_spelled word (codes "in")

-- nothing more, or `in` and a place
abbrev pub AsksPlace : Scope → List Word → Aspect → Type 0
AsksPlace s [] x = x ≡ Anything
AsksPlace s (word ∷ words) x = (is_in word ≡ true) × AsksOne s words x

-- ---- both

pub record Aspects : Type 0 where
  pub nouns : Nouns
  pub place : Aspect

-- the first n of the words are an action, whose first noun is as short as can be, and behind them stands the place
pub record AsksAt (s : Scope) (a : Action) (words : List Word) (n : ℕ) (x : Aspects) : Type 0 where
  pub within : n ≤ length words
  pub nouns : IsLowest (AsksNouns s a (take n words)) x.nouns
  pub place : AsksPlace s (drop n words) x.place
