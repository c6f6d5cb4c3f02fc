-- What words ask of a noun, or of the place: `the ball`, `an open container`, `something`.
use Rattle.std.specs.Prelude.{◌≡◌, ℕ, Bool, true, false, List, [], ◌∷◌, map, codes}
use Rattle.std.specs.List.{list_all}
use Rattle.world_meaning.specs.Spelling.{is_spelled}
use Rattle.play_meaning.specs.Meant.{adjective_meant}
use Rattle.play_meaning.specs.Rules.{Anything, Aspect, Exactly, OfKind}
use Rattle.play_meaning.specs.Trees.{The}
use Rattle.play_meaning.specs.declared.tree.object.Adjective.{Adjective}
use Rattle.play_meaning.specs.declared.tree.object.Quality.{Quality}
use Rattle.play_meaning.specs.declared.tree.object.Quality.TheVariants as quality
use Rattle.i7_actions.specs.Nouns.{IsNoun}
use Rattle.i7_conditions.specs.Cuts.{IsMeant}
use Rattle.i7_conditions.specs.Readings.{FirstOf}
use Rattle.i7_conditions.specs.Scopes.{Scope}
use Rattle.i7_conditions.specs.Words.{Word, without_article}

-- ---- words

unfoldable pub says_something : Word → Bool
says_something word = is_spelled word (codes "something")

-- the word alone
abbrev pub is_something : List Word → Bool
is_something [] = false
is_something (word ∷ []) = says_something word
is_something (word ∷ other ∷ words) = false

-- an either-or property or a value, which `visible` and `touchable` aren't
abbrev pub is_own_quality : Quality → Bool
is_own_quality (quality.Is property side) = true
is_own_quality (quality.Valued q value) = true
is_own_quality quality.Visible = false
is_own_quality quality.Touchable = false

-- what an object has by itself, whoever looks at it
abbrev pub is_own : Adjective → Bool
is_own adjective = is_own_quality adjective.quality

-- ---- what they ask

-- `something` alone asks nothing
abbrev pub AsksNothing : List Word → Aspect → Type 0
AsksNothing words x = (is_something words ≡ true) × (x ≡ Anything)

-- an object by its name, or the player
abbrev pub AsksObject : Scope → List Word → Aspect → Type 0
AsksObject s words x = (o : ℕ) × IsNoun s words (The o) × (x ≡ Exactly o)

-- adjectives and then a kind, one article in front being free; where one of them is a value, this is refused (`Places`)
pub record AsksKind (s : Scope) (words : List Word) (x : Aspect) : Type 0 where
  pub adjectives : List Adjective
  pub kind : ℕ
  pub meant : IsMeant s (without_article words) adjectives kind
  pub own : list_all is_own adjectives ≡ true
  pub asked : x ≡ OfKind kind (map adjective_meant adjectives)

-- an object goes before a description
abbrev pub AsksOne : Scope → List Word → Aspect → Type 0
AsksOne s words = FirstOf (AsksObject s words) (AsksKind s words)

abbrev pub AsksNoun : Scope → List Word → Aspect → Type 0
AsksNoun s words = FirstOf (AsksNothing words) (AsksOne s words)
