-- Which pattern words are (*Writing with Inform*, chapters 7 and 12): what a rule is about, its condition aside.
use Rattle.std.specs.Prelude.{◌≡◌, ℕ, Bool, not, ◌&&◌, ◌||◌, List, [], ◌∷◌, Option, Some, None, codes, if◌then◌else◌}
use Rattle.std.specs.List.{slice_get}
use Rattle.world_meaning.specs.Spelling.{is_spelled}
use Rattle.world_meaning.specs.declared.tale.Object.{Object}
use Rattle.play_meaning.specs.Patterns.{Pattern}
use Rattle.play_meaning.specs.Rules.{Anything, Aspect}
use Rattle.i7_actions.specs.Trying.{GoesBefore}
use Rattle.i7_actions.specs.declared.action.Action.{Action}
use Rattle.i7_conditions.specs.Readings.{FirstOf}
use Rattle.i7_conditions.specs.Scopes.{Scope}
use Rattle.i7_conditions.specs.Words.{Word}
use Rattle.i7_patterns.specs.Actions.{Aspects, AsksAt, AsksPlace}
use Rattle.i7_patterns.specs.Lowest.{IsLowest}
use Rattle.i7_patterns.specs.Places.{asks_value, is_long, is_place}

-- no scene is asked for by these words
abbrev pub pattern_of : Option ℕ → Aspects → Pattern
pattern_of action x = record { action = action; noun = x.nouns.0; second = x.nouns.1; place = x.place; scene = None }

-- ---- `doing anything`

unfoldable pub is_doing_anything : Word → Word → Bool
is_doing_anything first second = is_spelled first (codes "doing") && is_spelled second (codes "anything")

-- the words behind it
abbrev pub behind_anything : List Word → Option (List Word)
behind_anything [] = None
behind_anything (first ∷ []) = None
behind_anything (first ∷ second ∷ rest) = if is_doing_anything first second then Some rest else None

-- nothing of the action and its nouns
abbrev pub any_in : Aspect → Aspects
any_in place = record { nouns = (Anything, Anything); place = place }

abbrev pub AsksAnything : Scope → List Word → Pattern → Type 0
AsksAnything s words p = (rest : List Word) × (behind_anything words ≡ Some rest) × ((place : Aspect) × AsksPlace s rest place × (p ≡ pattern_of None (any_in place)))

-- ---- an action

-- no action that goes before it has a reading; of its own the one is meant whose place begins earliest
pub record AsksAction (actions : List Action) (s : Scope) (words : List Word) (p : Pattern) : Type 0 where
  pub number : ℕ
  pub action : Action
  pub aspects : Aspects
  pub at : slice_get actions number ≡ Some action
  pub asks : IsLowest (AsksAt s action words) aspects
  pub first : (m : ℕ) (other : Action) → slice_get actions m ≡ Some other → GoesBefore m other number action → (n : ℕ) (others : Aspects) → AsksAt s other words n others → ⊥
  pub asked : p ≡ pattern_of (Some number) aspects

-- ---- all

-- `doing anything` goes before the actions
abbrev pub IsPattern : List Action → Scope → List Word → Pattern → Type 0
IsPattern actions s words = FirstOf (AsksAnything s words) (AsksAction actions s words)

abbrev pub pattern_asks_value : Pattern → Bool
pattern_asks_value p = asks_value p.noun || asks_value p.second || asks_value p.place

-- the place is a room, or a description of rooms, and no value is asked for
abbrev pub is_right : List (Option ℕ) → List Object → Pattern → Bool
is_right parents objects p = is_place parents objects p.place && not (pattern_asks_value p)

-- some aspect has more than 9 adjectives
abbrev pub pattern_is_over : Pattern → Bool
pattern_is_over p = is_long p.noun || is_long p.second || is_long p.place
