-- Which objects a slot's phrase may mean, object by object, and what the candidates come to.
use Rattle.std.specs.Prelude.{ℕ, Bool, true, false, not, ◌&&◌, ◌||◌, List, [], ◌∷◌, if◌then◌else◌}
use Rattle.std.specs.List.{list_all}
use Rattle.play_meaning.specs.Commands.{is_settled}
use Rattle.play_meaning.specs.Grammar.{Direction, Grammar, Something, Token, Word, are_named_alike, goes_by}
use Rattle.play_meaning.specs.Settings.{direction_kind, objects_of, thing_kind}
use Rattle.command_parser.specs.declared.filling.Filling.{Filling}
use Rattle.command_parser.specs.declared.filling.Filling.TheVariants.{Empty, Open, Settled}

-- the object goes by the words of a noun, which has one at least
abbrev pub is_meant : Grammar → List (List ℕ) → ℕ → Bool
is_meant g [] o = false
is_meant g (word ∷ words) o = goes_by g (word ∷ words) o

-- a slot's noun may mean the object
abbrev pub is_candidate : Grammar → (ℕ → Bool) → Token → List (List ℕ) → ℕ → Bool
is_candidate g sees (Word spelling) noun o = false
is_candidate g sees Something noun o = g.setting.is_of o thing_kind && is_meant g noun o && sees o
is_candidate g sees Direction noun o = g.setting.is_of o direction_kind && is_meant g noun o

-- what the candidates of a slot come to: none, one that is meant, or a question
abbrev pub filling_of : Grammar → List ℕ → Filling
filling_of g [] = Empty
filling_of g (o ∷ objects) = if is_settled g (o ∷ objects) then Settled o else Open

-- an object that passes a test is named as the first
abbrev pub is_alike_if : Grammar → (ℕ → Bool) → ℕ → ℕ → Bool
is_alike_if g passes first o = not (passes o) || are_named_alike g first o

-- all objects that a slot's noun may mean are named as this one
abbrev pub are_alike : Grammar → (ℕ → Bool) → Token → List (List ℕ) → ℕ → Bool
are_alike g sees slot noun first = list_all (is_alike_if g (is_candidate g sees slot noun) first) (objects_of g.setting)

abbrev pub filling_by : Bool → ℕ → Filling
filling_by true o = Settled o
filling_by false o = Open

abbrev pub is_empty : Filling → Bool
is_empty Empty = true
is_empty (Settled o) = false
is_empty Open = false
