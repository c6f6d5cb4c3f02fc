-- The things that are meant where all are to be taken or dropped.
use Rattle.std.specs.Prelude.{ℕ, Bool, false, not, ◌&&◌, ◌==◌, List, [], ◌∷◌, filter, Option, None, Some, if◌then◌else◌}
use Rattle.world_meaning.specs.declared.place.Place.{Place}
use Rattle.world_meaning.specs.declared.place.Rel.TheVariants.{Carried, Part}
use Rattle.play_meaning.specs.Seeing.{encloses}
use Rattle.play_meaning.specs.Settings.{Setting, door_kind, fixed_in_place_flag, objects_of, person_kind, scenery_flag, thing_kind}
use Rattle.play_meaning.specs.StandardActions.{taking}
use Rattle.play_meaning.specs.Trees.{Adjective, First, NotSo, Quality, Second, Visible}
use Rattle.play_meaning.specs.Values.{is_among, is_held}
use Rattle.world_meaning.specs.Relations.{relation_number}
use Rattle.play_meaning.specs.Worlds.{World, place_of}

-- `visible portable not scenery`
abbrev pub at_hand : List Adjective
at_hand = Visible ∷ Quality fixed_in_place_flag Second ∷ NotSo (Quality scenery_flag First) ∷ []

abbrev pub is_part : Option Place → Bool
is_part None = false
is_part (Some place) = relation_number place.relation == relation_number Part

-- no person, no door, part of nothing, and nothing that the player has about him
abbrev pub is_to_take : Setting → World → ℕ → Bool
is_to_take s w o =
    is_among s w at_hand (Some thing_kind) o && not (s.is_of o person_kind) && not (s.is_of o door_kind)
    && not (is_part (place_of w o)) && not (encloses w 0 o)

-- what the player carries
abbrev pub is_to_drop : World → ℕ → Bool
is_to_drop w o = is_held w Carried (Some 0) o

abbrev pub is_for_all : Setting → World → ℕ → ℕ → Bool
is_for_all s w action o = if action == taking then is_to_take s w o else is_to_drop w o

-- by rising number
unfoldable pub all_things : Setting → World → ℕ → List ℕ
all_things s w action = filter (is_for_all s w action) (objects_of s)
