-- Which objects are of the built-in kinds or of kinds below them, told object by object.
use Rattle.std.specs.Prelude.{ℕ, Bool, false, List, map, slice_index_or, Option}
use Rattle.world_meaning.specs.Kinds.{is_under, person_kind, room_kind}
use Rattle.world_meaning.specs.Placing.{Kinds}
use Rattle.world_meaning.specs.declared.sorts.Sorts.{Sorts}

-- of each kind, whether it lies under another or is it
abbrev pub under_each : List (Option ℕ) → List ℕ → ℕ → List Bool
under_each parents kinds other = map (λ kind. is_under parents kind other) kinds

-- what is told of an object; no for a number that no object has
abbrev pub is_at : List Bool → ℕ → Bool
is_at told o = slice_index_or told o false

-- of objects of these kinds
unfoldable pub sorts_of : List (Option ℕ) → List ℕ → Sorts
sorts_of parents kinds = record {
  things = under_each parents kinds 0;
  rooms = under_each parents kinds room_kind;
  doors = under_each parents kinds 3;
  containers = under_each parents kinds 4;
  supporters = under_each parents kinds 5;
  persons = under_each parents kinds person_kind;
}

abbrev pub kinds_told : Sorts → Kinds
kinds_told s = record { is_thing = is_at s.things; is_room = is_at s.rooms; is_door = is_at s.doors; is_container = is_at s.containers; is_supporter = is_at s.supporters; is_person = is_at s.persons }
