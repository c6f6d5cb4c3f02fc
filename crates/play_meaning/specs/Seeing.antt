-- What the player sees and touches in a world, and whether there is light, told by computing: the chain of each
-- thing is walked.
use Rattle.std.specs.Prelude.{ℕ, Bool, true, false, not, ◌&&◌, ◌||◌, ◌==◌, Option, None, Some, if◌then◌else◌}
use Rattle.std.specs.List.{list_any}
use Rattle.world_meaning.specs.Chains.{top_of}
use Rattle.world_meaning.specs.Directions.{all_directions, direction_number}
use Rattle.world_meaning.specs.Sight.{Root, Sights, thing, room, direction, blocks_sight, blocks_touch}
use Rattle.world_meaning.specs.declared.place.Place.{Place}
use Rattle.play_meaning.specs.Settings.{Setting, objects_of, thing_kind, room_kind, direction_kind, container_kind, open_flag, transparent_flag, lit_flag, lighted_flag}
use Rattle.play_meaning.specs.Worlds.{World, chain, is_true_of, location_of, place_of}

abbrev pub is_number : Option ℕ → ℕ → Bool
is_number None n = false
is_number (Some m) n = m == n

-- a door stands in the rooms on its two sides
abbrev pub stands_in : Setting → ℕ → ℕ → Bool
stands_in s door here = list_any (λ d. is_number (s.door_beyond here (direction_number d)) door) all_directions

abbrev pub root_of : Setting → ℕ → Option Root
root_of s o =
    if s.is_of o thing_kind then Some thing
    else if s.is_of o room_kind then Some room
    else if s.is_of o direction_kind then Some direction
    else None

-- what of a world decides of sight
abbrev pub sights_of : Setting → World → Sights
sights_of s w = record {
  place = place_of w;
  root = root_of s;
  is_container = λ o. s.is_of o container_kind;
  is_open = is_true_of w open_flag;
  is_transparent = is_true_of w transparent_flag;
  is_lit = is_true_of w lit_flag;
  is_lighted = is_true_of w lighted_flag;
  door_in = stands_in s;
}

abbrev pub is_same : Option ℕ → Option ℕ → Bool
is_same None None = true
is_same None (Some n) = false
is_same (Some m) None = false
is_same (Some m) (Some n) = m == n

abbrev pub is_held_by : ℕ → Place → Bool
is_held_by holder step = holder == step.holder

-- the holder stands in the chain of the thing
unfoldable pub encloses : World → ℕ → ℕ → Bool
encloses w holder o = list_any (is_held_by holder) (chain w o)

-- the chain of a thing ends in the player's room, with no step blocked for sight
unfoldable pub is_in_view : Setting → World → ℕ → Bool
is_in_view s w o = is_same (top_of (chain w o)) (location_of w) && not (list_any (blocks_sight (sights_of s w)) (chain w o))

abbrev pub is_true_at : World → ℕ → Option ℕ → Bool
is_true_at w property None = false
is_true_at w property (Some o) = is_true_of w property o

abbrev pub gives_light : Setting → World → ℕ → Bool
gives_light s w o = is_true_of w lit_flag o && is_in_view s w o

-- the player's room is lighted, or light comes from a lit thing
unfoldable pub has_light : Setting → World → Bool
has_light s w = is_true_at w lighted_flag (location_of w) || list_any (gives_light s w) (objects_of s)

abbrev pub stands_here : Setting → ℕ → Option ℕ → Bool
stands_here s door None = false
stands_here s door (Some here) = stands_in s door here

-- the player; a door of the player's room in light; what is in view, in light or held by the player
unfoldable pub is_visible_thing : Setting → World → ℕ → Bool
is_visible_thing s w o = (o == 0) || (stands_here s o (location_of w) && has_light s w) || (is_in_view s w o && (has_light s w || encloses w 0 o))

abbrev pub is_visible_as : Option Root → Setting → World → ℕ → Bool
is_visible_as None s w o = false
is_visible_as (Some thing) s w o = is_visible_thing s w o
is_visible_as (Some room) s w o = is_number (location_of w) o
is_visible_as (Some direction) s w o = true

unfoldable pub is_visible : Setting → World → ℕ → Bool
is_visible s w o = is_visible_as (root_of s o) s w o

-- a visible thing none of whose steps is blocked for touch
unfoldable pub is_touchable : Setting → World → ℕ → Bool
is_touchable s w o = s.is_of o thing_kind && is_visible s w o && not (list_any (blocks_touch (sights_of s w)) (chain w o))
