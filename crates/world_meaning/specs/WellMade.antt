-- What a tale must be so that it can be played: its objects are what their kinds allow.
use Rattle.std.specs.Prelude.{◌≡◌, ℕ, Bool, true, false, ◌&&◌, nat_le, List, [], ◌∷◌, length, map, take, Option, Some, None, is_none, codes, if◌then◌else◌}
use Rattle.std.specs.List.{list_all}
use Rattle.std.specs.Str.{bytes_eq}
use Rattle.world_meaning.specs.Chains.{IsTree}
use Rattle.world_meaning.specs.Declarations.{is_below, is_well_declared, suits_kind}
use Rattle.world_meaning.specs.Directions.{all_directions, direction_name}
use Rattle.world_meaning.specs.Kinds.{direction_kind, is_under, person_kind, room_kind}
use Rattle.world_meaning.specs.Sight.{is_in}
use Rattle.world_meaning.specs.Sorts.{is_at, kinds_told, sorts_of}
use Rattle.world_meaning.specs.Standing.{are_well_placed, lead_rightly, place_at}
use Rattle.world_meaning.specs.declared.article.Article.{Article}
use Rattle.world_meaning.specs.declared.article.Article.TheVariants as articles
use Rattle.world_meaning.specs.declared.direction.Direction.{Direction}
use Rattle.world_meaning.specs.declared.exits.Exits.{Exits}
use Rattle.world_meaning.specs.declared.exits.Way.{Way}
use Rattle.world_meaning.specs.declared.place.Place.{Place}
use Rattle.world_meaning.specs.declared.sorts.Sorts.{Sorts}
use Rattle.world_meaning.specs.declared.tale.Object.{Object}
use Rattle.world_meaning.specs.declared.tale.Tale.{Tale}

-- ---- the objects that stand first

abbrev pub has_no_article : Article → Bool
has_no_article articles.None = true
has_no_article articles.A = false
has_no_article articles.An = false
has_no_article articles.Some = false

-- directly in a room, where it is told of each object whether it is one
abbrev pub stands_in_room : List Bool → Option Place → Bool
stands_in_room rooms None = false
stands_in_room rooms (Some place) = is_in place.relation && is_at rooms place.holder

unfoldable pub is_player : List (Option ℕ) → List Bool → Object → Bool
is_player parents rooms o = is_under parents o.kind person_kind && bytes_eq o.name (codes "yourself") && has_no_article o.article && stands_in_room rooms o.place

unfoldable pub is_direction : List (Option ℕ) → Direction → Object → Bool
is_direction parents d o = is_under parents o.kind direction_kind && bytes_eq o.name (direction_name d) && has_no_article o.article && is_none o.place

unfoldable pub are_directions : List (Option ℕ) → List Direction → List Object → Bool
are_directions parents [] [] = true
are_directions parents [] (o ∷ os) = false
are_directions parents (d ∷ ds) [] = false
are_directions parents (d ∷ ds) (o ∷ os) = is_direction parents d o && are_directions parents ds os

-- the player, the directions, and any others; 1,000 objects at most
unfoldable pub begin_rightly : List (Option ℕ) → List Bool → List Object → Bool
begin_rightly parents rooms [] = false
begin_rightly parents rooms (player ∷ others) =
    nat_le (length others) 999 && nat_le 12 (length others) && is_player parents rooms player && are_directions parents all_directions (take 12 others)

-- ---- ways

abbrev pub is_closed : Way → Bool
is_closed w = is_none w.room && is_none w.door

abbrev pub are_closed : Exits → Bool
are_closed e = list_all is_closed e.ways

-- a room's ways lead to rooms, and nothing else has ways
unfoldable pub has_right_exits : List (Option ℕ) → Sorts → Object → Bool
has_right_exits parents sorts o = if is_under parents o.kind room_kind then lead_rightly sorts o.exits else are_closed o.exits

-- ---- all of it

abbrev pub kinds_of : List Object → List ℕ
kinds_of objects = map (λ o. o.kind) objects

abbrev pub places_of : List Object → List (Option Place)
places_of objects = map (λ o. o.place) objects

-- which of a tale's objects are of the built-in kinds or of kinds below them
abbrev pub sorts_in : Tale → Sorts
sorts_in t = sorts_of t.declared.kinds (kinds_of t.objects)

-- A tale's objects are what their kinds allow.
pub record IsWellMade (t : Tale) : Type 0 where
  pub declared : is_well_declared t.declared ≡ true
  -- the player, the directions, and any others; 1,000 objects at most
  pub begins : begin_rightly t.declared.kinds (sorts_in t).rooms t.objects ≡ true
  -- each is of a kind that is declared
  pub kinds : list_all (is_below (length t.declared.kinds)) (kinds_of t.objects) ≡ true
  -- each has what its kind has
  pub suited : list_all (suits_kind t.declared) t.objects ≡ true
  -- each is where it may be
  pub placed : are_well_placed (kinds_told (sorts_in t)) 0 (places_of t.objects) ≡ true
  -- no object stands in itself
  pub tree : IsTree (place_at (places_of t.objects))
  -- ways lead from rooms to rooms
  pub exits : list_all (has_right_exits t.declared.kinds (sorts_in t)) t.objects ≡ true
