-- A hall to look around in: 0 the player, 1 the hall, 2 a box in the hall, 3 a coin in the box, 4 a door of the
-- hall, 5 a lamp that the player carries, 6 another room, 7 a direction, 8 a knob that is part of the door.
use Rattle.std.specs.Prelude.{ℕ, Bool, ◌==◌, ◌&&◌, List, [], ◌∷◌, Option, Some, None, slice_index_or}
use Rattle.world_meaning.specs.Sight.{Root, Sights, thing, room, direction}
use Rattle.world_meaning.specs.declared.place.Place.{Place}
use Rattle.world_meaning.specs.declared.place.Rel.{Rel}
use Rattle.world_meaning.specs.declared.place.Rel.TheVariants.{In, Carried, Part}

abbrev pub by : Rel → ℕ → Option Place
by relation holder = Some (record { relation = relation; holder = holder })

abbrev pub places : List (Option Place)
places = by In 1 ∷ None ∷ by In 1 ∷ by In 2 ∷ None ∷ by Carried 0 ∷ None ∷ None ∷ by Part 4 ∷ []

abbrev pub roots : List (Option Root)
roots = Some thing ∷ Some room ∷ Some thing ∷ Some thing ∷ Some thing ∷ Some thing ∷ Some room ∷ Some direction ∷ Some thing ∷ []

-- the hall, whose box is open or transparent, whose coin is lit, or which is lighted
abbrev pub hall : Bool → Bool → Bool → Bool → Sights
hall is_open transparent lit lighted = record {
  place = λ o. slice_index_or places o None;
  root = λ o. slice_index_or roots o None;
  is_container = λ o. o == 2;
  is_open = λ o. (o == 2) && is_open;
  is_transparent = λ o. (o == 2) && transparent;
  is_lit = λ o. (o == 3) && lit;
  is_lighted = λ o. (o == 1) && lighted;
  door_in = λ o r. (o == 4) && (r == 1);
}
