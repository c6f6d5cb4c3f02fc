-- Places on a map: columns are counted eastward, rows southward.
use Rattle.std.specs.Prelude.{Bool, false, true, ◌&&◌, ◌==◌, not, nat_lt, ℕ, zero, suc, ◌+◌, List, [], ◌∷◌}
use Rattle.std.specs.List.{list_any}
use Rattle.room_map.specs.declared.spot.Spot.{Spot}
use Rattle.world_meaning.specs.declared.direction.Direction.{Direction}
use Rattle.world_meaning.specs.declared.direction.Direction.TheVariants.{North, Northeast, Northwest, South, Southeast, Southwest, East, West}

abbrev pub is_same_spot : Spot → Spot → Bool
is_same_spot one other = (one.column == other.column) && (one.row == other.row)

-- no two places are one
unfoldable pub are_apart : List Spot → Bool
are_apart [] = true
are_apart (spot ∷ spots) = not (list_any (is_same_spot spot) spots) && are_apart spots

-- the second place lies in the direction of the first; up and down, inside and outside are no directions on a map
abbrev pub is_toward : Direction → Spot → Spot → Bool
is_toward North from to = (to.column == from.column) && nat_lt to.row from.row
is_toward Northeast from to = nat_lt from.column to.column && nat_lt to.row from.row
is_toward Northwest from to = nat_lt to.column from.column && nat_lt to.row from.row
is_toward South from to = (to.column == from.column) && nat_lt from.row to.row
is_toward Southeast from to = nat_lt from.column to.column && nat_lt from.row to.row
is_toward Southwest from to = nat_lt to.column from.column && nat_lt from.row to.row
is_toward East from to = nat_lt from.column to.column && (to.row == from.row)
is_toward West from to = nat_lt to.column from.column && (to.row == from.row)
is_toward _ from to = false

-- so many places side by side, from a column on
abbrev pub row_of : (column : ℕ) → (rooms : ℕ) → List Spot
row_of column zero = []
row_of column (suc rooms) = record { column = column; row = 0 } ∷ row_of (column + 1) rooms
