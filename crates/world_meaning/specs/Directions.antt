-- The directions' numbers, names and opposites.
use Rattle.std.specs.Prelude.{ℕ, ◌-◌, List, [], ◌∷◌, map, slice_index_or}
use Rattle.world_meaning.specs.declared.direction.Direction.{Direction}
use Rattle.world_meaning.specs.declared.direction.Direction.TheVariants.{North, Northeast, Northwest, South, Southeast, Southwest, East, West, Up, Down, Inside, Outside}
use Rattle.world_meaning.specs.declared.direction.TheConstants.{DIRECTIONS}

-- a direction's object number
abbrev pub direction_number : Direction → ℕ
direction_number North = 1
direction_number Northeast = 2
direction_number Northwest = 3
direction_number South = 4
direction_number Southeast = 5
direction_number Southwest = 6
direction_number East = 7
direction_number West = 8
direction_number Up = 9
direction_number Down = 10
direction_number Inside = 11
direction_number Outside = 12

-- ---- what the table has of a direction: the rows stand by number, from 1

-- the name that a direction is printed with
unfoldable pub direction_name : Direction → List ℕ
direction_name direction = slice_index_or (map (λ row. row.0.now) DIRECTIONS) (direction_number direction - 1) []

-- the short word that a command may use
unfoldable pub short_word : Direction → List ℕ
short_word direction = slice_index_or (map (λ row. row.1.now) DIRECTIONS) (direction_number direction - 1) []

-- the direction that leads back
unfoldable pub opposite_of : Direction → Direction
opposite_of direction = slice_index_or (map (λ row. row.2) DIRECTIONS) (direction_number direction - 1) direction

-- the directions in the order of their numbers
abbrev pub all_directions : List Direction
all_directions = North ∷ Northeast ∷ Northwest ∷ South ∷ Southeast ∷ Southwest ∷ East ∷ West ∷ Up ∷ Down ∷ Inside ∷ Outside ∷ []
