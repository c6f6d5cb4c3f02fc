-- The world of a story in play: lists by number, what is read off them, and what sets them.
use Rattle.std.specs.Prelude.{ℕ, ◌+◌, ℤ, pos, Bool, false, List, [], length, Option, None, Some, slice_index_or, slice_set}
use Rattle.world_meaning.specs.Chains.{climb}
use Rattle.world_meaning.specs.declared.place.Place.{Place}
use Rattle.play_meaning.specs.declared.scene.SceneNow.{SceneNow}

pub record World : Type 0 where
  -- where each object is
  pub places : List (Option Place)
  -- of each either-or property, of which objects it is true
  pub flags : List (List Bool)
  -- of each number property, the number of each object
  pub numbers : List (List ℤ)
  -- of each kind of value, the value of each object
  pub values : List (List ℕ)
  pub variables : List ℤ
  pub scenes : List SceneNow
  -- counted from 1
  pub turns : ℕ
  -- the text with which the story ended, if it has
  pub ended : Option (List ℕ)

abbrev pub place_of : World → ℕ → Option Place
place_of w o = slice_index_or w.places o None

-- where a thing is, where its holder is, and so on: in a world without a cycle no chain has more steps than
-- there are objects
unfoldable pub chain : World → ℕ → List Place
chain w o = climb (place_of w) (length w.places) o

-- whether a property is true of an object
unfoldable pub is_true_of : World → ℕ → ℕ → Bool
is_true_of w property o = slice_index_or (slice_index_or w.flags property []) o false

unfoldable pub number_of : World → ℕ → ℕ → ℤ
number_of w property o = slice_index_or (slice_index_or w.numbers property []) o (pos 0)

-- which of the values of a kind of value an object has, where it has one
unfoldable pub value_of : World → ℕ → ℕ → ℕ
value_of w q o = slice_index_or (slice_index_or w.values q []) o 0

abbrev pub variable_of : World → ℕ → ℤ
variable_of w v = slice_index_or w.variables v (pos 0)

-- as play begins, and as long as nothing begins it
abbrev pub not_begun : SceneNow
not_begun = record { happens = false; has_begun = false }

abbrev pub scene_of : World → ℕ → SceneNow
scene_of w s = slice_index_or w.scenes s not_begun

abbrev pub holder_in : Option Place → Option ℕ
holder_in None = None
holder_in (Some place) = Some place.holder

-- what the player is in: a room
abbrev pub location_of : World → Option ℕ
location_of w = holder_in (place_of w 0)

abbrev pub set_place : ℕ → Option Place → World → World
set_place o place w = record w { places = slice_set w.places o place }

unfoldable pub set_flag : ℕ → ℕ → Bool → World → World
set_flag property o value w = record w { flags = slice_set w.flags property (slice_set (slice_index_or w.flags property []) o value) }

unfoldable pub set_number : ℕ → ℕ → ℤ → World → World
set_number property o value w = record w { numbers = slice_set w.numbers property (slice_set (slice_index_or w.numbers property []) o value) }

unfoldable pub set_value : ℕ → ℕ → ℕ → World → World
set_value q o value w = record w { values = slice_set w.values q (slice_set (slice_index_or w.values q []) o value) }

abbrev pub set_variable : ℕ → ℤ → World → World
set_variable v value w = record w { variables = slice_set w.variables v value }

abbrev pub set_scene : ℕ → SceneNow → World → World
set_scene s now w = record w { scenes = slice_set w.scenes s now }

abbrev pub end_with : List ℕ → World → World
end_with text w = record w { ended = Some text }

abbrev pub next_turn : World → World
next_turn w = record w { turns = w.turns + 1 }
