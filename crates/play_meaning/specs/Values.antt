-- What objects, descriptions and numbers are, in a world, an action and the open repeats.
use Rattle.world_meaning.specs.Relations.{relation_number}
use Rattle.std.specs.Prelude.{ℕ, ℤ, ◌+ℤ◌, ◌-ℤ◌, ◌*ℤ◌, pos, negsuc, nat_lt, Bool, true, false, not, ◌&&◌, ◌==◌, List, [], length, filter, slice_get, slice_index_or, Option, None, Some, Ok, Err, if◌then◌else◌}
use Rattle.std.specs.List.{list_all}
use Rattle.world_meaning.specs.declared.place.Place.{Place}
use Rattle.world_meaning.specs.declared.place.Rel.{Rel}
use Rattle.world_meaning.specs.declared.session.Abandon.TheVariants.{NumberOutOfRange}
use Rattle.play_meaning.specs.Attempts.{Attempt, next}
use Rattle.play_meaning.specs.Seeing.{is_touchable, is_visible}
use Rattle.play_meaning.specs.Settings.{Setting, direction_kind, objects_of, room_kind}
use Rattle.play_meaning.specs.Trees.{Adjective, Description, DoorFrom, First, Literal, Location, Minus, NotSo, Noun, Nothing, Number, Object, Plus, PropertyOf, Quality, RoomFrom, Second, SecondNoun, Side, The, Those, ThoseHeld, Times, Touchable, TurnCount, Turning, Valued, Variable, Visible, CountOf}
use Rattle.play_meaning.specs.Worlds.{World, is_true_of, location_of, number_of, place_of, value_of, variable_of}
use Rattle.play_meaning.specs.declared.action.ActionNow.{ActionNow}

-- what words are read in: the action, and the objects of the open repeats, the outermost first
pub record Scope : Type 0 where
  pub now : ActionNow
  pub turning : List ℕ

-- ---- objects

-- what lies in a direction from a room; nothing where either isn't so
abbrev pub beyond : Setting → (ℕ → ℕ → Option ℕ) → Option ℕ → Option ℕ → Option ℕ
beyond s leads None room = None
beyond s leads (Some direction) None = None
beyond s leads (Some direction) (Some room) = if s.is_of direction direction_kind && s.is_of room room_kind then leads room direction else None

-- which object is meant; nothing where there is none
unfoldable pub object_in : Setting → Scope → World → Object → Option ℕ
object_in s scope w (The o) = Some o
object_in s scope w Noun = scope.now.noun
object_in s scope w SecondNoun = scope.now.second
object_in s scope w Location = location_of w
object_in s scope w Nothing = None
object_in s scope w (Turning n) = slice_get scope.turning n
object_in s scope w (RoomFrom direction room) = beyond s s.room_beyond (object_in s scope w direction) (object_in s scope w room)
object_in s scope w (DoorFrom direction room) = beyond s s.door_beyond (object_in s scope w direction) (object_in s scope w room)

-- ---- values

-- nothing has no value, nor has an object whose kind has none of this kind
abbrev pub value_at : Setting → World → ℕ → Option ℕ → Option ℕ
value_at s w q None = None
value_at s w q (Some o) = if s.has_value o q then Some (value_of w q o) else None

abbrev pub value_named : Setting → ℕ → ℕ → List ℕ
value_named s q value = slice_index_or (s.value_names q) value []

abbrev pub is_value : Setting → ℕ → ℕ → Bool
is_value s q value = nat_lt value (length (s.value_names q))

-- ---- descriptions

-- a second name is true where the kind has the property and it is false
abbrev pub is_side : Bool → Side → Bool
is_side value First = value
is_side value Second = not value

abbrev pub has_quality : Setting → World → ℕ → Side → ℕ → Bool
has_quality s w property side o = s.has_flag o property && is_side (is_true_of w property o) side

-- an object that has no value of this kind has none of them
abbrev pub has_value : Setting → World → ℕ → ℕ → ℕ → Bool
has_value s w q value o = s.has_value o q && (value_of w q o == value)

abbrev pub is_so : Setting → World → Adjective → ℕ → Bool
is_so s w (Quality property side) o = has_quality s w property side o
is_so s w (Valued q value) o = has_value s w q value o
is_so s w Visible o = is_visible s w o
is_so s w Touchable o = is_touchable s w o
is_so s w (NotSo adjective) o = not (is_so s w adjective o)

abbrev pub is_of_kind : Setting → Option ℕ → ℕ → Bool
is_of_kind s None o = true
is_of_kind s (Some kind) o = s.is_of o kind

abbrev pub is_among : Setting → World → List Adjective → Option ℕ → ℕ → Bool
is_among s w adjectives kind o = is_of_kind s kind o && list_all (λ adjective. is_so s w adjective o) adjectives

abbrev pub is_place : Rel → ℕ → Option Place → Bool
is_place relation holder None = false
is_place relation holder (Some place) = (relation_number place.relation == relation_number relation) && (place.holder == holder)

-- nothing holds nothing
abbrev pub is_held : World → Rel → Option ℕ → ℕ → Bool
is_held w relation None o = false
is_held w relation (Some holder) o = is_place relation holder (place_of w o)

-- whether an object is one of those that a description means
unfoldable pub is_one : Setting → Scope → World → Description → ℕ → Bool
is_one s scope w (Those adjectives kind) o = is_among s w adjectives kind o
is_one s scope w (ThoseHeld adjectives kind relation holder) o = is_among s w adjectives kind o && is_held w relation (object_in s scope w holder) o

-- the objects that a description means, by rising number
unfoldable pub those : Setting → Scope → World → Description → List ℕ
those s scope w description = filter (is_one s scope w description) (objects_of s)

-- ---- numbers

abbrev pub is_in_range : ℤ → Bool
is_in_range (pos n) = nat_lt n 2147483648
is_in_range (negsuc n) = nat_lt n 2147483648

abbrev pub in_range : ℤ → Attempt ℤ
in_range n = if is_in_range n then Ok n else Err NumberOutOfRange

-- a number of nothing, or of a property that the kind lacks, is 0
abbrev pub number_at : Setting → World → ℕ → Option ℕ → ℤ
number_at s w property None = pos 0
number_at s w property (Some o) = if s.has_number o property then number_of w property o else pos 0

abbrev pub both : Attempt ℤ → Attempt ℤ → (ℤ → ℤ → Attempt ℤ) → Attempt ℤ
both a b of_both = next a (λ m. next b (λ n. of_both m n))

-- a sum, a difference or a product out of range is abandoned
unfoldable pub number_in : Setting → Scope → World → Number → Attempt ℤ
number_in s scope w (Literal n) = Ok n
number_in s scope w (Variable v) = Ok (variable_of w v)
number_in s scope w (PropertyOf property o) = Ok (number_at s w property (object_in s scope w o))
number_in s scope w (CountOf description) = Ok (pos (length (those s scope w description)))
number_in s scope w TurnCount = Ok (pos w.turns)
number_in s scope w (Plus a b) = both (number_in s scope w a) (number_in s scope w b) (λ m n. in_range (m +ℤ n))
number_in s scope w (Minus a b) = both (number_in s scope w a) (number_in s scope w b) (λ m n. in_range (m -ℤ n))
number_in s scope w (Times a b) = both (number_in s scope w a) (number_in s scope w b) (λ m n. in_range (m *ℤ n))
