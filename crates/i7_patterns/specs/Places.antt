-- Which places are right, and what and how much words may ask.
use Rattle.std.specs.Prelude.{ℕ, Bool, true, false, not, ◌&&◌, nat_lt, List, length, Option, Some, None}
use Rattle.std.specs.List.{list_any, slice_get}
use Rattle.world_meaning.specs.Kinds.{is_under, room_kind}
use Rattle.world_meaning.specs.declared.tale.Object.{Object}
use Rattle.play_meaning.specs.Rules.{Anything, Aspect, Exactly, OfKind}
use Rattle.play_meaning.specs.Trees.{Adjective, NotSo, Valued}

abbrev pub is_room : List (Option ℕ) → Option Object → Bool
is_room parents None = false
is_room parents (Some object) = is_under parents object.kind room_kind

-- a room, or a description of rooms, where the kind above each kind is told, and the objects by number
unfoldable pub is_place : List (Option ℕ) → List Object → Aspect → Bool
is_place parents objects Anything = true
is_place parents objects (Exactly o) = is_room parents (slice_get objects o)
is_place parents objects (OfKind kind adjectives) = is_under parents kind room_kind

-- a value of a kind of value, perhaps denied
abbrev pub is_value : Adjective → Bool
is_value (Valued q value) = true
is_value (NotSo (Valued q value)) = true
is_value _ = false

-- rules are about no values, as this profile has it
abbrev pub asks_value : Aspect → Bool
asks_value Anything = false
asks_value (Exactly o) = false
asks_value (OfKind kind adjectives) = list_any is_value adjectives

abbrev pub is_right_place : List (Option ℕ) → List Object → Aspect → Bool
is_right_place parents objects place = is_place parents objects place && not (asks_value place)

-- more than 9 adjectives
abbrev pub is_long : Aspect → Bool
is_long Anything = false
is_long (Exactly o) = false
is_long (OfKind kind adjectives) = nat_lt 9 (length adjectives)
