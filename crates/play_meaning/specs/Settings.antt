-- What of a story's objects never changes while it is played, by number; nothing of a number that no object has.
use Rattle.std.specs.Prelude.{ℕ, Bool, List, Option}
use Rattle.std.specs.List.{range_with_len}
pub use Rattle.world_meaning.specs.Kinds.{container_kind, device_kind, direction_kind, door_kind, man_kind, person_kind, room_kind, supporter_kind, thing_kind}
use Rattle.world_meaning.specs.Placing.{Kinds}
use Rattle.world_meaning.specs.declared.article.Article.{Article}
use Rattle.world_meaning.specs.declared.standard_properties.TheConstants.{DESCRIBED, FIXED_IN_PLACE, LIGHTED, LIT, OPEN, OPENABLE, SCENERY, SWITCHED_ON, TRANSPARENT, VISITED, WEARABLE}

pub record Setting : Type 0 where
  -- how many objects there are
  pub count : ℕ
  -- the name as it is printed, without its article
  pub name : ℕ → List ℕ
  pub article : ℕ → Article
  -- whether an object is of a kind, or of one below it
  pub is_of : ℕ → ℕ → Bool
  -- how many kinds lie on the way from a kind up to its root, both counted
  pub depth : ℕ → ℕ
  -- whether an object's kind has an either-or property
  pub has_flag : ℕ → ℕ → Bool
  -- whether an object's kind has a number property
  pub has_number : ℕ → ℕ → Bool
  -- whether an object's kind has a value of a kind of value
  pub has_value : ℕ → ℕ → Bool
  -- the names of the values of a kind of value, by number
  pub value_names : ℕ → List (List ℕ)
  -- the room to which a direction, by its number, leads from a room, and the door on the way
  pub room_beyond : ℕ → ℕ → Option ℕ
  pub door_beyond : ℕ → ℕ → Option ℕ
  pub has_description : ℕ → Bool

-- ---- the numbers of the built-in properties

abbrev pub open_flag : ℕ
open_flag = OPEN

abbrev pub openable_flag : ℕ
openable_flag = OPENABLE

abbrev pub transparent_flag : ℕ
transparent_flag = TRANSPARENT

abbrev pub lit_flag : ℕ
lit_flag = LIT

abbrev pub lighted_flag : ℕ
lighted_flag = LIGHTED

abbrev pub scenery_flag : ℕ
scenery_flag = SCENERY

abbrev pub fixed_in_place_flag : ℕ
fixed_in_place_flag = FIXED_IN_PLACE

abbrev pub wearable_flag : ℕ
wearable_flag = WEARABLE

abbrev pub described_flag : ℕ
described_flag = DESCRIBED

abbrev pub switched_on_flag : ℕ
switched_on_flag = SWITCHED_ON

abbrev pub visited_flag : ℕ
visited_flag = VISITED

-- the objects, by rising number
abbrev pub objects_of : Setting → List ℕ
objects_of s = range_with_len 0 s.count

-- the kinds that decide what may be put where
abbrev pub kinds_of : Setting → Kinds
kinds_of s = record {
  is_thing = λ o. s.is_of o thing_kind;
  is_room = λ o. s.is_of o room_kind;
  is_door = λ o. s.is_of o door_kind;
  is_container = λ o. s.is_of o container_kind;
  is_supporter = λ o. s.is_of o supporter_kind;
  is_person = λ o. s.is_of o person_kind;
}
