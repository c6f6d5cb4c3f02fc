-- What a tale gives to play: what of it never changes, and the world with which it begins.
use Rattle.std.specs.Prelude.{ℕ, ◌+◌, ◌-◌, zero, suc, ℤ, pos, Bool, false, ◌==◌, List, [], length, map, take, is_some, count_by, Option, None, Some, slice_get, slice_index_or, if◌then◌else◌}
use Rattle.std.specs.List.{list_any, range_with_len}
use Rattle.world_meaning.specs.Declarations.{has_property, is_had}
use Rattle.world_meaning.specs.Kinds.{is_under}
use Rattle.world_meaning.specs.Tale.{description_of, name_of, object_at, way_of}
use Rattle.world_meaning.specs.declared.article.Article.TheVariants as article
use Rattle.world_meaning.specs.declared.declared.Declared.{Declared}
use Rattle.world_meaning.specs.declared.declared.Granted.{Granted}
use Rattle.world_meaning.specs.declared.declared.ValueKind.{ValueKind}
use Rattle.world_meaning.specs.declared.exits.Way.{Way}
use Rattle.world_meaning.specs.declared.tale.Object.{Object}
use Rattle.world_meaning.specs.declared.tale.Tale.{Tale}
use Rattle.play_meaning.specs.Settings.{Setting}
use Rattle.play_meaning.specs.Worlds.{World, not_begun}

-- what is said of an object; this, where there is none
abbrev pub in_object : {A : Type 0} → A → (Object → A) → Option Object → A
in_object otherwise f None = otherwise
in_object otherwise f (Some object) = f object

-- ---- what never changes

abbrev pub parent_in : Option (Option ℕ) → Option ℕ
parent_in None = None
parent_in (Some parent) = parent

abbrev pub depth_on : (ℕ → ℕ) → Option ℕ → ℕ
depth_on depth None = 1
depth_on depth (Some parent) = 1 + depth parent

-- how many kinds lie on the way up, both ends counted; so many steps at most
abbrev pub depth_within : List (Option ℕ) → ℕ → ℕ → ℕ
depth_within parents zero kind = 1
depth_within parents (suc most) kind = depth_on (depth_within parents most) (parent_in (slice_get parents kind))

-- no way up is longer than the kinds are many
unfoldable pub depth_of : List (Option ℕ) → ℕ → ℕ
depth_of parents kind = depth_within parents (length parents) kind

abbrev pub door_on : Option Way → Option ℕ
door_on None = None
door_on (Some way) = way.door

abbrev pub door_in : ℕ → Object → Option ℕ
door_in direction object = door_on (slice_get object.exits.ways (direction - 1))

-- the kinds that have a value of each kind of value
abbrev pub grants_of : Declared → List Granted
grants_of d = map (λ q. q.given) d.values

abbrev pub names_in_kind : Option ValueKind → List (List ℕ)
names_in_kind None = []
names_in_kind (Some q) = q.names

unfoldable pub setting_of : Tale → Setting
setting_of t = record {
  count = length t.objects;
  name = name_of t;
  article = λ o. in_object article.None (λ object. object.article) (object_at t o);
  is_of = λ o kind. in_object false (λ object. is_under t.declared.kinds object.kind kind) (object_at t o);
  depth = depth_of t.declared.kinds;
  has_flag = λ o property. in_object false (λ object. has_property t.declared.kinds t.declared.flags object.kind property) (object_at t o);
  has_number = λ o property. in_object false (λ object. has_property t.declared.kinds t.declared.numbers object.kind property) (object_at t o);
  has_value = λ o q. in_object false (λ object. has_property t.declared.kinds (grants_of t.declared) object.kind q) (object_at t o);
  value_names = λ q. names_in_kind (slice_get t.declared.values q);
  room_beyond = way_of t;
  door_beyond = λ room direction. in_object None (door_in direction) (object_at t room);
  has_description = λ o. is_some (description_of t o);
}

-- ---- the start

-- an object has one for each property that its kind has, in their order
abbrev pub place_among : List (Option ℕ) → List Granted → ℕ → ℕ → ℕ
place_among parents grants kind property = count_by (is_had parents kind) (take property grants)

abbrev pub is_true_at_start : ℕ → Object → Bool
is_true_at_start property object = list_any (λ other. other == property) object.properties

abbrev pub number_at_start : Declared → ℕ → Object → ℤ
number_at_start d property object =
    if has_property d.kinds d.numbers object.kind property then slice_index_or object.numbers (place_among d.kinds d.numbers object.kind property) (pos 0) else pos 0

abbrev pub value_at_start : Declared → ℕ → Object → ℕ
value_at_start d q object =
    if has_property d.kinds (grants_of d) object.kind q then slice_index_or object.values (place_among d.kinds (grants_of d) object.kind q) 0 else 0

unfoldable pub start_of : Tale → World
start_of t = record {
  places = map (λ object. object.place) t.objects;
  flags = map (λ property. map (is_true_at_start property) t.objects) (range_with_len 0 (length t.declared.flags));
  numbers = map (λ property. map (number_at_start t.declared property) t.objects) (range_with_len 0 (length t.declared.numbers));
  values = map (λ q. map (value_at_start t.declared q) t.objects) (range_with_len 0 (length t.declared.values));
  variables = t.declared.variables;
  scenes = map (λ recurs. not_begun) t.declared.scenes;
  turns = 1;
  ended = None;
}
