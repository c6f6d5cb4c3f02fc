-- The built-in kinds, and which kind lies under which.
use Rattle.std.specs.Prelude.{◌≡◌, ℕ, Bool, true, false, ◌==◌, List, [], ◌∷◌, Option, Some, None, map, slice_get, if◌then◌else◌}
use Rattle.std.specs.List.{list_any}
use Rattle.world_meaning.specs.declared.kinds.TheConstants.{KINDS}

abbrev pub thing_kind : ℕ
thing_kind = 0

abbrev pub room_kind : ℕ
room_kind = 1

abbrev pub direction_kind : ℕ
direction_kind = 2

abbrev pub door_kind : ℕ
door_kind = 3

abbrev pub container_kind : ℕ
container_kind = 4

abbrev pub supporter_kind : ℕ
supporter_kind = 5

abbrev pub person_kind : ℕ
person_kind = 6

abbrev pub device_kind : ℕ
device_kind = 7

abbrev pub man_kind : ℕ
man_kind = 8

-- the built-in kinds by number: of each, the kind above it
unfoldable pub built_in_parents : List (Option ℕ)
built_in_parents = map (λ kind. kind.1) KINDS

-- A kind lies under another, or is it, where the kind above each is told.
pub data Under (parents : List (Option ℕ)) : ℕ → ℕ → Type 0 where
  itself : {kind : ℕ} → Under parents kind kind
  above : {kind parent other : ℕ} → slice_get parents kind ≡ Some (Some parent) → Under parents parent other → Under parents kind other

abbrev pub climb_on : (ℕ → Bool) → Option (Option ℕ) → Bool
climb_on climb None = false
climb_on climb (Some None) = false
climb_on climb (Some (Some parent)) = climb parent

-- whether steps up, at most one for each item of a list, lead from a kind to another
abbrev pub climbs : List (Option ℕ) → List (Option ℕ) → ℕ → ℕ → Bool
climbs [] parents kind other = kind == other
climbs (x ∷ left) parents kind other = if kind == other then true else climb_on (λ parent. climbs left parents parent other) (slice_get parents kind)

-- no path up is longer than the kinds are many
unfoldable pub is_under : List (Option ℕ) → ℕ → ℕ → Bool
is_under parents kind other = climbs parents parents kind other

-- a kind lies under one of these, or is it
abbrev pub is_under_one : List (Option ℕ) → List ℕ → ℕ → Bool
is_under_one parents others kind = list_any (is_under parents kind) others
