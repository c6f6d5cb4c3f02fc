-- What a source may declare besides its objects, and which properties objects of a kind have.
use Rattle.std.specs.Prelude.{ℕ, ◌+◌, Bool, true, false, ◌&&◌, ◌==◌, nat_le, nat_lt, List, [], ◌∷◌, length, drop, filter, map, slice_get, Option, Some, None, count_by, ℤ, pos, negsuc}
use Rattle.std.specs.List.{list_all, list_any}
use Rattle.world_meaning.specs.Kinds.{built_in_parents, is_under_one}
use Rattle.world_meaning.specs.Properties.{Property, built_in_properties}
use Rattle.world_meaning.specs.declared.declared.Declared.{Declared}
use Rattle.world_meaning.specs.declared.declared.Granted.{Granted}
use Rattle.world_meaning.specs.declared.declared.ValueKind.{ValueKind}
use Rattle.world_meaning.specs.declared.kinds.TheConstants.{ROOTS}
use Rattle.world_meaning.specs.declared.tale.Object.{Object}

-- each number is above the one before it, and the first is not below next
unfoldable pub are_rising : ℕ → List ℕ → Bool
are_rising next [] = true
are_rising next (n ∷ ns) = nat_le next n && are_rising (n + 1) ns

-- ---- kinds

abbrev pub is_same_kind : Option ℕ → Option ℕ → Bool
is_same_kind None None = true
is_same_kind None (Some other) = false
is_same_kind (Some kind) None = false
is_same_kind (Some kind) (Some other) = kind == other

-- the first kinds lie under these, in order
unfoldable pub begin_with_kinds : List (Option ℕ) → List (Option ℕ) → Bool
begin_with_kinds parents [] = true
begin_with_kinds [] (other ∷ others) = false
begin_with_kinds (parent ∷ parents) (other ∷ others) = is_same_kind parent other && begin_with_kinds parents others

-- an author's kind has a kind above it, which is thing, room or direction or lies under one of them
abbrev pub is_rooted : List (Option ℕ) → Option ℕ → Bool
is_rooted parents None = false
is_rooted parents (Some parent) = is_under_one parents ROOTS parent

-- the built-in kinds, and the author's: 100 at most
unfoldable pub are_right_kinds : List (Option ℕ) → Bool
are_right_kinds parents = nat_le (length parents) 100 && begin_with_kinds parents built_in_parents && list_all (is_rooted parents) (drop 10 parents)

-- ---- properties

abbrev pub is_among : ℕ → List ℕ → Bool
is_among n ns = list_any (λ m. n == m) ns

abbrev pub is_below : ℕ → ℕ → Bool
is_below count n = nat_lt n count

-- the kinds that have a property rise
abbrev pub is_right_grant : ℕ → Granted → Bool
is_right_grant kinds g = are_rising 0 g.kinds && list_all (is_below kinds) g.kinds

abbrev pub is_granted : List ℕ → ℕ → Bool
is_granted kinds kind = is_among kind kinds

-- the first properties are had by these kinds at least, in order
unfoldable pub begin_with_properties : List Granted → List Property → Bool
begin_with_properties granted [] = true
begin_with_properties [] (p ∷ ps) = false
begin_with_properties (g ∷ granted) (p ∷ ps) = list_all (is_granted g.kinds) p.kinds && begin_with_properties granted ps

-- 100 properties at most
abbrev pub are_right_grants : ℕ → List Granted → Bool
are_right_grants kinds granted = nat_le (length granted) 100 && list_all (is_right_grant kinds) granted

-- ---- numbers

-- from -2,147,483,648 to 2,147,483,647
abbrev pub is_number : ℤ → Bool
is_number (pos n) = nat_lt n 2147483648
is_number (negsuc n) = nat_lt n 2147483648

-- ---- kinds of value

-- the kinds that have it rise; it has a value at least, 100 at most
abbrev pub is_right_value_kind : ℕ → ValueKind → Bool
is_right_value_kind kinds q = is_right_grant kinds q.given && nat_le 1 (length q.names) && nat_le (length q.names) 100

-- 100 kinds of value at most
abbrev pub are_right_value_kinds : ℕ → List ValueKind → Bool
are_right_value_kinds kinds values = nat_le (length values) 100 && list_all (is_right_value_kind kinds) values

-- ---- all of it

-- the built-in kinds and properties with the author's, 100 variables, 50 scenes, 100 rulebooks and 100 kinds of value at most, whatever actions
unfoldable pub is_well_declared : Declared → Bool
is_well_declared d =
    are_right_kinds d.kinds && begin_with_properties d.flags built_in_properties && are_right_grants (length d.kinds) d.flags && are_right_grants (length d.kinds) d.numbers
    && nat_le (length d.variables) 100 && list_all is_number d.variables && nat_le (length d.scenes) 50 && nat_le d.rulebooks 100
    && are_right_value_kinds (length d.kinds) d.values

-- ---- what an object has

-- objects of a kind have the property that is given to these kinds
abbrev pub is_had : List (Option ℕ) → ℕ → Granted → Bool
is_had parents kind g = is_under_one parents g.kinds kind

abbrev pub is_had_at : List (Option ℕ) → ℕ → Option Granted → Bool
is_had_at parents kind None = false
is_had_at parents kind (Some g) = is_had parents kind g

-- objects of a kind have either-or property n
abbrev pub has_property : List (Option ℕ) → List Granted → ℕ → ℕ → Bool
has_property parents flags kind n = is_had_at parents kind (slice_get flags n)

-- the true properties of an object rise and are those that its kind has
unfoldable pub has_properties : List (Option ℕ) → List Granted → ℕ → List ℕ → Bool
has_properties parents flags kind properties = are_rising 0 properties && list_all (has_property parents flags kind) properties

-- how many of the number properties objects of a kind have
unfoldable pub count_of_numbers : List (Option ℕ) → List Granted → ℕ → ℕ
count_of_numbers parents numbers kind = count_by (is_had parents kind) numbers

-- of each kind of value that objects of a kind have, how many values it has
unfoldable pub counts_had : List (Option ℕ) → List ValueKind → ℕ → List ℕ
counts_had parents values kind = map (λ q. length q.names) (filter (λ q. is_had parents kind q.given) values)

-- they are as many, and each is below the number in its place
unfoldable pub are_each_below : List ℕ → List ℕ → Bool
are_each_below [] [] = true
are_each_below [] (n ∷ ns) = false
are_each_below (count ∷ counts) [] = false
are_each_below (count ∷ counts) (n ∷ ns) = nat_lt n count && are_each_below counts ns

-- an object has what its kind has
unfoldable pub suits_kind : Declared → Object → Bool
suits_kind d o =
    has_properties d.kinds d.flags o.kind o.properties && (length o.numbers == count_of_numbers d.kinds d.numbers o.kind) && list_all is_number o.numbers
    && are_each_below (counts_had d.kinds d.values o.kind) o.values
