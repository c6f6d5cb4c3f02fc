-- What tables 14 and 15 say: kinds of value with their names, and of each object a value of each kind of value that its kind has.
use Rattle.std.specs.Prelude.{ℕ, ◌+◌, Bool, true, false, ◌&&◌, ◌==◌, nat_le, nat_lt, List, [], ◌∷◌, filter, length, map, slice_index_or, Option, if◌then◌else◌}
use Rattle.std.specs.List.{flat_map, list_all}
use Rattle.world_meaning.specs.Declarations.{are_each_below, is_had, is_right_grant}
use Rattle.story_format.specs.declared.tables.Entry.{Entry}
use Rattle.story_format.specs.declared.tables.Tables.{Tables}
use Rattle.story_format.specs.declared.value_tables.ValueEntry.{ValueEntry}

-- ---- table 14

-- where there are so many kinds and strings: from 1 to 100 names
unfoldable pub is_right_value_entry : ℕ → ℕ → ValueEntry → Bool
is_right_value_entry kinds strings v =
    is_right_grant kinds v.given && nat_le 1 (length v.names) && nat_le (length v.names) 100 && list_all (λ n. nat_lt n strings) v.names

-- 100 at most
abbrev pub are_right_value_entries : ℕ → ℕ → List ValueEntry → Bool
are_right_value_entries kinds strings values = nat_le (length values) 100 && list_all (is_right_value_entry kinds strings) values

-- the strings that it names, in order
abbrev pub strings_in_values : List ValueEntry → List ℕ
strings_in_values values = flat_map (λ v. v.names) values

-- ---- table 15

-- of each kind of value that objects of a kind have, how many values it has
abbrev pub counts_in : List (Option ℕ) → List ValueEntry → ℕ → List ℕ
counts_in parents values kind = map (λ v. length v.names) (filter (λ v. is_had parents kind v.given) values)

-- each object has a value of each kind of value that its kind has
unfoldable pub have_values : List (Option ℕ) → List ValueEntry → List Entry → List (List ℕ) → Bool
have_values parents values [] [] = true
have_values parents values [] (own ∷ others) = false
have_values parents values (e ∷ es) [] = false
have_values parents values (e ∷ es) (own ∷ others) = are_each_below (counts_in parents values e.kind) own && have_values parents values es others

-- tables 14 and 15 are those of a story: where there is no kind of value, nothing is said of objects
unfoldable pub are_right_values : Tables → Bool
are_right_values t =
    if length t.values.kinds == 0 then length t.values.objects == 0
    else (are_right_value_entries (length t.world.kinds) (length t.strings) t.values.kinds && have_values t.world.kinds t.values.kinds t.objects t.values.objects)

-- ---- what objects of each kind have, told once for all objects

-- of a kind and those behind it, one for each item of a list
abbrev pub counts_from : List (Option ℕ) → List ValueEntry → ℕ → List (Option ℕ) → List (List ℕ)
counts_from parents values kind [] = []
counts_from parents values kind (x ∷ left) = counts_in parents values kind ∷ counts_from parents values (kind + 1) left

-- of each kind, by number
abbrev pub all_counts : List (Option ℕ) → List ValueEntry → List (List ℕ)
all_counts parents values = counts_from parents values 0 parents

-- each object has the values that are told of its kind
unfoldable pub have_told_values : List (List ℕ) → List Entry → List (List ℕ) → Bool
have_told_values told [] [] = true
have_told_values told [] (own ∷ others) = false
have_told_values told (e ∷ es) [] = false
have_told_values told (e ∷ es) (own ∷ others) = are_each_below (slice_index_or told e.kind []) own && have_told_values told es others
