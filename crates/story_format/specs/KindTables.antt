-- What objects of each kind have, told once for all objects.
use Rattle.std.specs.Prelude.{ℕ, ◌+◌, Bool, false, ◌&&◌, ◌==◌, List, [], ◌∷◌, length, map, slice_get, Option, Some, None, count_by}
use Rattle.std.specs.List.{list_all}
use Rattle.world_meaning.specs.Declarations.{are_rising, is_had}
use Rattle.world_meaning.specs.Sorts.{is_at}
use Rattle.world_meaning.specs.declared.declared.Granted.{Granted}
use Rattle.story_format.specs.declared.tables.Entry.{Entry}

-- of a kind and those behind it, one for each item of a list, whether their objects have a property
abbrev pub had_from : List (Option ℕ) → Granted → ℕ → List (Option ℕ) → List Bool
had_from parents g kind [] = []
had_from parents g kind (x ∷ left) = is_had parents kind g ∷ had_from parents g (kind + 1) left

abbrev pub had_by : List (Option ℕ) → Granted → List Bool
had_by parents g = had_from parents g 0 parents

-- of each property, which kinds' objects have it
abbrev pub all_had : List (Option ℕ) → List Granted → List (List Bool)
all_had parents granted = map (had_by parents) granted

abbrev pub is_told : Option (List Bool) → ℕ → Bool
is_told None kind = false
is_told (Some had) kind = is_at had kind

abbrev pub is_told_had : List (List Bool) → ℕ → ℕ → Bool
is_told_had all kind n = is_told (slice_get all n) kind

abbrev pub count_told : List (List Bool) → ℕ → ℕ
count_told all kind = count_by (λ had. is_at had kind) all

-- an object has what is told of its kind
abbrev pub suits_told : List (List Bool) → List (List Bool) → Entry → Bool
suits_told flags numbers e = (are_rising 0 e.properties && list_all (is_told_had flags e.kind) e.properties) && (length e.numbers == count_told numbers e.kind)
