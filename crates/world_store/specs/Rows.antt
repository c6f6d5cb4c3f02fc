-- Columns of one height that stand in one list, one behind the other.
use Rattle.std.specs.Prelude.{◌≡◌, ℕ, zero, suc, ◌+◌, ◌*◌, ◌<◌, ◌&&◌, nat_lt, List, [], ◌∷◌, drop, length, take, Option, None, Some, slice_index_or, slice_set, if◌then◌else◌}

-- so many columns
unfoldable pub rows : {T : Type 0} → ℕ → ℕ → List T → List (List T)
rows height zero values = []
rows height (suc count) values = take height values ∷ rows height count (drop height values)

-- where the value of an object stands in a column, if it does
abbrev pub place_in : ℕ → ℕ → ℕ → ℕ → Option ℕ
place_in height count column object = if nat_lt column count && nat_lt object height then Some (column * height + object) else None

abbrev pub read_at : {T : Type 0} → List T → Option ℕ → T → T
read_at values None otherwise = otherwise
read_at values (Some place) otherwise = slice_index_or values place otherwise

abbrev pub write_at : {T : Type 0} → List T → Option ℕ → T → List T
write_at values None value = values
write_at values (Some place) value = slice_set values place value

-- so many columns, each of this height
pub record AreColumns {T : Type 0} (columns : List (List T)) (count height : ℕ) : Type 0 where
  pub many : length columns ≡ count
  pub high : (column : ℕ) → column < count → length (slice_index_or columns column []) ≡ height
