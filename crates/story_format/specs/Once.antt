-- Numbers that stand once, found by marking them one after the other.
use Rattle.std.specs.Prelude.{ℕ, Bool, true, false, not, ◌&&◌, List, [], ◌∷◌, slice_index_or, slice_set}

-- none is marked when it comes
unfoldable pub are_unmarked : List Bool → List ℕ → Bool
are_unmarked marks [] = true
are_unmarked marks (n ∷ ns) = not (slice_index_or marks n false) && are_unmarked (slice_set marks n true) ns
