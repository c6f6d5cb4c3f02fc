-- The number of a name: its place among those of its sort.
use Rattle.std.specs.Prelude.{ℕ, nat_le, List, position, Option, Some, None, bytes_eq, if◌then◌else◌}

abbrev pub at_most : ℕ → Option ℕ → Option ℕ
at_most most None = None
at_most most (Some place) = if nat_le place most then Some place else None

-- the number of a name, if a byte holds it: of a source with a name that is one too many (C12) the names behind stand
-- for nothing
abbrev pub small_number : List (List ℕ) → List ℕ → Option ℕ
small_number names name = at_most 255 (position (bytes_eq name) names)

-- the number of an object
abbrev pub object_number : List (List ℕ) → List ℕ → Option ℕ
object_number names name = at_most 65535 (position (bytes_eq name) names)
