-- What an entry of table 6 may say by itself, where the tables have so many entries.
use Rattle.std.specs.Prelude.{ℕ, Bool, true, not, ◌&&◌, ◌||◌, ◌==◌, nat_le, nat_lt, List, [], ◌∷◌, length}
use Rattle.world_meaning.specs.Declarations.{is_among}
use Rattle.story_format.specs.Placed.{is_place}
use Rattle.story_format.specs.declared.row.Sizes.{Sizes}
use Rattle.story_format.specs.declared.tables.Entry.{Entry}
use Rattle.story_format.specs.declared.tables.Tables.{Tables}

abbrev pub sizes_of : Tables → Sizes
sizes_of t = record { kinds = length t.world.kinds; codes = length t.codes }

-- no number twice
unfoldable pub are_different : List ℕ → Bool
are_different [] = true
are_different (n ∷ ns) = not (is_among n ns) && are_different ns

-- a kind, an article, a description's code or none, 32 words at most, none twice, and a place or none
unfoldable pub is_right_entry : Sizes → Entry → Bool
is_right_entry sizes e =
    nat_lt e.kind sizes.kinds && nat_le e.article 3 && ((e.description == 65535) || nat_lt e.description sizes.codes) && nat_le (length e.words) 32 && are_different e.words && is_place e
