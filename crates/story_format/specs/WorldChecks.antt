-- What tables 2 to 5 say, and that an object has what its kind has.
use Rattle.std.specs.Prelude.{Bool, ◌&&◌, ◌==◌, nat_le, length}
use Rattle.world_meaning.specs.Declarations.{are_right_grants, are_right_kinds, begin_with_properties, count_of_numbers, has_properties}
use Rattle.world_meaning.specs.Properties.{built_in_properties}
use Rattle.story_format.specs.declared.tables.Entry.{Entry}
use Rattle.story_format.specs.declared.world_tables.WorldTables.{WorldTables}

-- tables 2 to 5 are those of a story: the built-in kinds and properties with the author's, and 100 variables at most
unfoldable pub is_right_world : WorldTables → Bool
is_right_world w =
    are_right_kinds w.kinds && begin_with_properties w.flags built_in_properties && are_right_grants (length w.kinds) w.flags && are_right_grants (length w.kinds) w.numbers
    && nat_le (length w.variables) 100

-- an object has what its kind has
unfoldable pub suits_kind : WorldTables → Entry → Bool
suits_kind w e = has_properties w.kinds w.flags e.kind e.properties && (length e.numbers == count_of_numbers w.kinds w.numbers e.kind)
