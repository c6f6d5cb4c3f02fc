-- What the tables of a story say together but for the codes, test by test.
use Rattle.std.specs.Prelude.{ℕ, ◌+◌, max, Bool, true, false, not, ◌&&◌, ◌==◌, nat_le, nat_lt, List, [], ◌∷◌, ◌++◌, length, take, slice_get, slice_index_or, Option, Some, None, codes, count_by, filter, map}
use Rattle.std.specs.List.{list_all, flat_map}
use Rattle.std.specs.Str.{bytes_eq}
use Rattle.world_meaning.specs.declared.direction.Direction.{Direction}
use Rattle.world_meaning.specs.Directions.{all_directions, direction_name}
use Rattle.world_meaning.specs.Kinds.{direction_kind, is_under, person_kind}
use Rattle.world_meaning.specs.Sorts.{is_at, kinds_told}
pub use Rattle.world_meaning.specs.Spelling.{is_small, is_small_byte}
use Rattle.world_meaning.specs.Standing.{are_well_placed, have_ends, lead_rightly}
use Rattle.object_words.specs.Mentions.{first_mentions}
use Rattle.object_words.specs.Words.{words_for}
use Rattle.story_format.specs.declared.tables.Entry.{Entry}
use Rattle.story_format.specs.declared.tables.Tables.{Tables}
use Rattle.story_format.specs.Counts.{counts_of}
use Rattle.story_format.specs.Placed.{is_room_entry, places_in, sorts_in}
use Rattle.story_format.specs.RuleChecks.{are_right_rules, codes_in_tables, strings_in_line}
use Rattle.story_format.specs.Sizes.{is_right_entry, sizes_of}
use Rattle.story_format.specs.ValueChecks.{are_right_values}
use Rattle.story_format.specs.WorldChecks.{is_right_world, suits_kind}

-- no string twice
unfoldable pub are_distinct : List (List ℕ) → Bool
are_distinct strings = length (first_mentions strings) == length strings

abbrev pub is_text : Option (List ℕ) → List ℕ → Bool
is_text None text = false
is_text (Some string) text = bytes_eq string text

-- string n is this text
unfoldable pub is_named : List (List ℕ) → ℕ → List ℕ → Bool
is_named strings n text = is_text (slice_get strings n) text

-- the first of the numbers name these texts, in order
unfoldable pub begin_with : List (List ℕ) → List ℕ → List (List ℕ) → Bool
begin_with strings ns [] = true
begin_with strings [] (text ∷ texts) = false
begin_with strings (n ∷ ns) (text ∷ texts) = is_named strings n text && begin_with strings ns texts

abbrev pub words_begin : List (List ℕ) → ℕ → Entry → Option (List ℕ) → Bool
words_begin strings o e None = false
words_begin strings o e (Some name) = begin_with strings e.words (words_for o name)

-- the words of object o begin with those of its number and name; the others are the author's
unfoldable pub has_words : List (List ℕ) → ℕ → Entry → Bool
has_words strings o e = words_begin strings o e (slice_get strings e.name)

unfoldable pub have_words : List (List ℕ) → ℕ → List Entry → Bool
have_words strings o [] = true
have_words strings o (e ∷ es) = has_words strings o e && have_words strings (o + 1) es

-- each string that the words name is small, where it is told of each string whether it is
abbrev pub is_small_at : List Bool → ℕ → Bool
is_small_at small n = slice_index_or small n false

abbrev pub has_small_words : List Bool → Entry → Bool
has_small_words small e = list_all (is_small_at small) e.words

-- the player is in a room, where it is told of each object whether it is one
unfoldable pub is_player_entry : List (List ℕ) → List (Option ℕ) → List Bool → Entry → Bool
is_player_entry strings parents rooms e = is_under parents e.kind person_kind && is_named strings e.name (codes "yourself") && (e.article == 0) && (e.relation == 0) && is_at rooms e.holder

unfoldable pub is_direction_entry : List (List ℕ) → List (Option ℕ) → Direction → Entry → Bool
is_direction_entry strings parents d e = is_under parents e.kind direction_kind && is_named strings e.name (direction_name d) && (e.article == 0) && (e.relation == 255) && (e.holder == 65535)

unfoldable pub are_direction_entries : List (List ℕ) → List (Option ℕ) → List Direction → List Entry → Bool
are_direction_entries strings parents [] [] = true
are_direction_entries strings parents [] (e ∷ es) = false
are_direction_entries strings parents (d ∷ ds) [] = false
are_direction_entries strings parents (d ∷ ds) (e ∷ es) = is_direction_entry strings parents d e && are_direction_entries strings parents ds es

-- the player, the directions, and any others
unfoldable pub are_in_place : List (List ℕ) → List (Option ℕ) → List Bool → List Entry → Bool
are_in_place strings parents rooms [] = false
are_in_place strings parents rooms (player ∷ others) =
    nat_le 12 (length others) && is_player_entry strings parents rooms player && are_direction_entries strings parents all_directions (take 12 others)

-- each number is at most one above those before it
unfoldable pub are_named_in_order : ℕ → List ℕ → Bool
are_named_in_order next [] = true
are_named_in_order next (n ∷ ns) = nat_le n next && are_named_in_order (max next (n + 1)) ns

abbrev pub strings_named : Entry → List ℕ
strings_named e = e.name ∷ e.words

-- the strings that objects name, then those that lines of the grammar name
unfoldable pub strings_in_tables : Tables → List ℕ
strings_in_tables t = flat_map strings_named t.objects ++ flat_map strings_in_line t.rules.grammar

abbrev pub is_some_code : ℕ → Bool
is_some_code n = not (n == 65535)

abbrev pub codes_named : List Entry → List ℕ
codes_named entries = filter is_some_code (map (λ e. e.description) entries)

-- the codes that objects name, then those that rules name, and then those that scenes name
abbrev pub heads_named : Tables → List ℕ
heads_named t = codes_named t.objects ++ codes_in_tables t.rules

-- the objects are those of a story, and named in order
unfoldable pub are_right_objects : Tables → Bool
are_right_objects t =
    list_all (is_right_entry (sizes_of t)) t.objects && are_in_place t.strings t.world.kinds (sorts_in t).rooms t.objects
    && have_words t.strings 0 t.objects && list_all (has_small_words (map is_small t.strings)) t.objects
    && are_named_in_order 0 (strings_in_tables t) && are_named_in_order 0 (heads_named t) && list_all (suits_kind t.world) t.objects

-- each object is where it may be, and none stands in itself
unfoldable pub stand_rightly : Tables → Bool
stand_rightly t = are_well_placed (kinds_told (sorts_in t)) 0 (places_in t.objects) && have_ends (places_in t.objects)

-- each room has ways, to rooms and by doors
unfoldable pub are_right_ways : Tables → Bool
are_right_ways t = (length t.ways == count_by (is_room_entry t.world.kinds) t.objects) && list_all (lead_rightly (sorts_in t)) t.ways

-- what else has no other place in a story, and how much there is
unfoldable pub is_right_frame : Tables → Bool
is_right_frame t = is_right_world t.world && are_right_rules (counts_of t) t.rules && nat_le (length t.objects) 1000 && nat_lt (length t.strings) 65535

-- Tables 1 to 12 are those of a story.
unfoldable pub are_first_right : Tables → Bool
are_first_right t = is_right_frame t && are_distinct t.strings && are_right_objects t && stand_rightly t && are_right_ways t

-- Tables 1 to 12, 14 and 15 are those of a story.
unfoldable pub are_right : Tables → Bool
are_right t = are_first_right t && are_right_values t
