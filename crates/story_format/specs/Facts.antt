-- What a story's tables say of its objects and rules, by number; nothing of a number that none has.
use Rattle.std.specs.Prelude.{ℕ, ◌-◌, Bool, false, ◌==◌, List, [], length, map, take, count_by, slice_get, slice_index_or, Option, Some, None, if◌then◌else◌}
use Rattle.play_meaning.specs.Grammar.{Direction, Line, Something, Token, Word}
use Rattle.world_meaning.specs.Tale.{room_beyond}
use Rattle.world_meaning.specs.declared.exits.Exits.{Exits}
use Rattle.story_format.specs.Placed.{is_room_entry}
use Rattle.story_format.specs.declared.rule_entry.RuleBody.{RuleBody}
use Rattle.story_format.specs.declared.rule_entry.RuleBody.TheVariants.{Code}
use Rattle.story_format.specs.declared.rule_entry.RuleEntry.{RuleEntry}
use Rattle.story_format.specs.declared.rule_tables.Book.{Book}
use Rattle.story_format.specs.declared.rule_tables.LineEntry.{LineEntry}
use Rattle.story_format.specs.declared.tables.Entry.{Entry}
use Rattle.story_format.specs.declared.tables.Tables.{Tables}

abbrev pub object_count_of : Tables → ℕ
object_count_of t = length t.objects

-- the string of a number
abbrev pub text_at : List (List ℕ) → ℕ → List ℕ
text_at strings n = slice_index_or strings n []

abbrev pub name_in : List (List ℕ) → Option Entry → List ℕ
name_in strings None = []
name_in strings (Some entry) = text_at strings entry.name

-- an object's name, as it is printed
abbrev pub name_of : Tables → ℕ → List ℕ
name_of t o = name_in t.strings (slice_get t.objects o)

abbrev pub words_in : List (List ℕ) → Option Entry → List (List ℕ)
words_in strings None = []
words_in strings (Some entry) = map (text_at strings) entry.words

-- the words that a command may name an object by
abbrev pub words_of : Tables → ℕ → List (List ℕ)
words_of t o = words_in t.strings (slice_get t.objects o)

abbrev pub description_code_in : Option Entry → Option ℕ
description_code_in None = None
description_code_in (Some entry) = if entry.description == 65535 then None else Some entry.description

-- the number of the code that describes an object, where it is described
abbrev pub description_code_of : Tables → ℕ → Option ℕ
description_code_of t o = description_code_in (slice_get t.objects o)

-- how many rooms stand before an object
abbrev pub rooms_before : List (Option ℕ) → List Entry → ℕ → ℕ
rooms_before parents entries o = count_by (is_room_entry parents) (take o entries)

abbrev pub is_room_in : List (Option ℕ) → Option Entry → Bool
is_room_in parents None = false
is_room_in parents (Some entry) = is_room_entry parents entry

-- the ways of a room: they stand in the order of the rooms
abbrev pub exits_at : List (Option ℕ) → List Entry → List Exits → ℕ → Option Exits
exits_at parents entries ways o = if is_room_in parents (slice_get entries o) then slice_get ways (rooms_before parents entries o) else None

abbrev pub way_in : Option Exits → ℕ → Option ℕ
way_in None direction = None
way_in (Some exits) direction = room_beyond (slice_get exits.ways (direction - 1))

-- the room to which a direction, by its number, leads from a room
abbrev pub way_of : Tables → ℕ → ℕ → Option ℕ
way_of t room direction = way_in (exits_at t.world.kinds t.objects t.ways room) direction

abbrev pub holder_in : Option Entry → ℕ
holder_in None = 0
holder_in (Some entry) = entry.holder

-- the room in which the player begins
abbrev pub start_of : Tables → ℕ
start_of t = holder_in (slice_get t.objects 0)

-- ---- the grammar

-- what a number in a line stands for
abbrev pub token_in : List (List ℕ) → ℕ → Token
token_in strings n = if n == 65534 then Something else (if n == 65535 then Direction else Word (text_at strings n))

abbrev pub line_in : List (List ℕ) → LineEntry → Line
line_in strings e = record { action = e.action; tokens = map (token_in strings) e.tokens }

-- the lines of the grammar, in the order in which they are tried
abbrev pub lines_of : Tables → List Line
lines_of t = map (line_in t.strings) t.rules.grammar

-- ---- rules

abbrev pub rules_in : Option Book → List ℕ
rules_in None = []
rules_in (Some book) = book.rules

-- the rules that a book lists, by their numbers, in order
abbrev pub rules_listed : Tables → ℕ → List ℕ
rules_listed t book = rules_in (slice_get t.rules.books book)

abbrev pub book_in : Option RuleEntry → Option ℕ
book_in None = None
book_in (Some rule) = Some rule.book

-- the rulebook that a rule is of
abbrev pub book_of_rule : Tables → ℕ → Option ℕ
book_of_rule t r = book_in (slice_get t.rules.rules r)

abbrev pub condition_in : Option RuleEntry → Option ℕ
condition_in None = None
condition_in (Some rule) = if rule.condition == 65535 then None else Some rule.condition

-- the number of the code that answers a rule's condition, if it has one
abbrev pub condition_of_rule : Tables → ℕ → Option ℕ
condition_of_rule t r = condition_in (slice_get t.rules.rules r)

abbrev pub code_in_body : RuleBody → Option ℕ
code_in_body (Code n) = Some n
code_in_body _ = None

abbrev pub body_in : Option RuleEntry → Option ℕ
body_in None = None
body_in (Some rule) = code_in_body rule.body

-- the number of the code that does what a rule does, unless that is a standard rule
abbrev pub body_of_rule : Tables → ℕ → Option ℕ
body_of_rule t r = body_in (slice_get t.rules.rules r)
