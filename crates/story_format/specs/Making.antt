-- The tables of a tale.
use Rattle.world_meaning.specs.Relations.{relation_number}
use Rattle.std.specs.Prelude.{ℕ, zero, suc, ℤ, ◌+◌, List, [], ◌∷◌, ◌++◌, drop, is_some, map, min, slice_get, Option, Some, None, if◌then◌else◌}
use Rattle.std.specs.List.{flat_map, range_with_len}
use Rattle.std.specs.Int.{w32, cast_unsigned}
use Rattle.world_meaning.specs.declared.article.Article.{Article}
use Rattle.world_meaning.specs.declared.article.Article.TheVariants as articles
use Rattle.world_meaning.specs.declared.place.Place.{Place}
use Rattle.world_meaning.specs.declared.exits.Exits.{Exits}
use Rattle.world_meaning.specs.declared.tale.Object.{Object}
use Rattle.world_meaning.specs.declared.tale.Tale.{Tale}
use Rattle.world_meaning.specs.declared.declared.Declared.{Declared}
use Rattle.world_meaning.specs.declared.declared.ValueKind.{ValueKind}
use Rattle.world_meaning.specs.Kinds.{is_under, room_kind}
use Rattle.play_meaning.specs.Grammar.{Direction, Line, Something, Token, Word}
use Rattle.play_meaning.specs.Order.{book_of}
use Rattle.play_meaning.specs.Rules.{Rule}
use Rattle.play_meaning.specs.Scripts.{Scene}
use Rattle.play_meaning.specs.StandardGrammar.{standard_lines}
use Rattle.play_meaning.specs.StandardRules.{standard_rules}
use Rattle.play_meaning.specs.Tales.{setting_of}
use Rattle.play_meaning.specs.Trees.{Text}
use Rattle.code_table.specs.Emitted.{codes_of_origins}
use Rattle.code_table.specs.Origins.{Origin, strings_of_origin}
use Rattle.rule_order.specs.Listings.{listed_by}
use Rattle.rule_order.specs.declared.listing.ListingSentence.{ListingSentence}
use Rattle.story_code.specs.Spelling.{spelling}
use Rattle.story_format.specs.Contents.{Contents, origins_said}
use Rattle.story_format.specs.RuleMaking.{book_count, rules_of}
use Rattle.story_format.specs.declared.rule_tables.Book.{Book}
use Rattle.story_format.specs.declared.rule_tables.LineEntry.{LineEntry}
use Rattle.story_format.specs.declared.tables.Entry.{Entry}
use Rattle.story_format.specs.declared.tables.Tables.{Tables}
use Rattle.story_format.specs.declared.value_tables.ValueEntry.{ValueEntry}
use Rattle.story_format.specs.declared.value_tables.ValueTables.{ValueTables}
use Rattle.story_format.specs.declared.world_tables.Variable.{Variable}
use Rattle.story_format.specs.declared.world_tables.WorldTables.{WorldTables}
use Rattle.object_words.specs.Mentions.{first_mentions, number_in}
use Rattle.command_grammar.specs.Synonyms.{words_said}
use Rattle.command_grammar.specs.declared.synonym.Synonym.{Synonym}

-- an object, and the words that a command may name it by
pub record Worded : Type 0 where
  pub object : Object
  pub words : List (List ℕ)

abbrev pub worded_at : List Synonym → ℕ → Object → Worded
worded_at synonyms o object = record { object = object; words = words_said synonyms o object.name }

abbrev pub worded_from : List Synonym → ℕ → List Object → List Worded
worded_from synonyms o [] = []
worded_from synonyms o (object ∷ objects) = worded_at synonyms o object ∷ worded_from synonyms (o + 1) objects

-- the objects of a tale with their words, by number
abbrev pub worded : List Synonym → List Object → List Worded
worded synonyms objects = worded_from synonyms 0 objects

-- how many codes a description has
abbrev pub code_count : Option (List ℕ) → ℕ
code_count None = 0
code_count (Some text) = 1

-- how many objects are described
abbrev pub codes_in : List Object → ℕ
codes_in [] = 0
codes_in (object ∷ objects) = code_count object.description + codes_in objects

-- the strings that an object's entry names
unfoldable pub entry_strings : Worded → List (List ℕ)
entry_strings w = w.object.name ∷ w.words

-- the strings that descriptions and bodies say, in order
abbrev pub strings_said : List Origin → List (List ℕ)
strings_said origins = flat_map strings_of_origin origins

abbrev pub token_strings : Token → List (List ℕ)
token_strings (Word spelling) = spelling ∷ []
token_strings Something = []
token_strings Direction = []

-- the strings that a line of the grammar names
abbrev pub line_strings : Line → List (List ℕ)
line_strings line = flat_map token_strings line.tokens

-- the strings that objects' entries name, and then those that lines do
unfoldable pub texts_named : List Worded → List Line → List (List ℕ)
texts_named ws lines = flat_map entry_strings ws ++ flat_map line_strings lines

-- the names of all values, kind of value by kind of value
abbrev pub names_of_values : List ValueKind → List (List ℕ)
names_of_values values = flat_map (λ q. q.names) values

-- the strings that its descriptions and rules say, then the names of values
abbrev pub strings_behind : Declared → List Origin → List (List ℕ)
strings_behind d origins = strings_said origins ++ names_of_values d.values

-- the strings of a story: those that its objects and lines name, then those behind them
unfoldable pub strings_of : List (List ℕ) → List (List ℕ) → List (List ℕ)
strings_of named behind = first_mentions (named ++ behind)

abbrev pub article_number : Article → ℕ
article_number articles.None = 0
article_number articles.A = 1
article_number articles.An = 2
article_number articles.Some = 3

abbrev pub place_relation : Option Place → ℕ
place_relation None = 255
place_relation (Some place) = relation_number place.relation

abbrev pub place_holder : Option Place → ℕ
place_holder None = 65535
place_holder (Some place) = place.holder

-- the number of the object's code, where next is the next one
abbrev pub code_number : ℕ → Option (List ℕ) → ℕ
code_number next None = 65535
code_number next (Some text) = min next 65535

-- numbers as their two's complements
abbrev pub numbers_of : List ℤ → List ℕ
numbers_of numbers = map (cast_unsigned w32) numbers

unfoldable pub entry_of : List (List ℕ) → ℕ → Worded → Entry
entry_of strings next w = record {
  kind = w.object.kind;
  name = number_in strings w.object.name;
  article = article_number w.object.article;
  description = code_number next w.object.description;
  words = map (number_in strings) w.words;
  relation = place_relation w.object.place;
  holder = place_holder w.object.place;
  properties = w.object.properties;
  numbers = numbers_of w.object.numbers;
}

-- an entry for each object; each description has the next code
unfoldable pub entries_of : List (List ℕ) → ℕ → List Worded → List Entry
entries_of strings next [] = []
entries_of strings next (w ∷ ws) = entry_of strings next w ∷ entries_of strings (next + code_count w.object.description) ws

-- the ways of a room
abbrev pub ways_of : List (Option ℕ) → Worded → List Exits
ways_of parents w = if is_under parents w.object.kind room_kind then w.object.exits ∷ [] else []

abbrev pub variable_of : ℤ → Variable
variable_of number = record { start = cast_unsigned w32 number }

-- tables 2 to 5 of what a source declares
unfoldable pub world_of : Declared → WorldTables
world_of d = record { kinds = d.kinds; flags = d.flags; numbers = d.numbers; variables = map variable_of d.variables }

-- ---- kinds of value

abbrev pub value_entry : List (List ℕ) → ValueKind → ValueEntry
value_entry strings q = record { names = map (number_in strings) q.names; given = q.given }

-- what objects have of these kinds of value; nothing is said where there is none
abbrev pub object_values : List ValueKind → List Worded → List (List ℕ)
object_values [] ws = []
object_values (q ∷ values) ws = map (λ w. w.object.values) ws

-- tables 14 and 15
unfoldable pub values_of : List (List ℕ) → Declared → List Worded → ValueTables
values_of strings d ws = record { kinds = map (value_entry strings) d.values; objects = object_values d.values ws }

-- how many of the objects are described
abbrev pub described_in : List Worded → ℕ
described_in ws = codes_in (map (λ w. w.object) ws)

-- ---- the grammar

-- all lines of a story, in the order in which they are tried: the author's, and behind them those that every story understands
abbrev pub story_lines : List Line → List Line
story_lines lines = lines ++ standard_lines

abbrev pub token_number : List (List ℕ) → Token → ℕ
token_number strings (Word spelling) = number_in strings spelling
token_number strings Something = 65534
token_number strings Direction = 65535

abbrev pub line_entry : List (List ℕ) → Line → LineEntry
line_entry strings line = record { action = line.action; tokens = map (token_number strings) line.tokens }

-- ---- books

-- all rules of a story, by number: those that every story has, and behind them the author's, each listed as the latest sentence
-- about it says
abbrev pub story_rules : List ListingSentence → List Rule → List Rule
story_rules listings rules = listed_by listings (standard_rules ++ rules)

-- its rulebooks, each with its rules in the order in which they are asked
unfoldable pub books_of : Tale → List ListingSentence → List Rule → List Book
books_of t listings rules = map (λ book. record { rules = book_of (setting_of t) (story_rules listings rules) book }) (range_with_len 0 (book_count t.declared))

-- ---- all of it

-- the tables, but for the codes
abbrev pub tables_but_codes : Declared → List Book → List Worded → List Line → List Rule → List Scene → List (List ℕ) → Tables
tables_but_codes d books ws lines rules scenes strings = record {
  strings = strings;
  world = world_of d;
  objects = entries_of strings 0 ws;
  ways = flat_map (ways_of d.kinds) ws;
  rules = rules_of d (map (line_entry strings) lines) books (described_in ws) rules scenes;
  codes = [];
  values = values_of strings d ws;
}

-- the bytes of the codes of descriptions, rules and scenes, each string by its number
abbrev pub code_bytes : List (List ℕ) → List Origin → List (List ℕ)
code_bytes strings origins = map spelling (codes_of_origins (number_in strings) origins)

-- with the codes, where these are the strings
abbrev pub coded_tables : Declared → List Book → List Worded → List Line → List Rule → List Scene → List Origin → List (List ℕ) → Tables
coded_tables d books ws lines rules scenes origins strings = record (tables_but_codes d books ws lines rules scenes strings) { codes = code_bytes strings origins }

unfoldable pub tables_with : Declared → List Book → List Worded → List Line → List Rule → List Scene → List Origin → Tables
tables_with d books ws lines rules scenes origins = coded_tables d books ws lines rules scenes origins (strings_of (texts_named ws lines) (strings_behind d origins))

-- the strings of a story of these objects, of which this is said
abbrev pub story_strings : Declared → List Worded → Contents → List (List ℕ)
story_strings d ws c = strings_of (texts_named ws (story_lines c.lines)) (strings_behind d (origins_said c))

-- and its tables, but for the codes, where these are its books and strings
abbrev pub story_tables : Declared → List Book → List Worded → Contents → List (List ℕ) → Tables
story_tables d books ws c strings = tables_but_codes d books ws (story_lines c.lines) c.rules c.scenes strings

-- the tables of a tale of which this is said
abbrev pub tables_of : Tale → Contents → Tables
tables_of t c = tables_with t.declared (books_of t c.listings c.rules) (worded c.synonyms t.objects) (story_lines c.lines) c.rules c.scenes (origins_said c)

-- its strings
abbrev pub strings_with : Tale → Contents → List (List ℕ)
strings_with t c = story_strings t.declared (worded c.synonyms t.objects) c

-- its tables, but for the codes
abbrev pub tables_uncoded : Tale → Contents → Tables
tables_uncoded t c = story_tables t.declared (books_of t c.listings c.rules) (worded c.synonyms t.objects) c (strings_with t c)

-- ---- what is said of each object

-- where these are the texts of those that are described, in order
abbrev pub text_in : List Object → List Text → ℕ → Option Text
text_in [] texts o = None
text_in (object ∷ objects) texts zero = if is_some object.description then slice_get texts 0 else None
text_in (object ∷ objects) texts (suc o) = text_in objects (drop (code_count object.description) texts) o

abbrev pub text_of : Tale → List Text → ℕ → Option Text
text_of t texts o = text_in t.objects texts o
