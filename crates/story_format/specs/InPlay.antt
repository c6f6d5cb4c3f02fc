-- What a story's tables say of its objects in play: kinds, properties and doors, by number, and what each begins with.
use Rattle.std.specs.Prelude.{ℕ, ◌-◌, ℤ, pos, Bool, false, ◌==◌, List, [], ◌∷◌, drop, map, take, count_by, slice_get, slice_index_or, Option, Some, None, if◌then◌else◌}
use Rattle.std.specs.Int.{w32, cast_signed}
use Rattle.std.specs.List.{list_any}
use Rattle.world_meaning.specs.Declarations.{has_property, is_had}
use Rattle.world_meaning.specs.Kinds.{is_under}
use Rattle.world_meaning.specs.declared.article.Article.{Article}
use Rattle.world_meaning.specs.declared.article.Article.TheVariants as articles
use Rattle.world_meaning.specs.declared.declared.Granted.{Granted}
use Rattle.world_meaning.specs.declared.exits.Exits.{Exits}
use Rattle.world_meaning.specs.declared.exits.Way.{Way}
use Rattle.story_format.specs.Facts.{exits_at, text_at}
use Rattle.story_format.specs.declared.tables.Entry.{Entry}
use Rattle.story_format.specs.declared.tables.Tables.{Tables}
use Rattle.story_format.specs.declared.value_tables.ValueEntry.{ValueEntry}
use Rattle.story_format.specs.declared.value_tables.ValueTables.{ValueTables}
use Rattle.story_format.specs.declared.world_tables.Variable.{Variable}
use Rattle.story_format.specs.declared.world_tables.WorldTables.{WorldTables}

-- ---- what never changes

abbrev pub article_numbered : ℕ → Article
article_numbered n = if n == 1 then articles.A else (if n == 2 then articles.An else (if n == 3 then articles.Some else articles.None))

abbrev pub article_in : Option Entry → Article
article_in None = articles.None
article_in (Some entry) = article_numbered entry.article

abbrev pub article_of : Tables → ℕ → Article
article_of t o = article_in (slice_get t.objects o)

abbrev pub is_of_in : List (Option ℕ) → ℕ → Option Entry → Bool
is_of_in parents kind None = false
is_of_in parents kind (Some entry) = is_under parents entry.kind kind

-- whether an object is of a kind, or of one below it
abbrev pub is_of : Tables → ℕ → ℕ → Bool
is_of t o kind = is_of_in t.world.kinds kind (slice_get t.objects o)

abbrev pub has_in : List (Option ℕ) → List Granted → ℕ → Option Entry → Bool
has_in parents granted property None = false
has_in parents granted property (Some entry) = has_property parents granted entry.kind property

-- whether an object's kind has an either-or property
abbrev pub has_flag : Tables → ℕ → ℕ → Bool
has_flag t o property = has_in t.world.kinds t.world.flags property (slice_get t.objects o)

-- whether an object's kind has a number property
abbrev pub has_number : Tables → ℕ → ℕ → Bool
has_number t o property = has_in t.world.kinds t.world.numbers property (slice_get t.objects o)

-- the kinds that have a value of each kind of value
abbrev pub grants_in : ValueTables → List Granted
grants_in values = map (λ v. v.given) values.kinds

-- whether an object's kind has a value of a kind of value
abbrev pub has_value : Tables → ℕ → ℕ → Bool
has_value t o q = has_in t.world.kinds (grants_in t.values) q (slice_get t.objects o)

abbrev pub names_in : List (List ℕ) → Option ValueEntry → List (List ℕ)
names_in strings None = []
names_in strings (Some v) = map (text_at strings) v.names

-- the names of the values of a kind of value, by number
abbrev pub value_names : Tables → ℕ → List (List ℕ)
value_names t q = names_in t.strings (slice_get t.values.kinds q)

-- the ways of a room, if it is one
abbrev pub exits_of : Tables → ℕ → Option Exits
exits_of t room = exits_at t.world.kinds t.objects t.ways room

abbrev pub door_on : Option Way → Option ℕ
door_on None = None
door_on (Some way) = way.door

-- the door on the way in a direction, by the direction's number
abbrev pub door_in : Option Exits → ℕ → Option ℕ
door_in None direction = None
door_in (Some exits) direction = door_on (slice_get exits.ways (direction - 1))

-- ---- the start

abbrev pub starts_true : ℕ → Entry → Bool
starts_true property entry = list_any (λ other. other == property) entry.properties

-- of each object, whether an either-or property is true of it
abbrev pub start_flags : Tables → ℕ → List Bool
start_flags t property = map (starts_true property) t.objects

abbrev pub number_from : Option ℕ → ℤ
number_from None = pos 0
number_from (Some number) = cast_signed w32 number

-- an object has a number for each number property of its kind, in their order
abbrev pub place_of_number : WorldTables → ℕ → Entry → ℕ
place_of_number w property entry = count_by (is_had w.kinds entry.kind) (take property w.numbers)

abbrev pub start_number : WorldTables → ℕ → Entry → ℤ
start_number w property entry =
    if has_property w.kinds w.numbers entry.kind property then number_from (slice_get entry.numbers (place_of_number w property entry)) else pos 0

-- of each object, the number of a number property, 0 where its kind lacks it
abbrev pub start_numbers : Tables → ℕ → List ℤ
start_numbers t property = map (start_number t.world property) t.objects

-- an object has a value for each kind of value that its kind has, in their order
abbrev pub place_of_value : Tables → ℕ → Entry → ℕ
place_of_value t q entry = count_by (is_had t.world.kinds entry.kind) (take q (grants_in t.values))

-- these are its values
unfoldable pub start_value : Tables → ℕ → Entry → List ℕ → ℕ
start_value t q entry own = if has_property t.world.kinds (grants_in t.values) entry.kind q then slice_index_or own (place_of_value t q entry) 0 else 0

abbrev pub first_own : List (List ℕ) → List ℕ
first_own [] = []
first_own (own ∷ others) = own

abbrev pub start_values_from : Tables → ℕ → List Entry → List (List ℕ) → List ℕ
start_values_from t q [] all = []
start_values_from t q (entry ∷ entries) all = start_value t q entry (first_own all) ∷ start_values_from t q entries (drop 1 all)

-- of each object, which value of a kind of value it has, 0 where its kind lacks it
abbrev pub start_values : Tables → ℕ → List ℕ
start_values t q = start_values_from t q t.objects t.values.objects

abbrev pub start_variable : Variable → ℤ
start_variable variable = cast_signed w32 variable.start

abbrev pub start_variables : Tables → List ℤ
start_variables t = map start_variable t.world.variables
