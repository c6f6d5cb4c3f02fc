-- What sentences claim of names, in small letters: one clause a form.
use Rattle.std.specs.Prelude.{ℕ, ◌+◌, ℤ, Bool, false, List, [], ◌∷◌, ◌++◌, flat_map, fold, map, true, Option, Some, None, bytes_eq, codes, if◌then◌else◌}
use Rattle.world_meaning.specs.Spelling.{lowered}
use Rattle.world_meaning.specs.declared.place.Rel.{Rel}
use Rattle.world_meaning.specs.declared.place.Rel.TheVariants.{In, On, Carried, Worn, Part}
use Rattle.i7_sentences.specs.declared.name.Name.{Name}
use Rattle.i7_sentences.specs.declared.sentence.Assertion.{Assertion}
use Rattle.i7_sentences.specs.declared.sentence.Assertion.TheVariants as assertion
use Rattle.i7_sentences.specs.declared.sentence.Being.{Being}
use Rattle.i7_sentences.specs.declared.sentence.Holder.{Holder}
use Rattle.i7_sentences.specs.declared.sentence.Sentence.{Sentence}
use Rattle.object_words.specs.Mentions.{mention}
use Rattle.i7_claims.specs.Beings.{names_said}
use Rattle.i7_claims.specs.NameScans.{Standings, built_in_standings, with_claim}
use Rattle.i7_claims.specs.Numbers.{has_name}
use Rattle.i7_claims.specs.Standings.{is_number_name, is_variable_name}
use Rattle.i7_claims.specs.Statements.{key_of}
use Rattle.i7_claims.specs.Plurals.{kind_named}
use Rattle.i7_claims.specs.Wording.{usual_said, what_said}
use Rattle.i7_claims.specs.declared.wording.What.{What}
use Rattle.i7_claims.specs.declared.claim.Claim.{Claim}
use Rattle.i7_claims.specs.declared.claim.Fact.{Fact}
use Rattle.i7_claims.specs.declared.claim.Fact.TheVariants.{Stands, Rulebook, Lies, CanBe, HasNumber, HasValue, Values, Demands, RoomUnlessDoor, Between, Placed, Has, Usually, Starts, Unread}
use Rattle.i7_claims.specs.declared.claim.Grant.{Grant}
use Rattle.i7_claims.specs.declared.claim.Quality.{Quality}
use Rattle.i7_claims.specs.declared.claim.Standing.{Standing}
use Rattle.i7_claims.specs.declared.claim.Standing.TheVariants as stands
use Rattle.i7_claims.specs.declared.claim.Value.{Value}
use Rattle.i7_claims.specs.declared.claim.Value.TheVariants.{Truth, Amount, Choice, Never}

abbrev pub claimed : Fact → ℕ → Claim
claimed fact line = record { fact = fact; line = line }

abbrev pub named : Standing → ℕ → Name → Claim
named standing line name = claimed (Stands (record { name = key_of name.text; standing = standing })) line

abbrev pub grant_of : Name → Name → Grant
grant_of kind property = record { kind = key_of kind.text; property = key_of property.text }

abbrev pub lies : Name → Name → ℕ → Claim
lies kind parent line = claimed (Lies (record { kind = key_of kind.text; parent = key_of parent.text })) line

-- an either-or property of one name, or of two
abbrev pub either_or : Name → Name → Option Name → ℕ → List Claim
either_or kind first None line = named (stands.First None) line first ∷ claimed (CanBe (grant_of kind first)) line ∷ []
either_or kind first (Some second) line =
    named (stands.First (Some (key_of second.text))) line first
    ∷ named (stands.Second (key_of first.text)) line second
    ∷ claimed (CanBe (grant_of kind first)) line ∷ []

-- ---- objects

abbrev pub demands : List ℕ → ℕ → Name → Claim
demands kind line name = claimed (Demands (record { object = key_of name.text; kind = kind })) line

-- the kind that words name; words that say nothing name one that isn't there
abbrev pub kind_said : Option What → List ℕ → Option (List ℕ)
kind_said None words = Some (lowered words)
kind_said (Some what) words = what.kind

abbrev pub qualities_said : Option What → List Quality
qualities_said None = []
qualities_said (Some what) = what.qualities

abbrev pub demands_said : Option (List ℕ) → List Name → ℕ → List Claim
demands_said None subjects line = []
demands_said (Some kind) subjects line = map (demands kind line) subjects

-- a property of an object has a value
abbrev pub has : ℕ → Name → List ℕ → Value → Claim
has line name property value = claimed (Has (record { object = key_of name.text; property = property; value = value })) line

abbrev pub has_quality : ℕ → Name → Quality → Claim
has_quality line name quality = has line name quality.property quality.value

abbrev pub has_all : List Quality → ℕ → Name → List Claim
has_all qualities line name = map (has_quality line name) qualities

-- what the objects are said to be
abbrev pub what_claims : Option What → List ℕ → List Name → ℕ → List Claim
what_claims what words subjects line = demands_said (kind_said what words) subjects line ++ flat_map (has_all (qualities_said what) line) subjects

-- what is worn is wearable
abbrev pub worn_claims : Rel → ℕ → Name → List Claim
worn_claims In line name = []
worn_claims On line name = []
worn_claims Carried line name = []
worn_claims Worn line name = has line name (codes "wearable") (Truth true) ∷ []
worn_claims Part line name = []

-- what is held is a thing
abbrev pub placed : Holder → ℕ → Name → List Claim
placed holder line name =
    demands (codes "thing") line name
    ∷ claimed (Placed (record { thing = key_of name.text; relation = holder.relation; holder = key_of holder.name.text })) line
    ∷ worn_claims holder.relation line name

-- a holder is what can hold so; what something is in may be a room or a container
abbrev pub holder_demands : Rel → Name → ℕ → List Claim
holder_demands In name line = []
holder_demands On name line = demands (codes "supporter") line name ∷ []
holder_demands Carried name line = demands (codes "person") line name ∷ []
holder_demands Worn name line = demands (codes "person") line name ∷ []
holder_demands Part name line = demands (codes "thing") line name ∷ []

abbrev pub placings_said : Option Holder → List Name → ℕ → List Claim
placings_said None subjects line = []
placings_said (Some holder) subjects line = holder_demands holder.relation holder.name line ++ flat_map (placed holder line) subjects

abbrev pub being_claims : Standings → Being → ℕ → List Claim
being_claims known being line =
    map (named stands.Object line) (names_said being) ++ what_claims (what_said known being.what) being.what being.subjects line ++ placings_said being.place being.subjects line

-- the kind that a name says, in the plural too
abbrev pub kind_or : Option (List ℕ) → List ℕ → List ℕ
kind_or None name = name
kind_or (Some kind) name = kind

abbrev pub usual_kind : Standings → Name → List ℕ
usual_kind known kind = kind_or (kind_named known (key_of kind.text)) (key_of kind.text)

-- a property of objects of a kind usually has a value
abbrev pub usual : List ℕ → ℕ → List ℕ → Value → Claim
usual kind line property value = claimed (Usually (record { kind = kind; property = property; value = value })) line

abbrev pub usual_quality : List ℕ → ℕ → Quality → Claim
usual_quality kind line quality = usual kind line quality.property quality.value

abbrev pub usual_claims : List ℕ → Option What → List ℕ → ℕ → List Claim
usual_claims kind None words line = claimed (Unread words) line ∷ []
usual_claims kind (Some what) words line = map (usual_quality kind line) what.qualities

-- objects of a kind are usually so
abbrev pub usually_claims : Standings → Name → List ℕ → ℕ → List Claim
usually_claims known kind words line = usual_claims (usual_kind known kind) (usual_said known words) words line

-- ---- numbers

-- a number property of an object is this number; another name says nothing
abbrev pub number_claim : Standings → Name → Name → ℤ → ℕ → Claim
number_claim known property object number line =
    if is_number_name (known (key_of property.text)) then has line object (key_of property.text) (Amount number) else claimed (Unread (key_of property.text)) line

abbrev pub number_claims : Standings → Name → Name → ℤ → ℕ → List Claim
number_claims known property object number line = named stands.Object line object ∷ number_claim known property object number line ∷ []

-- a number property of objects of a kind is usually this number
abbrev pub usual_number : Standings → Name → Name → ℤ → ℕ → Claim
usual_number known property kind number line =
    if is_number_name (known (key_of property.text)) then usual (usual_kind known kind) line (key_of property.text) (Amount number) else claimed (Unread (key_of property.text)) line

-- a variable starts at this number
abbrev pub start_claim : Standings → Name → ℤ → ℕ → Claim
start_claim known variable number line =
    if is_variable_name (known (key_of variable.text)) then claimed (Starts (record { variable = key_of variable.text; number = number })) line else claimed (Unread (key_of variable.text)) line

-- an object is a room
abbrev pub room_claims : Name → ℕ → List Claim
room_claims room line = named stands.Object line room ∷ demands (codes "room") line room ∷ []

-- a way leads between rooms; what is a door is no room
abbrev pub way_claims : Name → Name → ℕ → List Claim
way_claims subject room line = named stands.Object line subject ∷ claimed (RoomUnlessDoor (key_of subject.text)) line ∷ room_claims room line

-- an object is a door, and its rooms are told
abbrev pub placed_door : Name → ℕ → List Claim
placed_door door line = named stands.Object line door ∷ demands (codes "door") line door ∷ claimed (Between (key_of door.text)) line ∷ []

-- a door stands between two rooms
abbrev pub door_claims : Name → Name → Name → ℕ → List Claim
door_claims door first second line = placed_door door line ++ room_claims first line ++ room_claims second line

-- a holder holds things so
abbrev pub holding_claims : Name → Rel → List Name → ℕ → List Claim
holding_claims holder relation things line = map (named stands.Object line) (holder ∷ things) ++ placings_said (Some (record { relation = relation; name = holder })) things line

-- ---- kinds of value

-- the values of a kind of value from this place on, each a name of its own
abbrev pub values_from : List ℕ → ℕ → ℕ → List Name → List Claim
values_from kind line place [] = []
values_from kind line place (value ∷ values) = named (stands.Value (record { kind = kind; place = place })) line value ∷ values_from kind line (1 + place) values

abbrev pub listed_values : Name → List Name → ℕ → List Claim
listed_values kind values line = claimed (Values (record { kind = key_of kind.text; values = map (λ value. value.text) values })) line ∷ values_from (key_of kind.text) line 0 values

-- what a value's name says of a kind of value: that of another kind is none of its values
abbrev pub choice_by : Standing → List ℕ → Option Value
choice_by (stands.Value value) kind = if bytes_eq value.kind kind then Some (Choice value.place) else Some Never
choice_by _ kind = None

abbrev pub choice_in : Option Standing → List ℕ → Option Value
choice_in None kind = None
choice_in (Some standing) kind = choice_by standing kind

abbrev pub choice_said : Standings → Name → Name → Option Value
choice_said known property value = choice_in (known (key_of value.text)) (key_of property.text)

-- an object has a value; a name that is no value's says nothing
abbrev pub has_choice : Name → Name → Name → ℕ → Option Value → Claim
has_choice property object value line None = claimed (Unread (key_of value.text)) line
has_choice property object value line (Some choice) = has line object (key_of property.text) choice

abbrev pub choice_claim : Standings → Name → Name → Name → ℕ → Claim
choice_claim known property object value line = has_choice property object value line (choice_said known property value)

abbrev pub value_claims : Standings → Name → Name → Name → ℕ → List Claim
value_claims known property object value line = named stands.Object line object ∷ choice_claim known property object value line ∷ []

-- objects of a kind usually have a value
abbrev pub usually_choice : List ℕ → Name → Name → ℕ → Option Value → Claim
usually_choice kind property value line None = claimed (Unread (key_of value.text)) line
usually_choice kind property value line (Some choice) = usual kind line (key_of property.text) choice

abbrev pub usual_choice : Standings → Name → Name → Name → ℕ → Claim
usual_choice known property kind value line = usually_choice (usual_kind known kind) property value line (choice_said known property value)

-- what a sentence declares besides objects
abbrev pub declares_said : Assertion → ℕ → List Claim
declares_said (assertion.Rulebook name) line = claimed (Rulebook (lowered name.text)) line ∷ []
declares_said (assertion.Scene name is_recurring) line = named (stands.Scene is_recurring) line name ∷ []
declares_said (assertion.KindOfKind kind parent) line = named stands.Kind line kind ∷ lies kind parent line ∷ []
declares_said (assertion.EitherOr kind first second) line = either_or kind first second line
declares_said (assertion.NumberProperty kind property) line = named stands.Number line property ∷ claimed (HasNumber (grant_of kind property)) line ∷ []
declares_said (assertion.Variable name) line = named stands.Variable line name ∷ []
declares_said (assertion.ValueKind name) line = named stands.ValueKind line name ∷ []
declares_said (assertion.Values kind values) line = listed_values kind values line
declares_said (assertion.HasValue kind property) line = claimed (HasValue (grant_of kind property)) line ∷ []
declares_said _ line = []

abbrev pub declares_in : Sentence → List Claim
declares_in sentence = declares_said sentence.said sentence.line

-- what a sentence claims of values, and else what it declares
abbrev pub choices_said : Standings → Assertion → ℕ → List Claim
choices_said known (assertion.ValueOf property object value) line = value_claims known property object value line
choices_said known (assertion.UsuallyValue property kind value) line = usual_choice known property kind value line ∷ []
choices_said known said line = declares_said said line

-- what a sentence claims of numbers, and else what it claims of values and declares
abbrev pub numbers_said : Standings → Assertion → ℕ → List Claim
numbers_said known (assertion.NumberOf property object number) line = number_claims known property object number line
numbers_said known (assertion.UsuallyNumber property kind number) line = usual_number known property kind number line ∷ []
numbers_said known (assertion.VariableIs variable number) line = start_claim known variable number line ∷ []
numbers_said known said line = choices_said known said line

-- what a sentence claims, where each name stands for this
abbrev pub claims_said : Standings → Assertion → ℕ → List Claim
claims_said known (assertion.Way way) line = way_claims way.subject way.room line
claims_said known (assertion.Door door first second) line = door_claims door first.room second.room line
claims_said known (assertion.DescriptionOf object text) line = named stands.Object line object ∷ []
claims_said known (assertion.Are being) line = being_claims known being line
claims_said known (assertion.Holds holder relation things) line = holding_claims holder relation things line
claims_said known (assertion.Usually kind adjectives) line = usually_claims known kind adjectives line
claims_said known said line = numbers_said known said line

abbrev pub claims_in : Standings → Sentence → List Claim
claims_in known sentence = claims_said known sentence.said sentence.line

-- ---- what sentences declare, wherever they stand

-- a sentence that lists the values of one of these kinds of value
abbrev pub is_listed : List (List ℕ) → Assertion → Bool
is_listed kinds (assertion.Values kind values) = has_name kinds (key_of kind.text)
is_listed kinds _ = false

abbrev pub with_listed : List (List ℕ) → Assertion → List (List ℕ)
with_listed kinds (assertion.Values kind values) = mention kinds (key_of kind.text)
with_listed kinds _ = kinds

-- what a sentence declares where the values of these kinds of value are listed before it: the values of a second list aren't looked at
abbrev pub declared_once : List (List ℕ) → Sentence → List Claim
declared_once kinds sentence = if is_listed kinds sentence.said then [] else declares_in sentence

abbrev pub declares_from : List (List ℕ) → List Sentence → List Claim
declares_from kinds [] = []
declares_from kinds (sentence ∷ sentences) = declared_once kinds sentence ++ declares_from (with_listed kinds sentence.said) sentences

-- what names stand for by the declarations, wherever they are
abbrev pub known_by : List Sentence → Standings
known_by sentences = fold with_claim built_in_standings (declares_from [] sentences)

-- ---- what a source claims

abbrev pub claims_of : List Sentence → List Claim
claims_of sentences = flat_map (claims_in (known_by sentences)) sentences
