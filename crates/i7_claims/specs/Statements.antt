-- What the sentences of a source state, objects by their numbers: 0 the player, 1 to 12 the
-- directions, then the author's by first mention.
use Rattle.std.specs.Prelude.{ℕ, Bool, List, [], ◌∷◌, ◌++◌, map, fold, codes, bytes_eq, if◌then◌else◌}
use Rattle.std.specs.List.{list_any}
use Rattle.world_meaning.specs.Spelling.{is_spelled, lowered}
use Rattle.world_meaning.specs.Directions.{all_directions, direction_name}
use Rattle.world_meaning.specs.declared.place.Rel.{Rel}
use Rattle.world_meaning.specs.declared.place.Rel.TheVariants.{In, On, Carried, Worn, Part}
use Rattle.i7_sentences.specs.declared.name.Name.{Name}
use Rattle.i7_sentences.specs.declared.sentence.Assertion.{Assertion}
use Rattle.i7_sentences.specs.declared.sentence.Assertion.TheVariants.{Description, DescriptionOf, Door, Way, Are, Holds, NumberOf, ValueOf}
use Rattle.i7_sentences.specs.declared.sentence.Sentence.{Sentence}
use Rattle.i7_sentences.specs.declared.sentence.Side.{Side}
use Rattle.i7_claims.specs.Beings.{names_said}
pub use Rattle.i7_claims.specs.Numbers.{number_in, place_or}
use Rattle.i7_claims.specs.declared.statements.Numbered.{Numbered}
use Rattle.i7_claims.specs.declared.statements.Numbered.TheVariants as numbered
use Rattle.i7_claims.specs.declared.statements.NumberedSentence.{NumberedSentence}
use Rattle.i7_claims.specs.declared.statements.NumberedSide.{NumberedSide}

-- names are compared in small letters; `player` and `yourself` are one
abbrev pub key_of : List ℕ → List ℕ
key_of name = if is_spelled name (codes "player") then codes "yourself" else lowered name

-- a name and the line of its sentence
pub record NameAt : Type 0 where
  pub name : Name
  pub line : ℕ

-- the names that a sentence mentions, in the order of its words
abbrev pub names_in : Assertion → List Name
names_in (Are being) = names_said being
names_in (Way way) = if way.is_room_first then way.room ∷ way.subject ∷ [] else way.subject ∷ way.room ∷ []
names_in (DescriptionOf object text) = object ∷ []
names_in (NumberOf property object number) = object ∷ []
names_in (ValueOf property object value) = object ∷ []
names_in (Door door first second) = door ∷ first.room ∷ second.room ∷ []
names_in (Holds holder relation things) = holder ∷ things
names_in _ = []

abbrev pub names_at : Sentence → List NameAt
names_at sentence = map (λ name. record { name = name; line = sentence.line }) (names_in sentence.said)

-- the keys of the built-in objects, in the order of their numbers
abbrev pub built_in_keys : List (List ℕ)
built_in_keys = codes "yourself" ∷ map direction_name all_directions

abbrev pub has_key : List (List ℕ) → List ℕ → Bool
has_key keys key = list_any (bytes_eq key) keys

-- the keys and the first mentions of the author's objects so far
pub record Named : Type 0 where
  pub keys : List (List ℕ)
  pub mentions : List NameAt

abbrev pub with_name : Named → NameAt → Named
with_name named at =
    if has_key named.keys (key_of at.name.text) then named
    else record { keys = named.keys ++ key_of at.name.text ∷ []; mentions = named.mentions ++ at ∷ [] }

abbrev pub with_names_of : Named → Sentence → Named
with_names_of named sentence = fold with_name named (names_at sentence)

-- the objects of a source, numbered by their first mention
abbrev pub named_by : List Sentence → Named
named_by sentences = fold with_names_of (record { keys = built_in_keys; mentions = [] }) sentences

abbrev pub number_of : Named → Name → ℕ
number_of named name = number_in named.keys (key_of name.text)

-- one object, or none where there are several
abbrev pub numbered_subject : Named → List Name → Numbered
numbered_subject named [] = numbered.Aside
numbered_subject named (name ∷ []) = numbered.Being (number_of named name)
numbered_subject named (name ∷ other ∷ names) = numbered.Aside

-- who carries or wears is what the sentence is about, and else what is held
abbrev pub numbered_holding : Named → Rel → Name → List Name → Numbered
numbered_holding named In holder things = numbered_subject named things
numbered_holding named On holder things = numbered_subject named things
numbered_holding named Carried holder things = numbered.Being (number_of named holder)
numbered_holding named Worn holder things = numbered.Being (number_of named holder)
numbered_holding named Part holder things = numbered_subject named things

abbrev pub side_in : Named → Side → NumberedSide
side_in named side = record { direction = side.direction; room = number_of named side.room }

-- what a sentence asserts, objects by their numbers and texts as they are written
abbrev pub numbered_in : Named → Assertion → Numbered
numbered_in named (Description text) = numbered.Description text
numbered_in named (DescriptionOf object text) = numbered.Describes (number_of named object) text
numbered_in named (Are being) = numbered_subject named being.subjects
numbered_in named (Way way) = numbered.Way (record { subject = number_of named way.subject; direction = way.direction; room = number_of named way.room })
numbered_in named (Door door first second) = numbered.Door (record { door = number_of named door; first = side_in named first; second = side_in named second })
numbered_in named (Holds holder relation things) = numbered_holding named relation holder things
numbered_in named _ = numbered.Aside

abbrev pub statement_in : Named → Sentence → NumberedSentence
statement_in named sentence = record { said = numbered_in named sentence.said; line = sentence.line }

-- what all sentences state
abbrev pub stated_by : List Sentence → List NumberedSentence
stated_by sentences = map (statement_in (named_by sentences)) sentences
