-- The tale that a source's sentences mean, or the refusal that stands.
use Rattle.std.specs.Prelude.{◌≡◌, ℕ, ℤ, pos, ◌+◌, ◌-◌, Bool, not, ◌&&◌, ◌||◌, ◌==◌, nat_lt, List, [], ◌∷◌, ◌++◌, length, map, find, replicate, slice_get, slice_index_or, Option, Some, None, option_map, codes, IfOk, Result, Ok, Err, if◌then◌else◌}
use Rattle.std.specs.List.{list_any}
use Rattle.world_meaning.specs.Directions.{all_directions, direction_name, direction_number}
use Rattle.world_meaning.specs.declared.article.Article.{Article}
use Rattle.world_meaning.specs.declared.article.Article.TheVariants as article
use Rattle.world_meaning.specs.declared.direction.Direction.{Direction}
use Rattle.world_meaning.specs.declared.exits.Exits.{Exits}
use Rattle.world_meaning.specs.declared.exits.Way.{Way}
use Rattle.world_meaning.specs.declared.fault.Fault.{Fault}
use Rattle.world_meaning.specs.declared.fault.FaultCode.{FaultCode}
use Rattle.world_meaning.specs.declared.fault.FaultCode.TheVariants.{Twice, UnknownName, Cycle, WrongKind, TwoPlaces, TooMany, NoRoom, NoValues}
use Rattle.world_meaning.specs.declared.tale.Object.{Object}
use Rattle.world_meaning.specs.declared.tale.Tale.{Tale}
use Rattle.world_meaning.specs.Declarations.{is_had}
use Rattle.world_meaning.specs.Kinds.{is_under, is_under_one, room_kind, thing_kind}
use Rattle.world_meaning.specs.declared.declared.Granted.{Granted}
use Rattle.world_meaning.specs.declared.declared.ValueKind.{ValueKind}
use Rattle.world_meaning.specs.Properties.{described}
use Rattle.world_meaning.specs.declared.kinds.TheConstants.{PROPERTIES}
use Rattle.world_meaning.specs.Standing.{place_at}
use Rattle.i7_sentences.specs.declared.name.NameArticle.{NameArticle}
use Rattle.i7_sentences.specs.declared.name.NameArticle.TheVariants as written
use Rattle.i7_sentences.specs.declared.sentence.Sentence.{Sentence}
use Rattle.i7_kinds.specs.Actions.{actions_said, with_actions}
use Rattle.i7_kinds.specs.Demands.{wrong_kind, descriptions_of, description_of, second_description, second_target, target_of, first_of_author, line_at, line_of_description}
use Rattle.object_words.specs.Words.{words_for}
use Rattle.i7_claims.specs.Claims.{claims_of}
use Rattle.i7_kinds.specs.Grants.{first_base, givens_of, other_bases}
use Rattle.i7_kinds.specs.Doors.{door_twice, doors_of}
use Rattle.i7_claims.specs.Firsts.{first_of}
use Rattle.i7_kinds.specs.KindClaims.{declared_by, kind_cycle, kind_names, kind_too_many, parents_of, unknown_kind}
use Rattle.i7_kinds.specs.Knowns.{Scope, kinds_of, knowns_of, off_path}
use Rattle.i7_kinds.specs.LongNames.{longer_name}
use Rattle.i7_kinds.specs.Places.{Places, holder_cycle, places_by, second_place}
use Rattle.i7_kinds.specs.ValueKinds.{choice_or, unlisted}
use Rattle.i7_kinds.specs.Values.{Values, usual_of, value_twice, values_by}
use Rattle.i7_kinds.specs.declared.values.Bearer.TheVariants.{Objects, Kinds, Variables}
use Rattle.i7_kinds.specs.Suits.{first_room, unsuited, with_player}
use Rattle.i7_kinds.specs.declared.knowns.Known.{Known}
use Rattle.i7_claims.specs.NameScans.{book_twice, list_twice, name_twice}
use Rattle.i7_claims.specs.declared.claim.Claim.{Claim}
use Rattle.i7_claims.specs.declared.claim.Value.{Value}
use Rattle.i7_claims.specs.declared.claim.Value.TheVariants.{Truth, Amount}
use Rattle.i7_kinds.specs.declared.entries.Entry.{Entry}
use Rattle.i7_kinds.specs.declared.faults.Faults.{Faults}
use Rattle.i7_claims.specs.Scans.{earlier}
use Rattle.i7_claims.specs.Sorts.{name_too_many, names_as, property_names}
use Rattle.i7_claims.specs.declared.sorts.Sort.TheVariants as sort
use Rattle.i7_kinds.specs.declared.descriptions.Description.{Description}
use Rattle.i7_claims.specs.declared.statements.NumberedSentence.{NumberedSentence}
use Rattle.i7_kinds.specs.declared.tale.TaleSaid.{TaleSaid}
use Rattle.i7_kinds.specs.declared.ways.Target.{Target}
use Rattle.i7_claims.specs.Statements.{NameAt, named_by, stated_by}

-- C12: the object that is one too many; the player and the directions are among the 1,000
abbrev pub object_too_many : List NameAt → Option ℕ
object_too_many mentions = option_map line_at (slice_get mentions (1000 - first_of_author))

-- C12: a name of over 65,535 bytes or 32 words, at its first mention
abbrev pub is_too_long : List ℕ → Bool
is_too_long name = nat_lt 65535 (length name) || nat_lt 32 (length (words_for first_of_author name))

abbrev pub has_long_name : NameAt → Bool
has_long_name at = is_too_long at.name.text

abbrev pub name_too_long : List NameAt → Option ℕ
name_too_long mentions = option_map line_at (find has_long_name mentions)

abbrev pub has_long_text : Description → Bool
has_long_text d = nat_lt 65535 (length d.text)

-- C12: a description of over 65,535 bytes
abbrev pub text_too_long : List Description → Option ℕ
text_too_long descriptions = option_map line_of_description (find has_long_text descriptions)

abbrev pub is_vowel : ℕ → Bool
is_vowel b = list_any (λ vowel. b == vowel) (codes "aeiouAEIOU")

-- `an` stands before a vowel
abbrev pub plain_article : List ℕ → Article
plain_article [] = article.A
plain_article (b ∷ bs) = if is_vowel b then article.An else article.A

-- the article that an object is printed with, by that of its first mention
abbrev pub article_of : NameArticle → List ℕ → Article
article_of written.None name = article.None
article_of written.Plain name = plain_article name
article_of written.Some name = article.Some

abbrev pub way_to : Option Target → Way
way_to None = record { room = None; door = None }
way_to (Some target) = record { room = Some target.room; door = target.door }

-- where a room's twelve directions lead
unfoldable pub exits_of : List NumberedSentence → ℕ → Exits
exits_of statements room = record { ways = map (λ d. way_to (target_of statements room (direction_number d))) all_directions }

abbrev pub no_exits : Exits
no_exits = record { ways = replicate 12 (way_to None) }

-- the objects' kinds and places, which kinds have which properties, what sentences say of those and what is usual, the
-- texts that describe rooms, and what sentences state
pub record Made : Type 0 where
  pub parents : List (Option ℕ)
  pub kinds : List ℕ
  pub places : Places
  pub flags : List Granted
  pub numbers : List Granted
  pub value_kinds : List ValueKind
  pub values : Values
  pub usuals : Values
  pub descriptions : List Description
  pub statements : List NumberedSentence

abbrev pub kind_at : List ℕ → ℕ → ℕ
kind_at kinds o = slice_index_or kinds o thing_kind

abbrev pub player_entry : Entry
player_entry = record { name = codes "yourself"; article = article.None }

abbrev pub direction_entry : Direction → Entry
direction_entry d = record { name = direction_name d; article = article.None }

abbrev pub author_entry : NameAt → Entry
author_entry at = record { name = at.name.text; article = article_of at.name.article at.name.text }

-- the player, the directions, and the author's objects by first mention
unfoldable pub entries_of : List NameAt → List Entry
entries_of mentions = player_entry ∷ map direction_entry all_directions ++ map author_entry mentions

-- rooms have ways
abbrev pub exits_by : List (Option ℕ) → List NumberedSentence → ℕ → ℕ → Exits
exits_by parents statements kind o = if is_under parents kind room_kind then exits_of statements o else no_exits

-- by default a property is true of objects of these kinds, but that the player is undescribed
abbrev pub begins_by_default : List (Option ℕ) → ℕ → ℕ → ℕ → List ℕ → Bool
begins_by_default parents o kind n true_of = is_under_one parents true_of kind && not ((n == described) && (o == 0))

abbrev pub truth_or : Option Value → Bool → Bool
truth_or (Some (Truth truth)) other = truth
truth_or _ other = other

abbrev pub amount_or : Option Value → ℤ → ℤ
amount_or (Some (Amount number)) other = number
amount_or _ other = other

-- property n of object o is true as the story begins: where a sentence says so, else where it usually is, and else by
-- default
abbrev pub begins : Made → ℕ → ℕ → ℕ → List ℕ → Bool
begins m o kind n true_of = truth_or (m.values o n) (truth_or (usual_of m.parents m.usuals kind n) (begins_by_default m.parents o kind n true_of))

-- number property n of object o begins with what a sentence says, else with what is usual, and else with 0
abbrev pub begins_with : Made → ℕ → ℕ → ℕ → ℤ
begins_with m o kind n = amount_or (m.values o n) (amount_or (usual_of m.parents m.usuals kind n) (pos 0))

-- what those of these properties, counted from n, begin with that an object of a kind has
abbrev pub numbers_from : Made → ℕ → ℕ → ℕ → List Granted → List ℤ
numbers_from m o kind n [] = []
numbers_from m o kind n (number ∷ numbers) =
    if is_had m.parents kind number then begins_with m o kind n ∷ numbers_from m o kind (n + 1) numbers else numbers_from m o kind (n + 1) numbers

-- the kind of value with number n as a property, which has so many values: object o begins with what a sentence says, else with
-- what is usual, and else with the first
abbrev pub chosen : Made → ℕ → ℕ → ℕ → ℕ → ℕ
chosen m o kind n count = choice_or count (m.values o n) (choice_or count (usual_of m.parents m.usuals kind n) 0)

-- what those of these kinds of value, whose numbers as properties go on from n, begin with that an object of a kind has
abbrev pub choices_from : Made → ℕ → ℕ → ℕ → List ValueKind → List ℕ
choices_from m o kind n [] = []
choices_from m o kind n (q ∷ kinds) =
    if is_had m.parents kind q.given then chosen m o kind n (length q.names) ∷ choices_from m o kind (n + 1) kinds else choices_from m o kind (n + 1) kinds

-- those of these properties, counted from n, that an object of a kind has and begins with; the first are true of these
-- kinds by default
abbrev pub properties_from : Made → ℕ → ℕ → ℕ → List (List ℕ) → List Granted → List ℕ
properties_from m o kind n true_of [] = []
properties_from m o kind n true_of (flag ∷ flags) =
    if begins m o kind n (first_base true_of) && is_had m.parents kind flag then n ∷ properties_from m o kind (n + 1) (other_bases true_of) flags
    else properties_from m o kind (n + 1) (other_bases true_of) flags

-- of each built-in property the kinds of whose objects it is true by default
unfoldable pub built_in_truths : List (List ℕ)
built_in_truths = map (λ property. property.3.now) PROPERTIES

-- object o, of a kind
unfoldable pub object_as : Made → ℕ → ℕ → Entry → Object
object_as m kind o e = record {
  kind = kind;
  name = e.name;
  article = e.article;
  description = description_of m.descriptions o;
  place = place_at m.places o;
  exits = exits_by m.parents m.statements kind o;
  properties = properties_from m o kind 0 built_in_truths m.flags;
  numbers = numbers_from m o kind (length m.flags) m.numbers;
  values = choices_from m o kind (length m.flags + length m.numbers) m.value_kinds;
}

abbrev pub object_of : Made → ℕ → Entry → Object
object_of m o e = object_as m (kind_at m.kinds o) o e

-- the objects from number o on
abbrev pub objects_of : Made → ℕ → List Entry → List Object
objects_of m o [] = []
objects_of m o (e ∷ entries) = object_of m o e ∷ objects_of m (o + 1) entries

-- a source without a room is refused at line 1
abbrev pub no_room : Option ℕ → Option ℕ
no_room None = Some 1
no_room (Some room) = None

abbrev pub refusal_at : FaultCode → Option ℕ → Option Fault
refusal_at code None = None
refusal_at code (Some line) = Some (record { code = code; line = line })

-- ---- from the claims, the names of the objects, and what sentences state

-- where the kinds have these names and these kinds above them
abbrev pub scope_with : List (List ℕ) → List (Option ℕ) → List Claim → List (List ℕ) → Scope
scope_with kinds parents claims keys = record {
  objects = keys;
  kinds = kinds;
  parents = parents;
  properties = property_names claims;
  givens = givens_of (property_names claims) kinds claims;
  doors = doors_of kinds parents claims;
  variables = names_as sort.Variable claims;
}

abbrev pub scope_of : List Claim → List (List ℕ) → Scope
scope_of claims keys = scope_with (kind_names claims) (parents_of (kind_names claims) claims) claims keys

-- a value of an object, a usual one, or one of a variable that isn't the first
abbrev pub any_value_twice : Scope → List Claim → Option ℕ
any_value_twice s claims = earlier (value_twice Objects s claims) (earlier (value_twice Kinds s claims) (value_twice Variables s claims))

-- a second name, list of rules or of values, description or value
abbrev pub said_twice : Scope → List Claim → List Description → Option ℕ
said_twice s claims descriptions =
    earlier (name_twice claims) (earlier (book_twice claims) (earlier (list_twice claims) (earlier (second_description descriptions) (any_value_twice s claims))))

-- what sentences may not say together, by the lowest lines: C9 of a name that stands for two things, of a rulebook's that
-- is another's, of a second list of values, of a second description and of another value of a property or a variable; C7 of a
-- kind that isn't there and of words that name nothing; C11 of a cycle of kinds or of holders; C8 of demands off one path and of
-- what the kinds don't allow; C10 of an exit's or an object's second place, and of a door whose rooms are told again; C12 of a
-- name that is one too many and of a list of values that is too long; C16 of a kind of value without values
abbrev pub faults_of : Scope → List Known → List Claim → List NumberedSentence → Faults
faults_of s knowns claims statements = record {
  twice = said_twice s claims (descriptions_of s.parents knowns statements);
  unknown = unknown_kind s.kinds claims;
  cycle = earlier (kind_cycle s.kinds claims) (holder_cycle s.objects claims);
  wrong = earlier (off_path s claims) (earlier (unsuited s knowns claims) (wrong_kind s.parents knowns statements));
  second = earlier (second_target statements) (earlier (second_place s.objects claims) (door_twice claims));
  too_many = earlier (kind_too_many claims) (name_too_many claims);
  unlisted = unlisted claims;
}

-- each code is looked for in all sentences before the next
unfoldable pub frame_refusal : Faults → List NameAt → Option ℕ → Option Fault
frame_refusal faults mentions room =
    first_of (refusal_at Twice faults.twice)
    (first_of (refusal_at UnknownName faults.unknown)
    (first_of (refusal_at Cycle faults.cycle)
    (first_of (refusal_at WrongKind faults.wrong)
    (first_of (refusal_at TwoPlaces faults.second)
    (first_of (refusal_at TooMany (earlier (object_too_many mentions) faults.too_many))
    (first_of (refusal_at NoRoom (no_room room))
    (refusal_at NoValues faults.unlisted)))))))

abbrev pub refusal_of : Scope → List Known → List Claim → List NumberedSentence → List NameAt → Option Fault
refusal_of s knowns claims statements mentions = frame_refusal (faults_of s knowns claims statements) mentions (first_room s.parents knowns)

-- the lowest line of a name or a description that is too long: C12, but behind what rules and commands are refused for, which have
-- their own C12
unfoldable pub long_in : List Claim → List Description → List NameAt → Option ℕ
long_in claims descriptions mentions = earlier (name_too_long mentions) (earlier (text_too_long descriptions) (longer_name 65535 claims))

abbrev pub or_refused : Option Fault → Tale → Result Tale Fault
or_refused None tale = Ok tale
or_refused (Some fault) tale = Err fault

-- the objects as the sentences have them
abbrev pub made_of : Scope → List Known → List Claim → List NumberedSentence → Made
made_of s knowns claims statements = record {
  parents = s.parents;
  kinds = kinds_of knowns;
  places = with_player (places_by s.objects claims) (first_room s.parents knowns);
  flags = (declared_by claims).flags;
  numbers = (declared_by claims).numbers;
  value_kinds = (declared_by claims).values;
  values = values_by Objects s claims;
  usuals = values_by Kinds s claims;
  descriptions = descriptions_of s.parents knowns statements;
  statements = statements;
}

-- the tale, where no refusal stands
abbrev pub tale_made : Scope → List Known → List Claim → List NumberedSentence → List NameAt → Tale
tale_made s knowns claims statements mentions = record { declared = declared_by claims; objects = objects_of (made_of s knowns claims statements) 0 (entries_of mentions) }

-- the tale, unless a refusal stands
abbrev pub judged_by : Scope → List Known → List Claim → List NumberedSentence → List NameAt → Result Tale Fault
judged_by s knowns claims statements mentions =
    or_refused (refusal_of s knowns claims statements mentions) (tale_made s knowns claims statements mentions)

abbrev pub judged : Scope → List Claim → List NumberedSentence → List NameAt → Result Tale Fault
judged s claims statements mentions = judged_by s (knowns_of s claims) claims statements mentions

-- where the kinds have these names and these kinds above them
abbrev pub said_in : List (List ℕ) → List (Option ℕ) → List Claim → List Sentence → Result Tale Fault
said_in kinds parents claims sentences = judged (scope_with kinds parents claims (named_by sentences).keys) claims (stated_by sentences) (named_by sentences).mentions

abbrev pub said_by : List Claim → List Sentence → Result Tale Fault
said_by claims sentences = said_in (kind_names claims) (parents_of (kind_names claims) claims) claims sentences

abbrev pub long_of : Scope → List Claim → List NumberedSentence → List NameAt → Option ℕ
long_of s claims statements mentions = long_in claims (descriptions_of s.parents (knowns_of s claims) statements) mentions

abbrev pub long_with : List (List ℕ) → List (Option ℕ) → List Claim → List Sentence → Option ℕ
long_with kinds parents claims sentences = long_of (scope_with kinds parents claims (named_by sentences).keys) claims (stated_by sentences) (named_by sentences).mentions

abbrev pub long_by : List Claim → List Sentence → Option ℕ
long_by claims sentences = long_with (kind_names claims) (parents_of (kind_names claims) claims) claims sentences

-- the lowest line at which the sentences have a name or a description that is too long
abbrev pub long_said : List Sentence → Option ℕ
long_said sentences = long_by (claims_of sentences) sentences

-- the tale of a source's sentences with the actions that they declare, or the refusal that stands
abbrev pub tale_said : List Sentence → Result Tale Fault
tale_said sentences = with_actions (actions_said sentences) (said_by (claims_of sentences) sentences)

-- ---- as it is kept

abbrev pub tale_in : Result TaleSaid Fault → Result Tale Fault
tale_in (Ok said) = Ok said.tale
tale_in (Err fault) = Err fault

-- where there is a tale, this line is kept beside it
abbrev pub HasLine : Option ℕ → Result TaleSaid Fault → Type 0
HasLine line said = IfOk said (λ s. s.long_line ≡ line)
