-- What a form says with its letters, if it is part of the language so far.
use Rattle.std.specs.Prelude.{ℕ, ℤ, Bool, true, false, codes, not, ◌&&◌, ◌||◌, ◌==◌, List, [], ◌∷◌, map, Option, Some, None, if◌then◌else◌}
use Rattle.std.specs.List.{list_all}
use Rattle.world_meaning.specs.declared.direction.Direction.{Direction}
use Rattle.world_meaning.specs.declared.direction.Direction.TheVariants.{Up, Down}
use Rattle.world_meaning.specs.declared.place.Rel.{Rel}
use Rattle.world_meaning.specs.Spelling.{is_spelled}
use Rattle.i7_lexer.specs.declared.token.Token.{Token}
use Rattle.i7_lexer.specs.declared.token.TokenKind.{TokenKind}
use Rattle.i7_lexer.specs.declared.token.TokenKind.TheVariants.{Text, Word, Mark}
use Rattle.i7_sentences.specs.ActionDeclarations.{action, action_on_two}
use Rattle.i7_sentences.specs.Conditions.{are_pieces_read}
use Rattle.i7_sentences.specs.Keywords.{is_sign}
use Rattle.world_meaning.specs.Literals.{literal_of}
use Rattle.i7_sentences.specs.Names.{joined, name_of, names_from, Words}
use Rattle.i7_sentences.specs.RuleListings.{listed_first, listed_last, not_listed}
use Rattle.i7_sentences.specs.SceneChanges.{scene_change}
use Rattle.i7_sentences.specs.TextPieces.{is_text_read, text_pieces}
use Rattle.i7_sentences.specs.Understandings.{understands}
use Rattle.i7_sentences.specs.ValueAssertions.{has_value, kind_of_value, usually_value, value_of, values}
use Rattle.i7_sentences.specs.Words.{word_of, direction_named}
use Rattle.i7_sentences.specs.declared.keyword.Keyword.TheVariants as keyword
use Rattle.i7_sentences.specs.declared.form.Form.{Form}
use Rattle.i7_sentences.specs.declared.form.Form.TheVariants as form
use Rattle.i7_sentences.specs.declared.name.Name.{Name}
use Rattle.i7_sentences.specs.declared.scene_change.SceneEdge.TheVariants as edge
use Rattle.i7_sentences.specs.declared.sentence.Assertion.{Assertion}
use Rattle.i7_sentences.specs.declared.sentence.Assertion.TheVariants as assertion
use Rattle.i7_sentences.specs.declared.sentence.Holder.{Holder}
use Rattle.i7_sentences.specs.declared.sentence.Side.{Side}
use Rattle.i7_sentences.specs.declared.text_piece.TextPiece.{TextPiece}
use Rattle.i7_sentences.specs.declared.text_piece.TextPiece.TheVariants.{Substitution}

-- a text without a bracket that opens
abbrev pub is_plain : List ℕ → Bool
is_plain text = list_all (λ b. not (b == 91)) text

abbrev pub plain_text_in : TokenKind → Option (List ℕ)
plain_text_in (Text text) = if is_plain text then Some text else None
plain_text_in (Word word) = None
plain_text_in (Mark mark) = None

-- the text that a letter is
abbrev pub plain_text : List Token → Option (List ℕ)
plain_text (token ∷ []) = plain_text_in token.kind
plain_text _ = None

-- the number that a letter is
abbrev pub number_in : List Token → ℤ
number_in (token ∷ tokens) = literal_of (word_of token)
number_in [] = literal_of []

abbrev pub names_in : List Token → List Name
names_in letter = map name_of (names_from true letter)

-- words that stand for the description of an object
abbrev pub is_of_description : List (List ℕ) → Bool
is_of_description (first ∷ second ∷ words) = is_spelled first (codes "description") && is_spelled second (codes "of")
is_of_description _ = false

abbrev pub may_stand_within : TextPiece → Bool
may_stand_within (Substitution words) = not (is_of_description words)
may_stand_within _ = true

abbrev pub may_describe_so : Option (List TextPiece) → Bool
may_describe_so None = false
may_describe_so (Some pieces) = are_pieces_read pieces && list_all may_stand_within pieces

-- a text that may describe: its brackets and its ifs are understood, and none of its pieces stands for another description
abbrev pub may_describe : List ℕ → Bool
may_describe text = is_plain text || may_describe_so (if is_text_read text then Some (text_pieces text) else None)

abbrev pub describing : List ℕ → Option (List ℕ)
describing text = if may_describe text then Some text else None

abbrev pub describing_text_in : TokenKind → Option (List ℕ)
describing_text_in (Text text) = describing text
describing_text_in (Word word) = None
describing_text_in (Mark mark) = None

-- the one text of these tokens, if it may describe
abbrev pub describing_text : List Token → Option (List ℕ)
describing_text (token ∷ []) = describing_text_in token.kind
describing_text _ = None

abbrev pub described : Option (List ℕ) → Option Assertion
described None = None
described (Some text) = Some (assertion.Description text)

-- a text alone
abbrev pub description : List (List Token) → Option Assertion
description (text ∷ []) = described (describing_text text)
description _ = None

abbrev pub rulebook : List (List Token) → Option Assertion
rulebook (name ∷ []) = Some (assertion.Rulebook (name_of name))
rulebook _ = None

abbrev pub scene : Bool → List (List Token) → Option Assertion
scene is_recurring (name ∷ []) = Some (assertion.Scene (name_of name) is_recurring)
scene is_recurring _ = None

abbrev pub kind_of_kind : List (List Token) → Option Assertion
kind_of_kind (kind ∷ parent ∷ []) = Some (assertion.KindOfKind (name_of kind) (name_of parent))
kind_of_kind _ = None

abbrev pub either_of : List Token → List Token → List Token → Option Assertion
either_of kind first second = Some (assertion.EitherOr (name_of kind) (name_of first) (Some (name_of second)))

abbrev pub can_be : List (List Token) → Option Assertion
can_be (kind ∷ first ∷ []) = Some (assertion.EitherOr (name_of kind) (name_of first) None)
can_be _ = None

abbrev pub can_be_either : List (List Token) → Option Assertion
can_be_either (kind ∷ first ∷ second ∷ []) = either_of kind first second
can_be_either _ = None

abbrev pub number_property : List (List Token) → Option Assertion
number_property (kind ∷ property ∷ []) = Some (assertion.NumberProperty (name_of kind) (name_of property))
number_property _ = None

abbrev pub usually : List (List Token) → Option Assertion
usually (kind ∷ adjectives ∷ []) = Some (assertion.Usually (name_of kind) (joined adjectives))
usually _ = None

abbrev pub usually_number : List (List Token) → Option Assertion
usually_number (property ∷ kind ∷ number ∷ []) = Some (assertion.UsuallyNumber (name_of property) (name_of kind) (number_in number))
usually_number _ = None

abbrev pub variable : List (List Token) → Option Assertion
variable (name ∷ []) = Some (assertion.Variable (name_of name))
variable _ = None

abbrev pub described_object : List Token → Option (List ℕ) → Option Assertion
described_object object None = None
described_object object (Some text) = Some (assertion.DescriptionOf (name_of object) text)

-- perhaps behind an article that opens the form
abbrev pub description_of : List (List Token) → Option Assertion
description_of (object ∷ text ∷ []) = described_object object (describing_text text)
description_of (article ∷ object ∷ text ∷ []) = described_object object (describing_text text)
description_of _ = None

abbrev pub number_of : List (List Token) → Option Assertion
number_of (property ∷ object ∷ number ∷ []) = Some (assertion.NumberOf (name_of property) (name_of object) (number_in number))
number_of _ = None

abbrev pub variable_is : List (List Token) → Option Assertion
variable_is (variable ∷ number ∷ []) = Some (assertion.VariableIs (name_of variable) (number_in number))
variable_is _ = None

-- the direction of `above`, `below`, or a direction's name
abbrev pub direction_at : Token → Option Direction
direction_at token =
    if is_sign keyword.Above token then Some Up
    else (if is_sign keyword.Below token then Some Down else direction_named (word_of token))

abbrev pub side_direction : List Token → Option Direction
side_direction [] = None
side_direction (first ∷ more) = direction_at first

abbrev pub way_assertion : List Token → Option Direction → List Token → Bool → Option Assertion
way_assertion subject None room is_room_first = None
way_assertion subject (Some direction) room is_room_first = Some (assertion.Way (record { subject = name_of subject; direction = direction; room = name_of room; is_room_first = is_room_first }))

abbrev pub way_to : List (List Token) → Option Assertion
way_to (subject ∷ side ∷ room ∷ []) = way_assertion subject (side_direction side) room false
way_to _ = None

abbrev pub way_from : List (List Token) → Option Assertion
way_from (side ∷ room ∷ subject ∷ []) = way_assertion subject (side_direction side) room true
way_from _ = None

abbrev pub side_of : Option Direction → List Token → Option Side
side_of None room = None
side_of (Some direction) room = Some (record { direction = direction; room = name_of room })

abbrev pub door_between : List Token → Option Side → Option Side → Option Assertion
door_between door None second = None
door_between door (Some first) None = None
door_between door (Some first) (Some second) = Some (assertion.Door (name_of door) first second)

abbrev pub door_to : List (List Token) → Option Assertion
door_to (door ∷ side ∷ room ∷ other ∷ behind ∷ []) = door_between door (side_of (side_direction side) room) (side_of (side_direction other) behind)
door_to _ = None

abbrev pub holds : Rel → List (List Token) → Option Assertion
holds relation (holder ∷ things ∷ []) = Some (assertion.Holds (name_of holder) relation (names_in things))
holds relation _ = None

abbrev pub being : List Token → List Token → Option Holder → Option Assertion
being subjects what place = Some (assertion.Are (record { subjects = names_in subjects; what = joined what; place = place }))

abbrev pub holder_by : Rel → List Token → Option Holder
holder_by relation holder = Some (record { relation = relation; name = name_of holder })

abbrev pub held : Rel → List (List Token) → Option Assertion
held relation (subjects ∷ holder ∷ []) = being subjects [] (holder_by relation holder)
held relation _ = None

abbrev pub what_held : Rel → List (List Token) → Option Assertion
what_held relation (subjects ∷ what ∷ holder ∷ []) = being subjects what (holder_by relation holder)
what_held relation _ = None

abbrev pub are : List (List Token) → Option Assertion
are (subjects ∷ what ∷ []) = being subjects what None
are _ = None

-- what a form says with these letters, where these kinds of value are declared
unfoldable pub assertion_of : List Words → Form → List (List Token) → Option Assertion
assertion_of kinds form.Description letters = description letters
assertion_of kinds form.Understand letters = understands letters
assertion_of kinds form.SceneBegins letters = scene_change edge.Begins letters
assertion_of kinds form.SceneEnds letters = scene_change edge.Ends letters
assertion_of kinds form.ListedFirst letters = listed_first letters
assertion_of kinds form.ListedLast letters = listed_last letters
assertion_of kinds form.NotListed letters = not_listed letters
assertion_of kinds (form.Action sort) letters = action sort letters
assertion_of kinds (form.ActionOnTwo sort) letters = action_on_two sort letters
assertion_of kinds form.Rulebook letters = rulebook letters
assertion_of kinds form.Scene letters = scene false letters
assertion_of kinds form.RecurringScene letters = scene true letters
assertion_of kinds form.ValueKind letters = kind_of_value letters
assertion_of kinds form.Values letters = values kinds letters
assertion_of kinds form.HasValue letters = has_value letters
assertion_of kinds form.UsuallyValue letters = usually_value letters
assertion_of kinds form.ValueOf letters = value_of letters
assertion_of kinds form.KindOfKind letters = kind_of_kind letters
assertion_of kinds form.CanBe letters = can_be letters
assertion_of kinds form.CanBeEither letters = can_be_either letters
assertion_of kinds form.NumberProperty letters = number_property letters
assertion_of kinds form.Usually letters = usually letters
assertion_of kinds form.UsuallyNumber letters = usually_number letters
assertion_of kinds form.Variable letters = variable letters
assertion_of kinds form.DescriptionOf letters = description_of letters
assertion_of kinds form.NumberOf letters = number_of letters
assertion_of kinds form.DoorTo letters = door_to letters
assertion_of kinds form.WayTo letters = way_to letters
assertion_of kinds form.WayFrom letters = way_from letters
assertion_of kinds (form.Holds relation) letters = holds relation letters
assertion_of kinds form.VariableIs letters = variable_is letters
assertion_of kinds (form.Held relation) letters = held relation letters
assertion_of kinds (form.WhatHeld relation) letters = what_held relation letters
assertion_of kinds form.Is letters = are letters
assertion_of kinds _ letters = None

-- the forms that say something whatever their letters are, descriptions aside: neither rules, what a scene begins or ends on, nor what
-- commands mean, whose words and texts have a shape of their own
abbrev pub is_asserting : Form → Bool
is_asserting form.Understand = false
is_asserting form.BeforeRule = false
is_asserting form.InsteadRule = false
is_asserting form.CheckRule = false
is_asserting form.CarryOutRule = false
is_asserting form.AfterRule = false
is_asserting form.ReportRule = false
is_asserting form.EveryTurnRule = false
is_asserting form.PlayBeginsRule = false
is_asserting form.SceneBeginsRule = false
is_asserting form.SceneEndsRule = false
is_asserting form.OwnRule = false
is_asserting form.SceneBegins = false
is_asserting form.SceneEnds = false
is_asserting (form.Phrase phrase) = false
is_asserting _ = true

-- no text that may not describe
abbrev pub is_describing_kind : TokenKind → Bool
is_describing_kind (Text text) = may_describe text
is_describing_kind (Word word) = true
is_describing_kind (Mark mark) = true

abbrev pub is_describing : Token → Bool
is_describing token = is_describing_kind token.kind
