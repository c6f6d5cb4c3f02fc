-- The numbers of the sentences that a source says are in range, and its actions ask for no second noun without a first.
use Rattle.std.proofs.Common.{◌≡◌, ℕ, zero, suc, Bool, true, false, ◌≤◌, ◌-ℤ◌, ℤ, pos, negsuc, List, [], ◌∷◌, Option, Some, None, min, refl, ap, sym, subst, arith, inl, inr}
use Rattle.std.specs.Prelude.{if◌then◌else◌, map, nat_le}
use Rattle.std.specs.List.{AllZip, cons_option, list_all}
use Rattle.std.proofs.lemmas.Bool.{lt-ltb, cases_Bool, and_from}
use Rattle.std.proofs.lemmas.Int.{ints}
use Rattle.world_meaning.specs.Declarations.{is_number}
use Rattle.world_meaning.specs.declared.direction.Direction.{Direction}
use Rattle.world_meaning.specs.declared.needs.Needs.{Needs}
use Rattle.world_meaning.specs.declared.needs.Slot.TheVariants.{Visible, Touched, Carried}
use Rattle.i7_kinds.specs.Actions.{actions_said}
use Rattle.i7_lexer.specs.declared.token.Token.{Token}
use Rattle.i7_sentences.specs.ActionDeclarations.{ActionAt, action_at, actions_declared, asked_of}
use Rattle.i7_sentences.specs.Assertions.{assertion_of, described, described_object, door_between, number_in, describing_text, side_direction, side_of, way_assertion}
use Rattle.i7_sentences.specs.Bodies.{Phrase, body_lines}
use Rattle.i7_sentences.specs.BodyOrder.{reserved_line}
use Rattle.i7_sentences.specs.Conditions.{is_condition}
use Rattle.i7_sentences.specs.Cuts.{Piece, line_in, parts_of}
use Rattle.i7_sentences.specs.Forms.{Variant}
use Rattle.i7_sentences.specs.Keywords.{is_sign}
use Rattle.i7_sentences.specs.KindsOfValue.{kinds_of_value}
use Rattle.world_meaning.specs.Literals.{digits_of, is_negative, literal_of, magnitude}
use Rattle.i7_sentences.specs.Lowest.{lower_of}
use Rattle.i7_sentences.specs.Names.{Words, named_in, words_in}
use Rattle.i7_sentences.specs.HeardForms.{named_heard, plain_heard}
use Rattle.i7_sentences.specs.Reserved.{has_reserved_among}
use Rattle.i7_sentences.specs.RuleBodies.{body_phrases, unread_line}
use Rattle.i7_sentences.specs.RuleHeads.{body_tokens, head_in, is_rule_form}
use Rattle.i7_sentences.specs.Rules.{head_heard, head_reserved, rule_heard, unless_reserved, unless_unread}
use Rattle.i7_sentences.specs.SceneChanges.{scene_change}
use Rattle.i7_sentences.specs.Sources.{IsSentence, Says as Tells, SaysInWords}
use Rattle.i7_sentences.specs.Words.{word_of}
use Rattle.i7_sentences.specs.declared.form.Form.{Form}
use Rattle.i7_sentences.specs.declared.form.Form.TheVariants as form
use Rattle.i7_sentences.specs.declared.heard.Heard.{Heard}
use Rattle.i7_sentences.specs.declared.heard.Heard.TheVariants as heard
use Rattle.i7_sentences.specs.declared.keyword.Keyword.TheVariants as keyword
use Rattle.i7_sentences.specs.declared.part.PartKind.{PartKind}
use Rattle.i7_sentences.specs.declared.part.PartKind.TheVariants.{Title, Heading, Sentence as Said}
use Rattle.i7_sentences.specs.declared.rule.Rule.{Rule}
use Rattle.i7_sentences.specs.declared.rule_head.Head.{Head}
use Rattle.i7_sentences.specs.declared.scene_change.SceneEdge.{SceneEdge}
use Rattle.i7_sentences.specs.declared.scene_change.SceneEdge.TheVariants as edge
use Rattle.i7_sentences.specs.declared.sentence.Assertion.{Assertion}
use Rattle.i7_sentences.specs.declared.sentence.Assertion.TheVariants as assertion
use Rattle.i7_sentences.specs.declared.sentence.Sentence.{Sentence}
use Rattle.i7_sentences.specs.declared.sentence.Side.{Side}
use Rattle.i7_claims.proofs.Ranged.{AreRangedSentences, IsRangedSaid}
use Rattle.i7_sentences.specs.Understandings.{are_choices, is_grammar_text, texts_in, understands, understands_so}
use Rattle.story_format.specs.Holding.{has_first_noun}
use Rattle.story_format.specs.RuleMaking.{noun_count}
use Rattle.story_file.specs.Compilations.{Says}

-- ---- a literal

minus : (n : ℕ) → pos 0 -ℤ pos (suc n) ≡ negsuc n
minus n = omega (arith, ints)

below : (size : ℕ) → size ≤ 2147483648 → is_number (pos 0 -ℤ pos size) ≡ true
below zero le = refl
below (suc n) le = subst (λ (z : ℤ). is_number z ≡ true) (sym (minus n)) (lt-ltb n 2147483648 (omega (arith, le)))

above : (size : ℕ) → size ≤ 2147483647 → is_number (pos size) ≡ true
above size le = lt-ltb size 2147483648 (omega (arith, le))

least : (a b : ℕ) → min a b ≤ b
least a b = omega arith

literal_ranged : (word : List ℕ) → is_number (literal_of word) ≡ true
literal_ranged word =
    elim (cases_Bool (is_negative word)) [
      | inl is ↦ rw is (below (min (magnitude (digits_of word)) 2147483648) (least (magnitude (digits_of word)) 2147483648))
      | inr isnt ↦ rw isnt (above (min (magnitude (digits_of word)) 2147483647) (least (magnitude (digits_of word)) 2147483647))
    ]

number_ranged : (letter : List Token) → is_number (number_in letter) ≡ true
number_ranged [] = literal_ranged []
number_ranged (token ∷ tokens) = literal_ranged (word_of token)

-- ---- what a form says

-- its numbers are in range, and the action that it declares has a first noun, if it has a second
abbrev IsWellSaid : Assertion → Type 0
IsWellSaid (assertion.Action declaration) = has_first_noun declaration.needs ≡ true
IsWellSaid said = IsRangedSaid said

degree_there : (visible carried : Bool) → noun_count (if visible then Visible else (if carried then Carried else Touched)) ≡ 1
degree_there true carried = refl
degree_there false true = refl
degree_there false false = refl

asked_there : (words : List Token) → noun_count (asked_of words) ≡ 1
asked_there [] = refl
asked_there (first ∷ more) = degree_there (is_sign keyword.Visible first) (is_sign keyword.Carried first)

abbrev IsWellFound : Option Assertion → Type 0
IsWellFound None = Unit {0}
IsWellFound (Some said) = IsWellSaid said

described_ranged : (text : Option (List ℕ)) → IsWellFound (described text)
described_ranged None = tt
described_ranged (Some text) = tt

object_ranged : (object : List Token) (text : Option (List ℕ)) → IsWellFound (described_object object text)
object_ranged object None = tt
object_ranged object (Some text) = tt

way_ranged : (subject : List Token) (direction : Option Direction) (room : List Token) (is_room_first : Bool) → IsWellFound (way_assertion subject direction room is_room_first)
way_ranged subject None room is_room_first = tt
way_ranged subject (Some direction) room is_room_first = tt

door_ranged : (door : List Token) (first second : Option Side) → IsWellFound (door_between door first second)
door_ranged door None second = tt
door_ranged door (Some first) None = tt
door_ranged door (Some first) (Some second) = tt

asked_ranged : (is_asked : Bool) (said : Assertion) → IsWellSaid said → IsWellFound (if is_asked then Some said else None)
asked_ranged true said ranged = ranged
asked_ranged false said ranged = tt

change_ranged : (side : SceneEdge) (letters : List (List Token)) → IsWellFound (scene_change side letters)
change_ranged side (scene ∷ words ∷ []) = asked_ranged (is_condition (words_in words)) (assertion.SceneChange (record { scene = named_in scene; edge = side; condition = words_in words })) tt
change_ranged side [] = tt
change_ranged side (scene ∷ []) = tt
change_ranged side (scene ∷ words ∷ more ∷ rest) = tt

unless_ranged : (is : Bool) (found : Option Assertion) → IsWellFound found → IsWellFound (if is then found else None)
unless_ranged true found ranged = ranged
unless_ranged false found ranged = tt

understood_ranged : (letters : List (List Token)) → IsWellFound (understands letters)
understood_ranged (texts ∷ meaning ∷ []) =
    unless_ranged (are_choices texts) (understands_so (texts_in texts) meaning)
    (asked_ranged (list_all is_grammar_text (texts_in texts)) (assertion.Understand (record { texts = texts_in texts; meaning = words_in meaning })) tt)
understood_ranged [] = tt
understood_ranged (texts ∷ []) = tt
understood_ranged (texts ∷ meaning ∷ more ∷ rest) = tt

form_ranged : (kinds : List Words) (f : Form) (letters : List (List Token)) → IsWellFound (assertion_of kinds f letters)
unfolding assertion_of
form_ranged kinds form.Description (text ∷ []) = described_ranged (describing_text text)
form_ranged kinds form.UsuallyNumber (property ∷ kind ∷ number ∷ []) = number_ranged number
form_ranged kinds form.NumberOf (property ∷ object ∷ number ∷ []) = number_ranged number
form_ranged kinds form.VariableIs (variable ∷ number ∷ []) = number_ranged number
form_ranged kinds form.DescriptionOf (object ∷ text ∷ []) = object_ranged object (describing_text text)
form_ranged kinds form.DescriptionOf (article ∷ object ∷ text ∷ []) = object_ranged object (describing_text text)
form_ranged kinds form.WayTo (subject ∷ side ∷ room ∷ []) = way_ranged subject (side_direction side) room false
form_ranged kinds form.WayFrom (side ∷ room ∷ subject ∷ []) = way_ranged subject (side_direction side) room true
form_ranged kinds form.DoorTo (door ∷ side ∷ room ∷ other ∷ behind ∷ []) = door_ranged door (side_of (side_direction side) room) (side_of (side_direction other) behind)
form_ranged kinds form.ListedFirst (rule ∷ book ∷ []) = tt
form_ranged kinds form.ListedLast (rule ∷ book ∷ []) = tt
form_ranged kinds form.NotListed (rule ∷ []) = tt
form_ranged kinds (form.Action sort) (name ∷ []) = refl
form_ranged kinds (form.Action sort) (name ∷ noun ∷ []) = ap (nat_le 0) (asked_there noun)
form_ranged kinds (form.Action sort) (name ∷ noun ∷ second ∷ []) = (λ i. nat_le (asked_there second i) (asked_there noun i))
form_ranged kinds (form.ActionOnTwo sort) (name ∷ []) = refl
form_ranged kinds form.Rulebook (name ∷ []) = tt
form_ranged kinds form.Scene (name ∷ []) = tt
form_ranged kinds form.RecurringScene (name ∷ []) = tt
form_ranged kinds form.Understand letters = understood_ranged letters
form_ranged kinds form.SceneBegins letters = change_ranged edge.Begins letters
form_ranged kinds form.SceneEnds letters = change_ranged edge.Ends letters
form_ranged kinds form.ValueKind (name ∷ []) = tt
form_ranged kinds form.Values (plural ∷ values ∷ []) = tt
form_ranged kinds form.HasValue (kind ∷ property ∷ []) = tt
form_ranged kinds form.UsuallyValue (property ∷ kind ∷ value ∷ []) = tt
form_ranged kinds form.ValueOf (property ∷ object ∷ value ∷ []) = tt
form_ranged kinds form.KindOfKind (kind ∷ parent ∷ []) = tt
form_ranged kinds form.CanBe (kind ∷ first ∷ []) = tt
form_ranged kinds form.CanBeEither (kind ∷ first ∷ second ∷ []) = tt
form_ranged kinds form.NumberProperty (kind ∷ property ∷ []) = tt
form_ranged kinds form.Usually (kind ∷ adjectives ∷ []) = tt
form_ranged kinds form.Variable (name ∷ []) = tt
form_ranged kinds (form.Holds relation) (holder ∷ things ∷ []) = tt
form_ranged kinds (form.Held relation) (subjects ∷ holder ∷ []) = tt
form_ranged kinds (form.WhatHeld relation) (subjects ∷ what ∷ holder ∷ []) = tt
form_ranged kinds form.Is (subjects ∷ what ∷ []) = tt
form_ranged kinds _ _ = tt

-- ---- what a part says

abbrev IsWellHeard : Heard → Type 0
IsWellHeard (heard.Says said) = IsWellSaid said
IsWellHeard (heard.Unread line) = Unit {0}
IsWellHeard (heard.Reserved line) = Unit {0}

named_ranged : (line : ℕ) (is_reserved : Bool) (said : Assertion) → IsWellSaid said → IsWellHeard (named_heard line is_reserved said)
named_ranged line true said ranged = tt
named_ranged line false said ranged = ranged

plain_ranged : (line : ℕ) (is_reserved : Bool) (said : Option Assertion) → IsWellFound said → IsWellHeard (plain_heard line is_reserved said)
plain_ranged line is_reserved None ranged = tt
plain_ranged line is_reserved (Some said) ranged = named_ranged line is_reserved said ranged

free_ranged : (line : Option ℕ) (rule : Rule) → IsWellHeard (unless_reserved line (heard.Says (assertion.Rule rule)))
free_ranged None rule = tt
free_ranged (Some line) rule = tt

read_ranged : (line reserved : Option ℕ) (rule : Rule) → IsWellHeard (unless_unread line (unless_reserved reserved (heard.Says (assertion.Rule rule))))
read_ranged None reserved rule = free_ranged reserved rule
read_ranged (Some line) reserved rule = tt

head_ranged : (line : ℕ) (head : Option Head) (phrases : List Phrase) → IsWellHeard (head_heard line head phrases)
head_ranged line None phrases = tt
head_ranged line (Some head) phrases =
    read_ranged (unread_line line head.takes_one phrases) (lower_of (head_reserved line head) (reserved_line phrases))
    (record { book = head.book; subject = head.subject; scene = head.scene; condition = head.condition; name = head.name; body = body_phrases line phrases })

form_heard : (kinds : List Words) (tokens : List Token) (variant : Variant) (letters : List (List Token)) (is_rule : Bool) → IsWellHeard (if is_rule then rule_heard tokens else plain_heard (line_in tokens) (has_reserved_among variant.pieces letters) (assertion_of kinds variant.form letters))
form_heard kinds tokens variant letters true = head_ranged (line_in tokens) (head_in tokens) (body_lines (body_tokens tokens))
form_heard kinds tokens variant letters false = plain_ranged (line_in tokens) (has_reserved_among variant.pieces letters) (assertion_of kinds variant.form letters) (form_ranged kinds variant.form letters)

words_ranged : (kinds : List Words) (tokens : List Token) (said : Assertion) → SaysInWords kinds tokens (heard.Says said) → IsWellSaid said
words_ranged kinds tokens said (inl reads) = subst IsWellHeard (sym reads.says) (form_heard kinds tokens reads.variant reads.letters (is_rule_form reads.variant.form))
words_ranged kinds tokens said (inr unread) = absurd (let e = unread.1 in cc)

same_said : (said other : Assertion) → heard.Says said ≡ heard.Says other → said ≡ other
same_said said other same = cc

part_ranged : (kinds : List Words) (part : Piece) (sentence : Sentence) (kind : PartKind) → Tells kinds kind part.tokens (heard.Says sentence.said) → IsWellSaid sentence.said
part_ranged kinds part sentence Title says = subst IsWellSaid (sym (same_said sentence.said assertion.Aside says)) tt
part_ranged kinds part sentence Heading says = subst IsWellSaid (sym (same_said sentence.said assertion.Aside says)) tt
part_ranged kinds part sentence Said says = words_ranged kinds part.tokens sentence.said says

abbrev AreWellSaid : List Sentence → Type 0
AreWellSaid [] = Unit {0}
AreWellSaid (sentence ∷ sentences) = IsWellSaid sentence.said × AreWellSaid sentences

parts_ranged : (kinds : List Words) (parts : List Piece) (sentences : List Sentence) → AllZip (IsSentence kinds) parts sentences → AreWellSaid sentences
parts_ranged kinds [] [] said = tt
parts_ranged kinds [] (sentence ∷ sentences) said = absurd said
parts_ranged kinds (part ∷ parts) [] said = absurd said
parts_ranged kinds (part ∷ parts) (sentence ∷ sentences) said =
    (part_ranged kinds part sentence part.kind (said.0).says, parts_ranged kinds parts sentences said.1)

said_well : (source : List ℕ) (sentences : List Sentence) → Says source sentences → AreWellSaid sentences
said_well source sentences says = parts_ranged (kinds_of_value (parts_of says.tokens)) (parts_of says.tokens) sentences (says.reads).said

-- ---- what a source says

ranged_said : (said : Assertion) → IsWellSaid said → IsRangedSaid said
ranged_said (assertion.NumberOf property object number) well = well
ranged_said (assertion.UsuallyNumber property kind number) well = well
ranged_said (assertion.VariableIs variable number) well = well
ranged_said _ well = tt

ranged_each : (sentences : List Sentence) → AreWellSaid sentences → AreRangedSentences sentences
ranged_each [] well = tt
ranged_each (sentence ∷ sentences) well = (ranged_said sentence.said well.0, ranged_each sentences well.1)

pub says_ranged : (source : List ℕ) (sentences : List Sentence) → Says source sentences → AreRangedSentences sentences
says_ranged source sentences says = ranged_each sentences (said_well source sentences says)

abbrev HasFirstNoun : Option ActionAt → Type 0
HasFirstNoun None = Unit {0}
HasFirstNoun (Some action) = has_first_noun action.said.needs ≡ true

first_noun_said : (line : ℕ) (said : Assertion) → IsWellSaid said → HasFirstNoun (action_at line said)
first_noun_said line (assertion.Action declaration) well = well
first_noun_said line _ well = tt

abbrev needs_of : List ActionAt → List Needs
needs_of actions = map (λ action. action.said.needs) actions

one_more : (found : Option ActionAt) (more : List ActionAt) → HasFirstNoun found → list_all has_first_noun (needs_of more) ≡ true → list_all has_first_noun (needs_of (cons_option found more)) ≡ true
one_more None more first all = all
one_more (Some action) more first all = and_from (has_first_noun action.said.needs) (list_all has_first_noun (needs_of more)) first all

first_nouns_each : (sentences : List Sentence) → AreWellSaid sentences → list_all has_first_noun (needs_of (actions_declared sentences)) ≡ true
first_nouns_each [] well = refl
first_nouns_each (sentence ∷ sentences) well =
    one_more (action_at sentence.line sentence.said) (actions_declared sentences) (first_noun_said sentence.line sentence.said well.0) (first_nouns_each sentences well.1)

pub says_first_nouns : (source : List ℕ) (sentences : List Sentence) → Says source sentences → list_all has_first_noun (actions_said sentences) ≡ true
unfolding actions_said
says_first_nouns source sentences says = first_nouns_each sentences (said_well source sentences says)
