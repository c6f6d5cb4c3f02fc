-- A form that is read says something wherever it fits.
use Rattle.std.proofs.Common.{◌≡◌, inl, inr, ℕ, Bool, true, false, not, ◌&&◌, ◌||◌, List, [], ◌∷◌, ◌++◌, refl, ap, sym, ◌∙◌, subst}
use Rattle.std.specs.Prelude.{map, Option, Some, None, is_some, if◌then◌else◌}
use Rattle.std.specs.List.{list_all}
use Rattle.std.proofs.lemmas.List.Folds.{list_all-append}
use Rattle.std.proofs.lemmas.Bool.{false≢true, and_parts}
use Rattle.world_meaning.specs.declared.direction.Direction.{Direction}
use Rattle.world_meaning.specs.declared.direction.Direction.TheVariants.{Up, Down}
use Rattle.world_meaning.specs.declared.place.Rel.TheVariants as Rel
use Rattle.i7_lexer.specs.declared.token.Token.{Token}
use Rattle.i7_lexer.specs.declared.token.TokenKind.{TokenKind}
use Rattle.i7_lexer.specs.declared.token.TokenKind.TheVariants.{Text, Word as AWord, Mark}
use Rattle.i7_sentences.specs.Assertions.{assertion_of, described, described_object, door_between, is_asserting, is_describing, is_describing_kind, describing_text, describing_text_in, side_direction, side_of, way_assertion}
use Rattle.i7_sentences.specs.Classes.{IsOf, is_direction, is_behind, is_vertical}
use Rattle.i7_sentences.specs.Cuts.{Piece as Part, line_in}
use Rattle.i7_sentences.specs.Forms.{Fits, IsReading, Variant, higher_forms, lower_forms, middle_forms}
use Rattle.i7_sentences.specs.Keywords.{is_sign}
use Rattle.i7_sentences.specs.Names.{Words}
use Rattle.i7_sentences.specs.HeardForms.{heard_by, named_heard, plain_heard}
use Rattle.i7_sentences.specs.Reserved.{has_reserved_among}
use Rattle.i7_sentences.specs.RuleHeads.{is_rule_form}
use Rattle.i7_sentences.specs.Sources.{IsSpeaking, Says, SaysInWords}
use Rattle.i7_sentences.specs.Understood.{IsUnderstoodBy, is_shaped, is_unread}
use Rattle.i7_sentences.specs.ValueForms.{IsReadLater, IsReadWith, IsValueReading, ValueForm, value_forms}
use Rattle.i7_sentences.specs.Words.{direction_named, is_text_kind, word_of}
use Rattle.i7_sentences.specs.declared.action_form.ActionSort.TheVariants as sort
use Rattle.i7_sentences.specs.declared.action_form.TheConstants.{ACTION_FORMS}
use Rattle.i7_sentences.specs.declared.class.Class.{Class}
use Rattle.i7_sentences.specs.declared.class.Class.TheVariants as class
use Rattle.i7_sentences.specs.declared.form.Form.{Form}
use Rattle.i7_sentences.specs.declared.form.Form.TheVariants as form
use Rattle.i7_sentences.specs.declared.form.Piece.{Piece}
use Rattle.i7_sentences.specs.declared.form.Piece.TheVariants.{Word, Letter}
use Rattle.i7_sentences.specs.declared.keyword.Keyword.TheVariants as keyword
use Rattle.i7_sentences.specs.declared.heard.Heard.TheVariants as heard
use Rattle.i7_sentences.specs.declared.part.PartKind.{PartKind}
use Rattle.i7_sentences.specs.declared.part.PartKind.TheVariants.{Title, Heading, Sentence as Said}
use Rattle.i7_sentences.specs.declared.sentence.Assertion.{Assertion}
use Rattle.i7_sentences.proofs.Ends.{and_left}
use Rattle.i7_sentences.proofs.Understood.{understood_or_not, understood_same}

abbrev Each : {X : Type 0} → (X → Type 0) → List X → Type 0
Each P [] = Unit {0}
Each P (x ∷ xs) = P x × Each P xs

each_there : {X : Type 0} (P : X → Type 0) (xs : List X) (x : X) (more : List X) → Each P (xs ++ x ∷ more) → P x
each_there P [] x more each = each.0
each_there P (y ∷ xs) x more each = each_there P xs x more each.1

-- the classes of the letters among pieces
abbrev classes_of : List Piece → List Class
classes_of [] = []
classes_of (Word keyword ∷ pieces) = classes_of pieces
classes_of (Letter class ∷ pieces) = class ∷ classes_of pieces

abbrev AreDescribing : List Token → Type 0
AreDescribing tokens = list_all is_describing tokens ≡ true

record IsFirst (class : Class) (letter : List Token) (Others : Type 0) : Type 0 where
  of_class : IsOf class letter
  plain : AreDescribing letter
  others : Others

-- letters of these classes, whose texts may describe
abbrev AreOf : List Class → List (List Token) → Type 0
AreOf [] [] = Unit {0}
AreOf [] (letter ∷ letters) = ⊥
AreOf (class ∷ classes) [] = ⊥
AreOf (class ∷ classes) (letter ∷ letters) = IsFirst class letter (AreOf classes letters)

describing_parts : (xs ys tokens : List Token) → tokens ≡ xs ++ ys → AreDescribing tokens → AreDescribing xs × AreDescribing ys
describing_parts xs ys tokens parts plain = and_parts (list_all is_describing xs) (list_all is_describing ys) (sym (list_all-append is_describing xs ys) ∙ ap (list_all is_describing) (sym parts) ∙ plain)

letters_are : (pieces : List Piece) (tokens : List Token) (letters : List (List Token)) → Fits pieces tokens letters → AreDescribing tokens → AreOf (classes_of pieces) letters
letters_are [] tokens letters fits plain = subst (AreOf []) (sym fits.1) tt
letters_are (Word keyword ∷ pieces) tokens letters fits plain =
    letters_are pieces fits.rest letters fits.behind (describing_parts (fits.word ∷ []) fits.rest tokens fits.parts plain).1
letters_are (Letter class ∷ pieces) tokens letters fits plain =
    let plains = describing_parts fits.words fits.rest tokens fits.parts plain in
    subst (AreOf (class ∷ classes_of pieces)) (sym fits.keeps) (record { of_class = fits.is_of_class; plain = plains.0; others = letters_are pieces fits.rest fits.others fits.behind plains.1 })

-- whatever kinds of value are declared
abbrev IsSaid : Form → List (List Token) → Type 0
IsSaid form letters = (kinds : List Words) → is_some (assertion_of kinds form letters) ≡ true

abbrev SpeaksOf : Form → List Class → Type 0
SpeaksOf form classes = (letters : List (List Token)) → AreOf classes letters → is_asserting form ≡ true → IsSaid form letters

abbrev Speaks : Variant → Type 0
Speaks variant = SpeaksOf variant.form (classes_of variant.pieces)

never : {P : Type 0} → false ≡ true → P
never e = absurd (false≢true e)

one : (first : Class) (form : Form) → ((a : List Token) → IsOf first a → AreDescribing a → IsSaid form (a ∷ [])) → SpeaksOf form (first ∷ [])
one first form says [] are asserts = absurd are
one first form says (a ∷ []) are asserts = says a are.of_class are.plain
one first form says (a ∷ b ∷ more) are asserts = absurd are.others

two : (first second : Class) (form : Form) → ((a b : List Token) → IsOf first a → IsOf second b → AreDescribing b → IsSaid form (a ∷ b ∷ [])) → SpeaksOf form (first ∷ second ∷ [])
two first second form says [] are asserts = absurd are
two first second form says (a ∷ []) are asserts = absurd are.others
two first second form says (a ∷ b ∷ []) are asserts = says a b are.of_class are.others.of_class are.others.plain
two first second form says (a ∷ b ∷ c ∷ more) are asserts = absurd are.others.others

three : (first second third : Class) (form : Form) → ((a b c : List Token) → IsOf first a → IsOf second b → IsOf third c → AreDescribing c → IsSaid form (a ∷ b ∷ c ∷ [])) → SpeaksOf form (first ∷ second ∷ third ∷ [])
three first second third form says [] are asserts = absurd are
three first second third form says (a ∷ []) are asserts = absurd are.others
three first second third form says (a ∷ b ∷ []) are asserts = absurd are.others.others
three first second third form says (a ∷ b ∷ c ∷ []) are asserts = says a b c are.of_class are.others.of_class are.others.others.of_class are.others.others.plain
three first second third form says (a ∷ b ∷ c ∷ d ∷ more) are asserts = absurd are.others.others.others

five : (first second third fourth fifth : Class) (form : Form) → ((a b c d e : List Token) → IsOf second b → IsOf fourth d → IsSaid form (a ∷ b ∷ c ∷ d ∷ e ∷ [])) → SpeaksOf form (first ∷ second ∷ third ∷ fourth ∷ fifth ∷ [])
five first second third fourth fifth form says [] are asserts = absurd are
five first second third fourth fifth form says (a ∷ []) are asserts = absurd are.others
five first second third fourth fifth form says (a ∷ b ∷ []) are asserts = absurd are.others.others
five first second third fourth fifth form says (a ∷ b ∷ c ∷ []) are asserts = absurd are.others.others.others
five first second third fourth fifth form says (a ∷ b ∷ c ∷ d ∷ []) are asserts = absurd are.others.others.others.others
five first second third fourth fifth form says (a ∷ b ∷ c ∷ d ∷ e ∷ []) are asserts = says a b c d e are.others.of_class are.others.others.others.of_class
five first second third fourth fifth form says (a ∷ b ∷ c ∷ d ∷ e ∷ f ∷ more) are asserts = absurd are.others.others.others.others.others

-- a text that may describe is one that does
kind_describes : (kind : TokenKind) → is_text_kind kind ≡ true → is_describing_kind kind ≡ true → is_some (describing_text_in kind) ≡ true
kind_describes (Text text) is plain = rw plain refl
kind_describes (AWord word) is plain = absurd (false≢true is)
kind_describes (Mark mark) is plain = absurd (false≢true is)

text_describes : (words : List Token) → IsOf class.Text words → AreDescribing words → is_some (describing_text words) ≡ true
text_describes words is plain =
    ap (λ tokens. is_some (describing_text tokens)) is.alone
    ∙ kind_describes is.token.kind is.passes (and_parts (is_describing is.token) true (ap (list_all is_describing) (sym is.alone) ∙ plain)).0

described_said : (text : Option (List ℕ)) → is_some text ≡ true → is_some (described text) ≡ true
described_said None is = is
described_said (Some text) is = refl

object_said : (object : List Token) (text : Option (List ℕ)) → is_some text ≡ true → is_some (described_object object text) ≡ true
object_said object None is = is
object_said object (Some text) is = refl

way_said : (subject : List Token) (direction : Option Direction) (room : List Token) (first : Bool) → is_some direction ≡ true → is_some (way_assertion subject direction room first) ≡ true
way_said subject None room first is = is
way_said subject (Some direction) room first is = refl

door_said : (door room behind : List Token) (side other : Option Direction) → is_some side ≡ true → is_some other ≡ true → is_some (door_between door (side_of side room) (side_of other behind)) ≡ true
door_said door room behind None other is also = absurd (false≢true is)
door_said door room behind (Some side) None is also = absurd (false≢true also)
door_said door room behind (Some side) (Some other) is also = refl

-- a side has a direction
vertical_there : (above below : Bool) (named : Option Direction) → (above || below) ≡ true → is_some (if above then Some Up else (if below then Some Down else named)) ≡ true
vertical_there true below named is = refl
vertical_there false true named is = refl
vertical_there false false named is = absurd (false≢true is)

named_there : (above below : Bool) (named : Option Direction) → is_some named ≡ true → is_some (if above then Some Up else (if below then Some Down else named)) ≡ true
named_there true below named is = refl
named_there false true named is = refl
named_there false false named is = is

side_there : (words : List Token) → IsOf class.Side words → is_some (side_direction words) ≡ true
unfolding is_vertical is_direction
side_there [] is = absurd (false≢true is)
side_there (token ∷ []) is = vertical_there (is_sign keyword.Above token) (is_sign keyword.Below token) (direction_named (word_of token)) is
side_there (token ∷ next ∷ []) is =
    let found = and_parts (not (is_vertical token) && is_direction token) (is_behind token next) is in
    named_there (is_sign keyword.Above token) (is_sign keyword.Below token) (direction_named (word_of token)) (and_parts (not (is_vertical token)) (is_direction token) found.0).1
side_there (token ∷ next ∷ third ∷ more) is = absurd (false≢true is)

actions_speak : Each Speaks (map (λ variant. record { form = variant.0; pieces = variant.1.now }) ACTION_FORMS.now)
unfolding assertion_of
actions_speak = (
  one _ (form.Action sort.InWorld) (λ a is plain kinds. refl),
  (
    two _ _ (form.Action sort.InWorld) (λ a b first second plain kinds. refl),
    (
      three _ _ _ (form.Action sort.InWorld) (λ a b c first second third plain kinds. refl),
      (
        one _ (form.ActionOnTwo sort.InWorld) (λ a is plain kinds. refl),
        (
          one _ (form.Action sort.InLight) (λ a is plain kinds. refl),
          (
            two _ _ (form.Action sort.InLight) (λ a b first second plain kinds. refl),
            (
              three _ _ _ (form.Action sort.InLight) (λ a b c first second third plain kinds. refl),
              (
                one _ (form.ActionOnTwo sort.InLight) (λ a is plain kinds. refl),
                (
                  one _ (form.Action sort.OutOfWorld) (λ a is plain kinds. refl),
                  (
                    one _ (form.Action sort.OutOfWorld) (λ a is plain kinds. refl),
                    (
                      two _ _ (form.Action sort.OutOfWorld) (λ a b first second plain kinds. refl),
                      (
                        three _ _ _ (form.Action sort.OutOfWorld) (λ a b c first second third plain kinds. refl),
                        (
                          one _ (form.ActionOnTwo sort.OutOfWorld) (λ a is plain kinds. refl),
                          tt,
                        ),
                      ),
                    ),
                  ),
                ),
              ),
            ),
          ),
        ),
      ),
    ),
  ),
)

lower_speak : Each (Each Speaks) lower_forms
unfolding lower_forms assertion_of
lower_speak = ((one _ form.Description (λ a is plain kinds. described_said (describing_text a) (text_describes a is plain)), tt), ((λ letters are. never, tt), ((λ letters are. never, tt), ((λ letters are. never, tt), ((λ letters are. never, tt), ((λ letters are. never, tt), ((λ letters are. never, tt), ((λ letters are. never, tt), ((λ letters are. never, (λ letters are. never, tt)), ((λ letters are. never, (λ letters are. never, tt)), ((λ letters are. never, (λ letters are. never, tt)), ((λ letters are. never, (λ letters are. never, tt)), ((λ letters are. never, (λ letters are. never, tt)), ((λ letters are. never, (λ letters are. never, tt)), tt))))))))))))))

middle_speak : Each (Each Speaks) middle_forms
unfolding middle_forms assertion_of
middle_speak = ((two _ _ form.ListedFirst (λ a b first second plain kinds. refl), (two _ _ form.ListedLast (λ a b first second plain kinds. refl), (one _ form.NotListed (λ a is plain kinds. refl), tt))), (actions_speak, ((one _ form.Rulebook (λ a is plain kinds. refl), tt), ((one _ form.Scene (λ a is plain kinds. refl), (one _ form.RecurringScene (λ a is plain kinds. refl), tt)), tt))))

higher_speak : Each (Each Speaks) higher_forms
unfolding higher_forms assertion_of
higher_speak = ((two _ _ form.KindOfKind (λ a b first second plain kinds. refl), tt), ((two _ _ form.CanBe (λ a b first second plain kinds. refl), (three _ _ _ form.CanBeEither (λ a b c first second third plain kinds. refl), tt)), ((two _ _ form.NumberProperty (λ a b first second plain kinds. refl), tt), ((two _ _ form.Usually (λ a b first second plain kinds. refl), (three _ _ _ form.UsuallyNumber (λ a b c first second third plain kinds. refl), tt)), ((one _ form.Variable (λ a is plain kinds. refl), tt), ((two _ _ form.DescriptionOf (λ a b first second plain kinds. object_said a (describing_text b) (text_describes b second plain)), (three _ _ _ form.DescriptionOf (λ a b c first second third plain kinds. object_said b (describing_text c) (text_describes c third plain)), tt)), ((three _ _ _ form.NumberOf (λ a b c first second third plain kinds. refl), tt), ((five _ _ _ _ _ form.DoorTo (λ a b c d e side other kinds. door_said a c e (side_direction b) (side_direction d) (side_there b side) (side_there d other)), (three _ _ _ form.WayTo (λ a b c first side third plain kinds. way_said a (side_direction b) c false (side_there b side)), (three _ _ _ form.WayFrom (λ a b c side second third plain kinds. way_said c (side_direction a) b true (side_there a side)), tt))), ((two _ _ (form.Holds Rel.Carried) (λ a b first second plain kinds. refl), (two _ _ (form.Holds Rel.Worn) (λ a b first second plain kinds. refl), (two _ _ (form.Holds Rel.In) (λ a b first second plain kinds. refl), (two _ _ (form.Holds Rel.On) (λ a b first second plain kinds. refl), tt)))), ((two _ _ form.VariableIs (λ a b first second plain kinds. refl), (two _ _ (form.Held Rel.In) (λ a b first second plain kinds. refl), (two _ _ (form.Held Rel.On) (λ a b first second plain kinds. refl), (two _ _ (form.Held Rel.Carried) (λ a b first second plain kinds. refl), (two _ _ (form.Held Rel.Worn) (λ a b first second plain kinds. refl), (two _ _ (form.Held Rel.Part) (λ a b first second plain kinds. refl), tt)))))), ((three _ _ _ (form.WhatHeld Rel.In) (λ a b c first second third plain kinds. refl), (three _ _ _ (form.WhatHeld Rel.On) (λ a b c first second third plain kinds. refl), (three _ _ _ (form.WhatHeld Rel.Carried) (λ a b c first second third plain kinds. refl), (three _ _ _ (form.WhatHeld Rel.Worn) (λ a b c first second third plain kinds. refl), (three _ _ _ (form.WhatHeld Rel.Part) (λ a b c first second third plain kinds. refl), tt))))), ((two _ _ form.Is (λ a b first second plain kinds. refl), tt), tt))))))))))))

abbrev ValueSpeaks : ValueForm → Type 0
ValueSpeaks form = Speaks form.variant

values_speak : Each ValueSpeaks value_forms
unfolding value_forms assertion_of
values_speak = (one _ form.ValueKind (λ a is plain kinds. refl), (two _ _ form.Values (λ a b first second plain kinds. refl), (two _ _ form.HasValue (λ a b first second plain kinds. refl), (three _ _ _ form.UsuallyValue (λ a b c first second third plain kinds. refl), (three _ _ _ form.ValueOf (λ a b c first second third plain kinds. refl), tt)))))

speaks : (forms : List (List Variant)) (tokens : List Token) (variant : Variant) (letters : List (List Token)) → Each (Each Speaks) forms → IsReading forms tokens variant letters → is_asserting variant.form ≡ true → AreDescribing tokens → IsSaid variant.form letters
speaks forms tokens variant letters all reading asserts plain =
    let form = each_there (Each Speaks) reading.lower reading.variants reading.higher (subst (Each (Each Speaks)) reading.place all) in
    let own = each_there Speaks reading.fit.before variant reading.fit.after (subst (Each Speaks) reading.fit.place form) in
    own letters (letters_are variant.pieces tokens letters reading.fit.fits plain) asserts

value_speaks : (kinds : List Words) (tokens : List Token) (variant : Variant) (letters : List (List Token)) → IsValueReading kinds tokens variant letters → is_asserting variant.form ≡ true → AreDescribing tokens → IsSaid variant.form letters
value_speaks kinds tokens variant letters read asserts plain =
    let own = each_there ValueSpeaks read.reads.lower read.form read.reads.higher (subst (Each ValueSpeaks) read.reads.place values_speak) in
    subst (λ (v : Variant). IsSaid v.form letters) (sym read.is_variant)
    (own letters (letters_are read.form.variant.pieces tokens letters read.reads.fits.fits plain) (subst (λ (v : Variant). is_asserting v.form ≡ true) read.is_variant asserts))

speaks_later : (kinds : List Words) (tokens : List Token) (variant : Variant) (letters : List (List Token)) → IsReadLater kinds tokens variant letters → is_asserting variant.form ≡ true → AreDescribing tokens → IsSaid variant.form letters
speaks_later kinds tokens variant letters (inl reading) asserts plain = speaks middle_forms tokens variant letters middle_speak reading asserts plain
speaks_later kinds tokens variant letters (inr (inl read)) asserts plain = value_speaks kinds tokens variant letters read.1 asserts plain
speaks_later kinds tokens variant letters (inr (inr reading)) asserts plain = speaks higher_forms tokens variant letters higher_speak reading.2 asserts plain

speaks_with : (kinds : List Words) (tokens : List Token) (variant : Variant) (letters : List (List Token)) → IsReadWith kinds tokens variant letters → is_asserting variant.form ≡ true → AreDescribing tokens → IsSaid variant.form letters
speaks_with kinds tokens variant letters (inl reading) asserts plain = speaks lower_forms tokens variant letters lower_speak reading asserts plain
speaks_with kinds tokens variant letters (inr reading) asserts plain = speaks_later kinds tokens variant letters reading.1 asserts plain

-- a form that asserts is no rule's
no_rule : (form : Form) → is_asserting form ≡ true → is_rule_form form ≡ false
no_rule form.BeforeRule asserts = absurd (false≢true asserts)
no_rule form.InsteadRule asserts = absurd (false≢true asserts)
no_rule form.CheckRule asserts = absurd (false≢true asserts)
no_rule form.CarryOutRule asserts = absurd (false≢true asserts)
no_rule form.AfterRule asserts = absurd (false≢true asserts)
no_rule form.ReportRule asserts = absurd (false≢true asserts)
no_rule form.EveryTurnRule asserts = absurd (false≢true asserts)
no_rule form.PlayBeginsRule asserts = absurd (false≢true asserts)
no_rule form.SceneBeginsRule asserts = absurd (false≢true asserts)
no_rule form.SceneEndsRule asserts = absurd (false≢true asserts)
no_rule form.OwnRule asserts = absurd (false≢true asserts)
no_rule _ asserts = refl

-- nor one whose letters have a shape
no_shape : (form : Form) → is_asserting form ≡ true → is_shaped form ≡ false
no_shape form.SceneBegins asserts = absurd (false≢true asserts)
no_shape form.SceneEnds asserts = absurd (false≢true asserts)
no_shape other asserts = no_rule other asserts

speaks_so : (kinds : List Words) (tokens : List Token) (variant : Variant) (letters : List (List Token)) → IsUnderstoodBy kinds tokens variant letters → is_asserting variant.form ≡ true → AreDescribing tokens → IsSaid variant.form letters
speaks_so kinds tokens variant letters (inl kept) asserts plain = speaks_with kinds tokens variant letters kept.0 asserts plain
speaks_so kinds tokens variant letters (inr (inl taken)) asserts plain = speaks_later kinds tokens variant letters taken.1 asserts plain
speaks_so kinds tokens variant letters (inr (inr left)) asserts plain =
    absurd (false≢true (sym (no_shape variant.form asserts) ∙ and_left (is_shaped variant.form) (is_unread (heard_by kinds tokens variant letters)) left.0.1))

named_read : (line at : ℕ) (is_reserved : Bool) (said : Assertion) → named_heard line is_reserved said ≡ heard.Unread at → ⊥
named_read line at true said is = cc
named_read line at false said is = cc

plain_read : (line at : ℕ) (is_reserved : Bool) (said : Option Assertion) → is_some said ≡ true → plain_heard line is_reserved said ≡ heard.Unread at → ⊥
plain_read line at is_reserved None there is = false≢true there
plain_read line at is_reserved (Some said) there is = named_read line at is_reserved said is

by_form : (kinds : List Words) (tokens : List Token) (variant : Variant) (letters : List (List Token)) → is_asserting variant.form ≡ true → heard_by kinds tokens variant letters ≡ plain_heard (line_in tokens) (has_reserved_among variant.pieces letters) (assertion_of kinds variant.form letters)
by_form kinds tokens variant letters asserts = rw (no_rule variant.form asserts) refl

words_read : (kinds : List Words) (tokens : List Token) (variant : Variant) (letters : List (List Token)) (line : ℕ) → IsUnderstoodBy kinds tokens variant letters → is_asserting variant.form ≡ true → AreDescribing tokens → SaysInWords kinds tokens (heard.Unread line) → ⊥
words_read kinds tokens variant letters line reading asserts plain (inl reads) =
    let same = understood_same kinds tokens reads.variant variant reads.letters letters reads.reading reading in
    plain_read (line_in tokens) line (has_reserved_among variant.pieces letters) (assertion_of kinds variant.form letters) (speaks_so kinds tokens variant letters reading asserts plain kinds)
    (sym (by_form kinds tokens variant letters asserts) ∙ sym (λ i. heard_by kinds tokens (same.0 i) (same.1 i)) ∙ sym reads.says)
words_read kinds tokens variant letters line reading asserts plain (inr unread) = understood_or_not kinds tokens variant letters reading unread.0

kind_read : (kinds : List Words) (kind : PartKind) (tokens : List Token) (variant : Variant) (letters : List (List Token)) (line : ℕ) → IsUnderstoodBy kinds tokens variant letters → is_asserting variant.form ≡ true → AreDescribing tokens → Says kinds kind tokens (heard.Unread line) → ⊥
kind_read kinds Title tokens variant letters line reading asserts plain says = cc
kind_read kinds Heading tokens variant letters line reading asserts plain says = cc
kind_read kinds Said tokens variant letters line reading asserts plain says = words_read kinds tokens variant letters line reading asserts plain says

pub never_silent : (kinds : List Words) (part : Part) (variant : Variant) (letters : List (List Token)) → IsUnderstoodBy kinds part.tokens variant letters → IsSpeaking kinds variant part
never_silent kinds part variant letters reading asserts plain line says = kind_read kinds part.kind part.tokens variant letters line reading asserts plain says
