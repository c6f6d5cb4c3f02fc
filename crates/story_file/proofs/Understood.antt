-- The texts that describe a tale's objects are understood where nothing refuses the texts of its sentences, and say one thing each.
use Rattle.std.proofs.Common.{◌≡◌, ◌∙◌, ap, refl, subst, sym, Bool, ℕ, suc, List, [], ◌∷◌, ◌++◌, Ok, Some}
use Rattle.std.specs.Prelude.{Option, None, reverse, slice_get}
use Rattle.std.specs.List.{All}
use Rattle.std.proofs.lemmas.List.{append_assoc, reverse-append}
use Rattle.std.proofs.lemmas.Grind.{reverse_onto}
use Rattle.world_meaning.specs.Tale.{description_in, description_of}
use Rattle.world_meaning.specs.declared.tale.Object.{Object}
use Rattle.world_meaning.specs.declared.tale.Tale.{Tale}
use Rattle.i7_kinds.specs.Tales.{tale_said}
use Rattle.i7_kinds.specs.Written.{DescribesWith, DescriptionsAreWritten}
use Rattle.i7_resolution.specs.Resolutions.{IsResolution}
use Rattle.i7_resolution.specs.SourceTexts.{AreTold, IsOver, IsTextsFound, IsUnknown}
use Rattle.i7_resolution.specs.TextList.{TextAt, texts_in, texts_said}
use Rattle.i7_resolution.specs.declared.resolution.Resolution.TheVariants.{Says as Understood}
use Rattle.i7_resolution.specs.declared.resolution.Resolved.{Resolved}
use Rattle.i7_resolution.specs.declared.source_texts.SourceText.{SourceText}
use Rattle.i7_conditions.specs.Scopes.{Scope}
use Rattle.i7_rules.specs.Knowns.{Known, scope_among}
use Rattle.i7_sentences.proofs.Sameness.{all_there}
use Rattle.i7_sentences.specs.declared.sentence.Assertion.{Assertion}
use Rattle.i7_sentences.specs.declared.sentence.Assertion.TheVariants as asserts
use Rattle.i7_sentences.specs.declared.sentence.Sentence.{Sentence}
use Rattle.story_file.proofs.Resolving.{said_of}
use Rattle.story_file.specs.Texts.{AreReadable, CanBeRead, IsReadable}

-- ---- where a text stands

-- it is among the texts of sentences
record IsAmong (texts : List TextAt) (bytes : List ℕ) : Type 0 where
  before : List TextAt
  text : TextAt
  behind : List TextAt
  parts : texts ≡ before ++ text ∷ behind
  bytes_are : text.text ≡ bytes

abbrev text_at : ℕ → List ℕ → TextAt
text_at line text = record { line = line; text = text }

-- a sentence that describes with a text has that text alone
alone : (line : ℕ) (said : Assertion) (bytes : List ℕ) → DescribesWith bytes said → texts_said (record { said = said; line = line }) ≡ text_at line bytes ∷ []
alone line (asserts.Description text) bytes is = ap (λ t. text_at line t ∷ []) is
alone line (asserts.DescriptionOf object text) bytes is = ap (λ t. text_at line t ∷ []) is
alone line _ bytes is = absurd is

further : (one : TextAt) (texts : List TextAt) (bytes : List ℕ) → IsAmong texts bytes → IsAmong (one ∷ texts) bytes
further one texts bytes among = record {
  before = one ∷ among.before;
  text = among.text;
  behind = among.behind;
  parts = ap (λ l. one ∷ l) among.parts;
  bytes_are = among.bytes_are;
}

behind_all : (front texts : List TextAt) (bytes : List ℕ) → IsAmong texts bytes → IsAmong (front ++ texts) bytes
behind_all [] texts bytes among = among
behind_all (one ∷ front) texts bytes among = further one (front ++ texts) bytes (behind_all front texts bytes among)

among_sentences : (before behind : List Sentence) (sentence : Sentence) (bytes : List ℕ) → DescribesWith bytes sentence.said → IsAmong (texts_in (before ++ sentence ∷ behind)) bytes
among_sentences [] behind sentence bytes is = record {
  before = [];
  text = text_at sentence.line bytes;
  behind = texts_in behind;
  parts = ap (λ l. l ++ texts_in behind) (alone sentence.line sentence.said bytes is);
  bytes_are = refl;
}
among_sentences (one ∷ before) behind sentence bytes is = behind_all (texts_said one) (texts_in (before ++ sentence ∷ behind)) bytes (among_sentences before behind sentence bytes is)

turned : (texts : List TextAt) (bytes : List ℕ) → IsAmong texts bytes → IsAmong (reverse texts) bytes
turned texts bytes among = record {
  before = reverse among.behind;
  text = among.text;
  behind = reverse among.before;
  parts =
      ap reverse among.parts ∙ reverse-append among.before (among.text ∷ among.behind)
      ∙ ap (λ l. l ++ reverse among.before) (reverse_onto among.behind among.text []) ∙ append_assoc (reverse among.behind) (among.text ∷ []) (reverse among.before);
  bytes_are = among.bytes_are;
}

-- ---- what is known of it

abbrev Never : (TextAt → ℕ → Type 0) → TextAt → Type 0
Never Bad t = (line : ℕ) → Bad t line → ⊥

can_be_read : (k : Known) (texts : List TextAt) (told : List SourceText) (bytes : List ℕ) → AreTold k texts told → IsAmong texts bytes → CanBeRead (scope_among k []) bytes
can_be_read k texts told bytes are among =
    let known = all_there (Never (IsUnknown k)) among.before among.text among.behind (subst (All (Never (IsUnknown k))) among.parts are.known) in
    let within = all_there (Never (IsOver k)) among.before among.text among.behind (subst (All (Never (IsOver k))) among.parts are.within) in
    subst (CanBeRead (scope_among k [])) among.bytes_are (record {
      known = λ unread. known among.text.line (record { unread = unread; line_is = refl });
      within = λ text says over. within among.text.line (record { text = text; says = says; over = over; line_is = refl });
    })

-- ---- the objects of a tale

by_number : (s : Scope) (objects : List Object) → ((o : ℕ) (object : Object) → slice_get objects o ≡ Some object → IsReadable s object.description) → AreReadable s objects
by_number s [] each = tt
by_number s (object ∷ objects) each = (each 0 object refl, by_number s objects (λ o other at. each (suc o) other at))

readable_by : (s : Scope) (description : Option (List ℕ)) → ((bytes : List ℕ) → description ≡ Some bytes → CanBeRead s bytes) → IsReadable s description
readable_by s None each = tt
readable_by s (Some bytes) each = each bytes refl

pub readable : DescriptionsAreWritten → (k : Known) (recurring : List Bool) (sentences : List Sentence) (tale : Tale) (resolved : Resolved) → tale_said sentences ≡ Ok tale → IsResolution k recurring sentences (Understood resolved) → AreReadable (scope_among k []) tale.objects
readable law k recurring sentences tale resolved means is =
    let told : AreTold k (reverse (texts_in sentences)) (reverse resolved.texts.items) = subst (IsTextsFound k sentences) (said_of k recurring sentences resolved is).texts is.is_joined.texts_are in
    by_number (scope_among k []) tale.objects (λ o object at. readable_by (scope_among k []) object.description (λ bytes described.
    let here : description_of tale o ≡ Some bytes = ap description_in at ∙ described in
    let written = law sentences tale o bytes means here in
    can_be_read k (reverse (texts_in sentences)) (reverse resolved.texts.items) bytes told
    (turned (texts_in sentences) bytes (subst (λ l. IsAmong (texts_in l) bytes) (sym written.parts) (among_sentences written.before written.rest written.sentence bytes written.describes)))))
