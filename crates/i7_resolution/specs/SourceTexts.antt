-- What the texts say that describe (*Writing with Inform*, 5.1 to 5.7), or why the source is refused for them.
use Rattle.std.specs.Prelude.{◌≡◌, ℕ, true, false, List, [], map, reverse}
use Rattle.std.specs.List.{AllZip}
use Rattle.world_meaning.specs.declared.fault.Fault.{Fault}
use Rattle.world_meaning.specs.declared.fault.FaultCode.{FaultCode}
use Rattle.world_meaning.specs.declared.fault.FaultCode.TheVariants.{TooMany, UnknownName}
use Rattle.i7_sentences.specs.Lowest.{IsLowest, IsNowhere}
use Rattle.i7_sentences.specs.TextPieces.{is_text_read, text_pieces}
use Rattle.i7_sentences.specs.declared.sentence.Sentence.{Sentence}
use Rattle.play_meaning.specs.Meant.{text_meant}
use Rattle.play_meaning.specs.Trees.{Text}
use Rattle.i7_conditions.specs.Scopes.{Scope}
use Rattle.i7_phrases.specs.Texts.{IsText, text_is_over}
use Rattle.i7_rules.specs.Knowns.{Known, scope_among}
use Rattle.i7_resolution.specs.TextList.{TextAt, texts_in}
use Rattle.i7_resolution.specs.declared.source_texts.SourceText.{SourceText}
use Rattle.i7_resolution.specs.declared.source_texts.TextsFound.{TextsFound}
use Rattle.i7_resolution.specs.declared.source_texts.TextsFound.TheVariants as found

-- what the bytes of a text say where words stand for this
pub record SaysIn (s : Scope) (bytes : List ℕ) (text : Text) : Type 0 where
  pub is_read : is_text_read bytes ≡ true
  pub means : IsText s (text_pieces bytes) text

-- around which no repeat is open
abbrev pub Says : Known → List ℕ → Text → Type 0
Says k bytes text = SaysIn (scope_among k []) bytes text

-- ---- what is wrong with a text, and at which line that is told

-- the names allow no reading of it
pub record IsUnknown (k : Known) (t : TextAt) (line : ℕ) : Type 0 where
  pub unread : (text : Text) → Says k t.text text → ⊥
  pub line_is : line ≡ t.line

-- it holds more than the language allows
pub record IsOver (k : Known) (t : TextAt) (line : ℕ) : Type 0 where
  pub text : Text
  pub says : Says k t.text text
  pub over : text_is_over text ≡ true
  pub line_is : line ≡ t.line

-- ---- what is told of all texts

-- they are refused with that code at that line, and with no code before it
abbrev pub Stands : Known → FaultCode → ℕ → List TextAt → Type 0
Stands k UnknownName line texts = IsLowest (IsUnknown k) texts line
Stands k TooMany line texts = IsNowhere (IsUnknown k) texts × IsLowest (IsOver k) texts line
Stands k _ line texts = ⊥

-- what is told of a text
pub record IsTold (k : Known) (t : TextAt) (told : SourceText) : Type 0 where
  pub line : told.line ≡ t.line
  pub says : Says k t.text (text_meant told.text)
  pub within : text_is_over (text_meant told.text) ≡ false

-- nothing refuses these texts, which come with the last first, and so much is told of each
pub record AreTold (k : Known) (texts : List TextAt) (told : List SourceText) : Type 0 where
  pub known : IsNowhere (IsUnknown k) texts
  pub within : IsNowhere (IsOver k) texts
  pub each : AllZip (IsTold k) texts told

abbrev pub AreFound : Known → List TextAt → TextsFound → Type 0
AreFound k texts (found.Says told) = AreTold k texts (reverse told.items)
AreFound k texts (found.Refused fault) = Stands k fault.code fault.line texts

-- what is told of the texts with which sentences describe
abbrev pub IsTextsFound : Known → List Sentence → TextsFound → Type 0
IsTextsFound k sentences = AreFound k (reverse (texts_in sentences))

-- ---- however that is kept

pub record TextMeant : Type 0 where
  pub line : ℕ
  pub text : Text

abbrev pub meant_in : SourceText → TextMeant
meant_in told = record { line = told.line; text = text_meant told.text }

pub data TextsMeant : Type 0 where
  All : List TextMeant → TextsMeant
  Refused : Fault → TextsMeant

abbrev pub texts_meant : TextsFound → TextsMeant
texts_meant (found.Says told) = All (map meant_in told.items)
texts_meant (found.Refused fault) = Refused fault
