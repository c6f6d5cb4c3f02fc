-- The sentences that tokens spell, or the refusal that stands.
use Rattle.std.specs.Prelude.{◌≡◌, ◌⊎◌, ℕ, true, List}
use Rattle.std.specs.List.{AllZip, list_all, list_any}
use Rattle.world_meaning.specs.declared.fault.Fault.{Fault}
use Rattle.world_meaning.specs.declared.fault.FaultCode.{FaultCode}
use Rattle.world_meaning.specs.declared.fault.FaultCode.TheVariants.{NumberOutOfRange, NotUnderstood, ReservedWord, Memory}
use Rattle.i7_lexer.specs.declared.token.Token.{Token}
use Rattle.i7_sentences.specs.Cuts.{Piece, line_in, line_of, parts_of}
use Rattle.i7_sentences.specs.Forms.{Variant}
use Rattle.i7_sentences.specs.KindsOfValue.{kinds_of_value}
use Rattle.i7_sentences.specs.Lowest.{IsLowest, IsNowhere}
use Rattle.i7_sentences.specs.Names.{Words}
use Rattle.i7_sentences.specs.HeardForms.{heard_by}
use Rattle.i7_sentences.specs.Assertions.{is_asserting, is_describing}
use Rattle.i7_sentences.specs.Stretches.{Stretch, holds_bad_literal, stretches_of}
use Rattle.i7_sentences.specs.Understood.{IsUnderstoodBy}
use Rattle.i7_sentences.specs.ValueForms.{IsUnreadWith}
use Rattle.i7_sentences.specs.declared.heard.Heard.{Heard}
use Rattle.i7_sentences.specs.declared.heard.Heard.TheVariants as heard
use Rattle.i7_sentences.specs.declared.part.PartKind.{PartKind}
use Rattle.i7_sentences.specs.declared.part.PartKind.TheVariants.{Title, Heading, Sentence as Said}
use Rattle.i7_sentences.specs.declared.sentence.Assertion.TheVariants.{Aside}
use Rattle.i7_sentences.specs.declared.sentence.Sentence.{Sentence}

-- where these kinds of value are declared, a sentence is understood by a variant of a form, and says what it says by that
pub record Reads (kinds : List Words) (tokens : List Token) (said : Heard) : Type 0 where
  pub variant : Variant
  pub letters : List (List Token)
  pub reading : IsUnderstoodBy kinds tokens variant letters
  pub says : said ≡ heard_by kinds tokens variant letters

-- or no form reads it, and it isn't understood at its line
abbrev pub SaysInWords : List Words → List Token → Heard → Type 0
SaysInWords kinds tokens said = Reads kinds tokens said ⊎ (IsUnreadWith kinds tokens × (said ≡ heard.Unread (line_in tokens)))

-- what a part says, or where it is refused: a title or a heading asserts nothing
abbrev pub Says : List Words → PartKind → List Token → Heard → Type 0
Says kinds Title tokens said = said ≡ heard.Says Aside
Says kinds Heading tokens said = said ≡ heard.Says Aside
Says kinds Said tokens said = SaysInWords kinds tokens said

-- a stretch holds a literal out of range, which is told at its line
pub record HoldsBadLiteral (stretch : Stretch) (line : ℕ) : Type 0 where
  pub holds : list_any holds_bad_literal stretch.tokens ≡ true
  pub line_is : stretch.line ≡ line

abbrev pub HasBadLiteral : List Words → Piece → ℕ → Type 0
HasBadLiteral kinds part line = IsLowest HoldsBadLiteral (stretches_of kinds part) line

abbrev pub IsUnreadAt : List Words → Piece → ℕ → Type 0
IsUnreadAt kinds part line = Says kinds part.kind part.tokens (heard.Unread line)

abbrev pub HasReservedName : List Words → Piece → ℕ → Type 0
HasReservedName kinds part line = Says kinds part.kind part.tokens (heard.Reserved line)

-- a form that is part of the language says something of a part, but for a text that may not describe
abbrev pub IsSpeaking : List Words → Variant → Piece → Type 0
IsSpeaking kinds variant part =
    is_asserting variant.form ≡ true → list_all is_describing part.tokens ≡ true → (line : ℕ) → IsUnreadAt kinds part line → ⊥

pub record IsSentence (kinds : List Words) (part : Piece) (sentence : Sentence) : Type 0 where
  pub says : Says kinds part.kind part.tokens (heard.Says sentence.said)
  pub line_is : sentence.line ≡ line_of part

-- parts are refused with that code at that line; memory may be refused at any parts
abbrev pub Stands : List Words → FaultCode → ℕ → List Piece → Type 0
Stands kinds NumberOutOfRange line parts = IsLowest (HasBadLiteral kinds) parts line
Stands kinds NotUnderstood line parts = IsNowhere (HasBadLiteral kinds) parts × IsLowest (IsUnreadAt kinds) parts line
Stands kinds ReservedWord line parts = IsNowhere (HasBadLiteral kinds) parts × IsNowhere (IsUnreadAt kinds) parts × IsLowest (HasReservedName kinds) parts line
Stands kinds Memory line parts = line ≡ 1
Stands kinds _ line parts = ⊥

abbrev pub IsRefused : List Token → Fault → Type 0
IsRefused tokens fault = Stands (kinds_of_value (parts_of tokens)) fault.code fault.line (parts_of tokens)

-- what the parts say, where these kinds of value are declared: one sentence for each, and nothing in them is refused
pub record AreSentences (kinds : List Words) (parts : List Piece) (sentences : List Sentence) : Type 0 where
  pub in_range : IsNowhere (HasBadLiteral kinds) parts
  pub said : AllZip (IsSentence kinds) parts sentences

-- tokens spell these sentences
abbrev pub HasSentences : List Token → List Sentence → Type 0
HasSentences tokens sentences = AreSentences (kinds_of_value (parts_of tokens)) (parts_of tokens) sentences
