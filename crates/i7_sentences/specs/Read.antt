-- Reading a source's parts from the first to the last.
use Rattle.std.specs.Prelude.{◌≡◌, ℕ, List, Option, Some, None, Result, Ok, Err}
use Rattle.std.specs.List.{filter_map}
use Rattle.world_meaning.specs.declared.fault.Fault.{Fault}
use Rattle.world_meaning.specs.declared.fault.FaultCode.{FaultCode}
use Rattle.world_meaning.specs.declared.fault.FaultCode.TheVariants.{NumberOutOfRange, NotUnderstood, ReservedWord}
use Rattle.i7_lexer.specs.declared.token.Token.{Token}
use Rattle.i7_sentences.specs.Cuts.{Piece, line_in, line_of, parts_of}
use Rattle.i7_sentences.specs.HeardForms.{heard_by}
use Rattle.i7_sentences.specs.KindsOfValue.{kinds_of_value}
use Rattle.i7_sentences.specs.Lowest.{lowest}
use Rattle.i7_sentences.specs.Matching.{Found}
use Rattle.i7_sentences.specs.Names.{Words}
use Rattle.i7_sentences.specs.Stretches.{bad_literal_in, bad_literal_of, read_stretches}
use Rattle.i7_sentences.specs.Understood.{understood_by}
use Rattle.i7_sentences.specs.declared.heard.Heard.{Heard}
use Rattle.i7_sentences.specs.declared.heard.HeardPart.{HeardPart}
use Rattle.i7_sentences.specs.declared.heard.Heard.TheVariants.{Says, Unread, Reserved}
use Rattle.i7_sentences.specs.declared.part.PartKind.{PartKind}
use Rattle.i7_sentences.specs.declared.part.PartKind.TheVariants.{Title, Heading, Sentence as Said}
use Rattle.i7_sentences.specs.declared.sentence.Assertion.TheVariants.{Aside}
use Rattle.i7_sentences.specs.declared.sentence.Sentence.{Sentence}

abbrev pub heard_found : List Words → List Token → Option Found → Heard
heard_found kinds tokens None = Unread (line_in tokens)
heard_found kinds tokens (Some found) = heard_by kinds tokens found.variant found.letters

-- what is answered of a sentence by how it is understood: what it says, and the lowest line of a literal out of range in it
unfoldable pub IsHeardAs : List Words → List Token → Option Found → HeardPart → Type 0
IsHeardAs kinds tokens found part = (part.heard ≡ heard_found kinds tokens found) × (part.bad_literal ≡ lowest bad_literal_in (read_stretches tokens found))

-- the same of what is found, if something is, and else this answer
unfoldable pub IsHeardOr : List Words → List Token → Option Found → HeardPart → HeardPart → Type 0
IsHeardOr kinds tokens None first part = part ≡ first
IsHeardOr kinds tokens (Some found) first part = IsHeardAs kinds tokens (Some found) part

-- a title or a heading asserts nothing
abbrev pub heard_of : List Words → PartKind → List Token → Heard
heard_of kinds Title tokens = Says Aside
heard_of kinds Heading tokens = Says Aside
heard_of kinds Said tokens = heard_found kinds tokens (understood_by kinds tokens)

-- what a part says, or the line at which it is refused
unfoldable pub heard_in : List Words → Piece → Heard
heard_in kinds part = heard_of kinds part.kind part.tokens

abbrev pub unread_at : Heard → Option ℕ
unread_at (Says said) = None
unread_at (Unread line) = Some line
unread_at (Reserved line) = None

abbrev pub reserved_at : Heard → Option ℕ
reserved_at (Says said) = None
reserved_at (Unread line) = None
reserved_at (Reserved line) = Some line

abbrev pub sentence_at : ℕ → Heard → Option Sentence
sentence_at line (Says said) = Some (record { said = said; line = line })
sentence_at line (Unread at) = None
sentence_at line (Reserved at) = None

abbrev pub unread_in : List Words → Piece → Option ℕ
unread_in kinds part = unread_at (heard_in kinds part)

abbrev pub reserved_in : List Words → Piece → Option ℕ
reserved_in kinds part = reserved_at (heard_in kinds part)

abbrev pub sentence_in : List Words → Piece → Option Sentence
sentence_in kinds part = sentence_at (line_of part) (heard_in kinds part)

-- refused at a line, if there is one
abbrev pub or_refused : FaultCode → Option ℕ → Result (List Sentence) Fault → Result (List Sentence) Fault
or_refused code None next = next
or_refused code (Some line) next = Err (record { code = code; line = line })

-- the sentences of these parts, or the refusal that stands
abbrev pub read_parts : List Words → List Piece → Result (List Sentence) Fault
read_parts kinds parts =
    or_refused NumberOutOfRange (lowest (bad_literal_of kinds) parts)
    (or_refused NotUnderstood (lowest (unread_in kinds) parts)
    (or_refused ReservedWord (lowest (reserved_in kinds) parts) (Ok (filter_map (sentence_in kinds) parts))))

-- the sentences that tokens spell, or the refusal that stands
abbrev pub read_of : List Token → Result (List Sentence) Fault
read_of tokens = read_parts (kinds_of_value (parts_of tokens)) (parts_of tokens)
