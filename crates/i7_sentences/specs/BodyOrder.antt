-- Whether the phrases of a body stand where they may.
use Rattle.std.specs.Prelude.{ℕ, ◌+◌, ◌-◌, ◌==◌, nat_lt, Bool, true, false, not, ◌&&◌, ◌||◌, List, [], ◌∷◌, ◌++◌, codes, drop, length, take, Option, Some, None, if◌then◌else◌}
use Rattle.std.specs.List.{before_first, position_or_len}
use Rattle.i7_lexer.specs.declared.token.Token.{Token}
use Rattle.i7_sentences.specs.Bodies.{Phrase, is_spelled_so}
use Rattle.i7_sentences.specs.Dues.{is_awaiting, is_then, lacks_deeper, line_due, wants_phrase}
use Rattle.i7_sentences.specs.PhraseMarks.{is_colon_mark, is_comma_mark, is_no_mark, is_pause, is_semicolon_mark}
use Rattle.i7_sentences.specs.PhraseForms.{shape_in}
use Rattle.i7_sentences.specs.declared.phrase_mark.PhraseMark.{PhraseMark}
use Rattle.i7_sentences.specs.declared.body_place.Block.{Block}
use Rattle.i7_sentences.specs.declared.due.Due.{Due}
use Rattle.i7_sentences.specs.declared.due.DueKind.{DueKind}
use Rattle.i7_sentences.specs.declared.due.DueKind.TheVariants.{First, Free, Deeper, Then, Else, AfterThen}
use Rattle.i7_sentences.specs.declared.body_place.Place.{Place as PlaceOf}
use Rattle.i7_sentences.specs.declared.phrase_form.PhraseForm.{PhraseForm}
use Rattle.i7_sentences.specs.declared.phrase_form.PhraseForm.TheVariants as form
use Rattle.i7_sentences.specs.declared.phrase_form.PhraseShape.{PhraseShape}

-- the open blocks, the outermost first, and what is due; a block that an `if C,` or an inline `otherwise` opens is no `if` of its own lines
pub record Place : Type 0 where
  pub blocks : List Block
  pub due : Due

abbrev pub is_at_least : ℕ → Block → Bool
is_at_least indent block = not (nat_lt block.indent indent)

abbrev pub block_at : ℕ → List Block → Bool
block_at indent [] = false
block_at indent (block ∷ blocks) = (block.indent == indent) && block.is_if

-- an `if` of this indent is open
abbrev pub opens_block : ℕ → List Block → Bool
opens_block indent blocks = block_at indent (drop (position_or_len (is_at_least indent) blocks) blocks)

abbrev pub is_simple : PhraseForm → Bool
is_simple form.If = false
is_simple form.OtherwiseIf = false
is_simple form.Otherwise = false
is_simple _ = true

-- an `otherwise` in front of its phrase
abbrev pub is_inline : PhraseForm → PhraseMark → Bool
is_inline form.Otherwise mark = is_no_mark mark
is_inline _ mark = false

-- the marks with which a phrase may end: `if C` with a comma or a colon, a block with a colon, an inline `otherwise` with none
abbrev pub stands_as : Due → List Block → PhraseForm → PhraseMark → ℕ → Bool
stands_as due blocks form.If mark indent = is_comma_mark mark || is_colon_mark mark
stands_as due blocks form.Repeat mark indent = is_colon_mark mark
stands_as due blocks form.OtherwiseIf mark indent = is_colon_mark mark && opens_block indent blocks
stands_as due blocks form.Otherwise mark indent =
    if is_colon_mark mark then opens_block indent blocks else is_no_mark mark && is_awaiting due indent
stands_as due blocks _ mark indent = is_pause mark

-- behind `if C,` and `otherwise` stands a phrase that is neither
abbrev pub is_allowed : Place → PhraseForm → Phrase → Bool
is_allowed place form phrase =
    (is_simple form || not (wants_phrase place.due.kind))
    && stands_as place.due place.blocks form phrase.mark phrase.indent

abbrev pub is_if_form : PhraseForm → Bool
is_if_form form.If = true
is_if_form form.OtherwiseIf = true
is_if_form _ = false

-- a phrase closes the blocks that aren't less deep, but for what belongs to an inline `if`: it stands where that stands
abbrev pub blocks_left : List Block → DueKind → PhraseForm → PhraseMark → ℕ → List Block
blocks_left blocks kind form mark indent =
    if wants_phrase kind || is_inline form mark then blocks else before_first (is_at_least indent) blocks

-- the block of the `if C,` or the `otherwise` that the phrase stands behind
abbrev pub inline_block : DueKind → ℕ → List Block
inline_block kind indent = if wants_phrase kind then record { indent = indent; is_if = false } ∷ [] else []

-- a phrase with a colon opens its own block, within that of the `if C,` or the `otherwise` in front of it
abbrev pub opened : List Block → DueKind → PhraseForm → Phrase → List Block
opened blocks kind form phrase =
    if is_colon_mark phrase.mark then (blocks ++ inline_block kind phrase.indent) ++ record { indent = phrase.indent; is_if = is_if_form form } ∷ []
    else blocks

-- How many blocks stand around a phrase: those that stay open at it, and one more where it stands behind `if C,` or `otherwise`. So an
-- `otherwise` stands as deep as its `if`, and what belongs to either is one deeper, be it on the same line or below.
abbrev pub depth_of : Place → PhraseForm → Phrase → ℕ
depth_of place form phrase =
    length (blocks_left place.blocks place.due.kind form phrase.mark phrase.indent) + (if wants_phrase place.due.kind then 1 else 0)

abbrev pub kind_after : DueKind → PhraseForm → PhraseMark → DueKind
kind_after kind form mark =
    if is_colon_mark mark then Deeper
    else (if is_comma_mark mark then Then
    else (if is_simple form then (if is_then kind && is_semicolon_mark mark then AfterThen else Free)
    else Else))

-- what is due is measured by a block's own line, and by the line at which any other phrase ends
abbrev pub indent_due : Phrase → ℕ
indent_due phrase = if is_colon_mark phrase.mark then phrase.indent else phrase.last_indent

abbrev pub after_phrase : Place → PhraseForm → Phrase → Place
after_phrase place form phrase = record {
  blocks = opened (blocks_left place.blocks place.due.kind form phrase.mark phrase.indent) place.due.kind form phrase;
  due = record { kind = kind_after place.due.kind form phrase.mark; indent = indent_due phrase; line = phrase.line };
}

abbrev pub is_instead : List Token → Bool
is_instead [] = false
is_instead (token ∷ tokens) = is_spelled_so token (codes "instead")

abbrev pub opens_head : List Token → Bool
opens_head [] = false
opens_head (token ∷ tokens) =
    is_spelled_so token (codes "if") || is_spelled_so token (codes "otherwise") || is_spelled_so token (codes "repeat")

-- an `instead` closes the phrase
abbrev pub has_instead : List Token → Bool
has_instead tokens = is_instead (drop (length tokens - 1) tokens) && not (opens_head tokens)

-- a phrase without its closing `instead`, which belongs to the condition or description of `if`, `otherwise` and `repeat`
abbrev pub without_instead : List Token → List Token
without_instead tokens =
    if has_instead tokens then take (length tokens - 1) tokens else tokens

-- what a phrase is by its shape
abbrev pub shape_of : Phrase → Option PhraseShape
shape_of phrase = shape_in (without_instead phrase.tokens)

-- the phrase's own line, where no shape fits it or it may not stand here
abbrev pub fault_of : Place → Phrase → Option PhraseShape → Option ℕ
fault_of place phrase None = Some phrase.line
fault_of place phrase (Some shape) = if is_allowed place shape.form phrase then None else Some phrase.line

-- a block without a deeper line is told at its own line, whatever comes next
abbrev pub fault_at : Place → Phrase → Option PhraseShape → Option ℕ
fault_at place phrase shape =
    if lacks_deeper place.due phrase.indent then Some place.due.line else fault_of place phrase shape

abbrev pub place_behind : Place → Phrase → Option PhraseShape → Place
place_behind place phrase None = place
place_behind place phrase (Some shape) = after_phrase place shape.form phrase

abbrev pub or_else : Option ℕ → Option ℕ → Option ℕ
or_else None later = later
or_else (Some line) later = Some line

-- the line of the first phrase, from a place on, that isn't understood or may not stand there
abbrev pub fault_from : Place → List Phrase → Option ℕ
fault_from place [] = line_due place.due
fault_from place (phrase ∷ phrases) =
    or_else (fault_at place phrase (shape_of phrase)) (fault_from (place_behind place phrase (shape_of phrase)) phrases)

-- behind the head of a rule at this line
abbrev pub start : ℕ → Place
start line = record { blocks = []; due = record { kind = First; indent = 0; line = line } }

-- the line at which the body of a rule isn't understood, if there is one: the rule's own where it has no phrase
abbrev pub body_fault : ℕ → List Phrase → Option ℕ
body_fault line phrases = fault_from (start line) phrases

abbrev pub has_reserved_name : Option PhraseShape → Bool
has_reserved_name None = false
has_reserved_name (Some shape) = shape.has_reserved_name

-- the line of the first phrase with a reserved word in a name
abbrev pub reserved_line : List Phrase → Option ℕ
reserved_line [] = None
reserved_line (phrase ∷ phrases) =
    if has_reserved_name (shape_of phrase) then Some phrase.line else reserved_line phrases

abbrev pub place_of : PlaceOf → Place
place_of place = record { blocks = place.blocks.items; due = place.due }
