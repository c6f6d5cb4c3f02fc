-- What a text says, piece by piece.
use Rattle.std.specs.Prelude.{ℕ, ◌==◌, codes, Bool, true, false, ◌&&◌, ◌||◌, List, [], ◌∷◌, ◌++◌, map, Option, Some, None, if◌then◌else◌}
use Rattle.std.specs.List.{after_first, before_first, flat_map, list_all, list_any, slice_split}
use Rattle.world_meaning.specs.Spelling.{is_spelled}
use Rattle.i7_lexer.specs.Bytes.{is_letter}
use Rattle.i7_sentences.specs.BracketedWords.{is_byte, words_in}
use Rattle.i7_sentences.specs.Words.{as_read}
use Rattle.i7_sentences.specs.declared.text_reader.TheConstants.{APOSTROPHE, LINE_BREAK, PARAGRAPH_BREAK, OTHERWISE, END_IF, IF}
use Rattle.i7_sentences.specs.declared.text_piece.TextPiece.{TextPiece}
use Rattle.i7_sentences.specs.declared.text_piece.TextPiece.TheVariants.{Printed, Substitution, If, Otherwise, EndIf}
use Rattle.i7_sentences.specs.declared.text_ifs.IfPlace.{IfPlace}
use Rattle.i7_sentences.specs.declared.text_ifs.IfPlace.TheVariants.{Outside, Then, Else}

abbrev pub begins_word : List ℕ → Bool
begins_word [] = false
begins_word (b ∷ bytes) = is_letter b

-- a single quote is an apostrophe between two bytes of a word, and a double quote at the word's edge
abbrev pub printed_byte : Bool → ℕ → List ℕ → ℕ
printed_byte is_behind b bytes = if b == 39 then (if is_behind && begins_word bytes then 39 else 34) else b

abbrev pub printed_from : Bool → List ℕ → List ℕ
printed_from is_behind [] = []
printed_from is_behind (b ∷ bytes) = printed_byte is_behind b bytes ∷ printed_from (is_letter b) bytes

-- the bytes that these bytes of a text, which stand outside brackets, print
abbrev pub printed : List ℕ → List ℕ
printed bytes = printed_from false bytes

-- a word is read as one outside texts is: `are` as `is`
abbrev pub run_word : List ℕ → List (List ℕ)
run_word [] = []
run_word (b ∷ bytes) = as_read (b ∷ bytes) ∷ []

-- the words among bytes, each by itself
abbrev pub runs_of : List ℕ → List (List ℕ)
runs_of bytes = flat_map run_word (words_in bytes)

abbrev pub is_switched : List ℕ → List ℕ → Bool
is_switched first second = is_spelled first (codes "switched") && (is_spelled second (codes "on") || is_spelled second (codes "off"))

abbrev pub is_fixed_in_place : List ℕ → List ℕ → List ℕ → Bool
is_fixed_in_place first second third = is_spelled first (codes "fixed") && is_spelled second (codes "in") && is_spelled third (codes "place")

abbrev pub spaced : List ℕ → List ℕ → List ℕ
spaced first second = first ++ 32 ∷ second

-- `fixed in place`, `switched on` and `switched off` are one word, as they are outside texts
abbrev pub joined : List (List ℕ) → List (List ℕ)
joined [] = []
joined (first ∷ []) = first ∷ []
joined (first ∷ second ∷ []) = if is_switched first second then spaced first second ∷ [] else first ∷ second ∷ []
joined (first ∷ second ∷ third ∷ words) =
    if is_switched first second then spaced first second ∷ joined (third ∷ words)
    else (if is_fixed_in_place first second third then spaced first (spaced second third) ∷ joined words
    else first ∷ joined (second ∷ third ∷ words))

-- the words among bytes
abbrev pub words_of : List ℕ → List (List ℕ)
words_of bytes = joined (runs_of bytes)

abbrev pub are_spelled : List (List ℕ) → List (List ℕ) → Bool
are_spelled [] [] = true
are_spelled [] (spelling ∷ spellings) = false
are_spelled (word ∷ words) [] = false
are_spelled (word ∷ words) (spelling ∷ spellings) = is_spelled word spelling && are_spelled words spellings

abbrev pub behind_first : List (List ℕ) → List (List ℕ)
behind_first [] = []
behind_first (word ∷ words) = words

abbrev pub is_if : List (List ℕ) → Bool
is_if [] = false
is_if (word ∷ words) = is_spelled word IF.now

-- what words between brackets are
unfoldable pub piece_of : List (List ℕ) → TextPiece
piece_of words =
    if are_spelled words (map (λ word. word.now) APOSTROPHE) then Printed (39 ∷ [])
    else (if are_spelled words (map (λ word. word.now) LINE_BREAK) then Printed (10 ∷ [])
    else (if are_spelled words (map (λ word. word.now) PARAGRAPH_BREAK) then Printed (10 ∷ 10 ∷ [])
    else (if are_spelled words (map (λ word. word.now) OTHERWISE) then Otherwise
    else (if are_spelled words (map (λ word. word.now) END_IF) then EndIf
    else (if is_if words then If (behind_first words) else Substitution words)))))

-- what bytes outside brackets say
abbrev pub print_of : List ℕ → List TextPiece
print_of [] = []
print_of (b ∷ bytes) = Printed (printed (b ∷ bytes)) ∷ []

-- the parts of a text, parted by its `[`s
abbrev pub parts_of : List ℕ → List (List ℕ)
parts_of text = slice_split (is_byte 91) text

-- what a part says that stands behind a `[`: the words up to its first `]` are a piece, and what is behind that is printed
abbrev pub bracket_pieces : List ℕ → List TextPiece
bracket_pieces part = piece_of (words_of (before_first (is_byte 93) part)) ∷ print_of (after_first (is_byte 93) part)

-- what stands in front of the first `[` is printed, a `]` among it as any other byte
abbrev pub pieces_of : List (List ℕ) → List TextPiece
pieces_of [] = []
pieces_of (front ∷ parts) = print_of front ++ flat_map bracket_pieces parts

-- the pieces of a text; one without a byte prints nothing
abbrev pub text_pieces : List ℕ → List TextPiece
text_pieces [] = Printed [] ∷ []
text_pieces (b ∷ bytes) = pieces_of (parts_of (b ∷ bytes))

abbrev pub is_word_or_blank : ℕ → Bool
is_word_or_blank b = is_letter b || b == 32 || b == 9 || b == 10

-- between brackets stand words and blanks alone, at least one word
unfoldable pub is_of_words : List ℕ → Bool
is_of_words bytes = list_any is_letter bytes && list_all is_word_or_blank bytes

abbrev pub has_closing : List ℕ → Bool
has_closing part = list_any (is_byte 93) part

-- a part that stands behind a `[` has its `]`, and words in front of that
unfoldable pub is_bracket_read : List ℕ → Bool
is_bracket_read part = has_closing part && is_of_words (before_first (is_byte 93) part)

-- each `[` has its `]`, and between them stand words
abbrev pub are_brackets_read : List ℕ → Bool
are_brackets_read text = list_all is_bracket_read (behind_first (parts_of text))

-- where a text stands behind one more piece, if it may stand there: an if ends at its `[end if]`, perhaps behind one `[otherwise]`, and none
-- stands in another
abbrev pub if_step : IfPlace → TextPiece → Option IfPlace
if_step Outside (Printed bytes) = Some Outside
if_step Outside (Substitution words) = Some Outside
if_step Outside (If condition) = Some Then
if_step Outside Otherwise = None
if_step Outside EndIf = None
if_step Then (Printed bytes) = Some Then
if_step Then (Substitution words) = Some Then
if_step Then (If condition) = None
if_step Then Otherwise = Some Else
if_step Then EndIf = Some Outside
if_step Else (Printed bytes) = Some Else
if_step Else (Substitution words) = Some Else
if_step Else (If condition) = None
if_step Else Otherwise = None
if_step Else EndIf = Some Outside

abbrev pub is_outside : IfPlace → Bool
is_outside Outside = true
is_outside Then = false
is_outside Else = false

abbrev pub then_closes : Option IfPlace → (IfPlace → Bool) → Bool
then_closes None closes = false
then_closes (Some place) closes = closes place

-- whether the ifs of these pieces end, from a place on
abbrev pub ifs_end : IfPlace → List TextPiece → Bool
ifs_end place [] = is_outside place
ifs_end place (piece ∷ pieces) = then_closes (if_step place piece) (λ after. ifs_end after pieces)

-- a text that is understood
abbrev pub is_text_read : List ℕ → Bool
is_text_read text = are_brackets_read text && ifs_end Outside (text_pieces text)
