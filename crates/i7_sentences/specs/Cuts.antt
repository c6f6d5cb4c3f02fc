-- The parts of a source: its headings, its title and its sentences.
use Rattle.std.specs.Prelude.{ℕ, ◌-◌, nat_lt, slice_index, length, Bool, true, false, not, ◌&&◌, ◌||◌, ◌==◌, List, [], ◌∷◌, ◌++◌, fold, codes, if◌then◌else◌}
use Rattle.std.specs.List.{list_all, list_any, onto_first}
use Rattle.std.specs.Char.{is_ascii_uppercase}
use Rattle.i7_lexer.specs.declared.token.Token.{Token}
use Rattle.i7_lexer.specs.declared.token.TokenKind.{TokenKind}
use Rattle.i7_lexer.specs.declared.token.TokenKind.TheVariants.{Text, Word, Mark}
use Rattle.i7_lexer.specs.declared.token.Start.{Start}
use Rattle.i7_lexer.specs.declared.token.Start.TheVariants.{Paragraph, Line, Within, Across}
use Rattle.i7_sentences.specs.Words.{is_text, is_word, word_of}
use Rattle.world_meaning.specs.Spelling.{is_spelled}
use Rattle.i7_sentences.specs.declared.cut.TheConstants.{HEADINGS}
use Rattle.i7_sentences.specs.declared.part.PartKind.{PartKind}
use Rattle.i7_sentences.specs.declared.part.PartKind.TheVariants.{Title, Heading, Sentence}

-- Tokens are cut between each two neighbours that don't belong to the same piece. A piece is open at a token if that or one before it in the
-- piece opens it, and whether a token's neighbour belongs to the same piece may depend on this.

-- the pieces from a token on, at which its piece is open or not
abbrev pub cut_from : (Token → Bool) → (Bool → Token → Token → Bool) → Bool → Token → List Token → List (List Token)
cut_from opens same is_open token [] = (token ∷ []) ∷ []
cut_from opens same is_open token (next ∷ rest) =
    if same is_open token next then onto_first token (cut_from opens same (is_open || opens next) next rest)
    else (token ∷ []) ∷ cut_from opens same (opens next) next rest

-- the pieces of tokens
abbrev pub cut : (Token → Bool) → (Bool → Token → Token → Bool) → List Token → List (List Token)
cut opens same [] = []
cut opens same (token ∷ tokens) = cut_from opens same (opens token) token tokens

abbrev pub is_paragraph_start : Start → Bool
is_paragraph_start Paragraph = true
is_paragraph_start (Line indent) = false
is_paragraph_start Within = false
is_paragraph_start Across = false

-- no token opens a paragraph
abbrev pub opens_nothing : Token → Bool
opens_nothing token = false

-- a paragraph goes on to the next token that begins one
abbrev pub is_same_paragraph : Bool → Token → Token → Bool
is_same_paragraph is_open token next = not (is_paragraph_start next.start)

abbrev pub is_within_line : Start → Bool
is_within_line Paragraph = false
is_within_line (Line indent) = false
is_within_line Within = true
is_within_line Across = false

abbrev pub opens_heading : List ℕ → Bool
opens_heading word = list_any (λ heading. is_spelled word heading.now) HEADINGS

-- a heading is a paragraph of one line that begins with one of these words
abbrev pub is_heading : List Token → Bool
is_heading [] = false
is_heading (first ∷ rest) = opens_heading (word_of first) && list_all (λ token. is_within_line token.start) rest

abbrev pub is_mark_kind : ℕ → TokenKind → Bool
is_mark_kind b (Text text) = false
is_mark_kind b (Word word) = false
is_mark_kind b (Mark mark) = mark == b

abbrev pub is_full_stop : Token → Bool
is_full_stop token = is_mark_kind 46 token.kind

abbrev pub is_colon : Token → Bool
is_colon token = is_mark_kind 58 token.kind

-- a line of indent 0 begins here
abbrev pub is_unindented : Start → Bool
is_unindented Paragraph = true
is_unindented (Line indent) = indent == 0
is_unindented Within = false
is_unindented Across = false

-- `.`, `?` and `!`
abbrev pub is_final : ℕ → Bool
is_final b = (b == 46) || (b == 63) || (b == 33)

-- a text ends as a sentence does: in a final byte, or in one and a single quote
abbrev pub has_final_end : List ℕ → Bool
has_final_end text =
    (nat_lt 0 (length text) && is_final (slice_index text (length text - 1)))
    || (nat_lt 1 (length text) && (slice_index text (length text - 1) == 39) && is_final (slice_index text (length text - 2)))

abbrev pub ends_sentence_kind : TokenKind → Bool
ends_sentence_kind (Text text) = has_final_end text
ends_sentence_kind (Word word) = false
ends_sentence_kind (Mark mark) = false

abbrev pub is_capitalised : List ℕ → Bool
is_capitalised [] = false
is_capitalised (b ∷ bs) = is_ascii_uppercase b

-- a sentence may begin with a text or a capitalised word, behind a text
abbrev pub may_begin_kind : TokenKind → Bool
may_begin_kind (Text text) = true
may_begin_kind (Word word) = is_capitalised word
may_begin_kind (Mark mark) = false

-- A sentence ends at a full stop, which is in none, and behind a text that ends so. A colon opens a rule's body: what stands behind it on its
-- line and on the indented lines below, with its full stops and texts. So behind a colon a sentence goes on to the next line of indent 0.
abbrev pub is_same_sentence : Bool → Token → Token → Bool
is_same_sentence true token next = not (is_unindented next.start)
is_same_sentence false token next =
    not (is_full_stop token || is_full_stop next || (ends_sentence_kind token.kind && may_begin_kind next.kind))

abbrev pub is_stop_alone : List Token → Bool
is_stop_alone [] = false
is_stop_alone (first ∷ rest) = is_full_stop first

-- a text alone, or a text, `by` and words alone
abbrev pub is_title : List Token → Bool
is_title [] = false
is_title (text ∷ []) = is_text text
is_title (text ∷ by ∷ []) = false
is_title (text ∷ by ∷ name ∷ names) = is_text text && is_spelled (word_of by) (codes "by") && list_all is_word (name ∷ names)

-- a part and what it is read as
pub record Piece : Type 0 where
  pub kind : PartKind
  pub tokens : List Token

-- the line of tokens is that of the first
abbrev pub line_in : List Token → ℕ
line_in [] = 1
line_in (first ∷ rest) = first.line

abbrev pub line_of : Piece → ℕ
line_of part = line_in part.tokens

-- only the source's first part may be a title
abbrev pub kind_of : List Piece → List Token → PartKind
kind_of [] sentence = if is_title sentence then Title else Sentence
kind_of (part ∷ parts) sentence = Sentence

-- the parts so far, and one more sentence; a full stop alone is none
abbrev pub with_sentence : List Piece → List Token → List Piece
with_sentence parts sentence =
    if is_stop_alone sentence then parts else parts ++ record { kind = kind_of parts sentence; tokens = sentence } ∷ []

-- the parts so far, and those of one more paragraph: the heading that it is, or its sentences
abbrev pub with_paragraph : List Piece → List Token → List Piece
with_paragraph parts paragraph =
    if is_heading paragraph then parts ++ record { kind = Heading; tokens = paragraph } ∷ []
    else fold with_sentence parts (cut is_colon is_same_sentence paragraph)

-- the parts of a source
abbrev pub parts_of : List Token → List Piece
parts_of tokens = fold with_paragraph [] (cut opens_nothing is_same_paragraph tokens)
