-- The phrases of a rule's body.
use Rattle.std.specs.Prelude.{ℕ, ◌+◌, ◌-◌, Bool, true, false, not, ◌&&◌, ◌||◌, List, [], ◌∷◌, ◌++◌, codes, drop, fold, length, map, take, if◌then◌else◌}
use Rattle.world_meaning.specs.Spelling.{is_spelled}
use Rattle.i7_lexer.specs.declared.token.Token.{Token}
use Rattle.i7_lexer.specs.declared.token.Start.{Start}
use Rattle.i7_lexer.specs.declared.token.Start.TheVariants.{Paragraph, Line, Within, Across}
use Rattle.i7_sentences.specs.Cuts.{cut, ends_sentence_kind, is_colon, is_full_stop, is_mark_kind, line_in, may_begin_kind, opens_nothing}
use Rattle.i7_sentences.specs.PhraseMarks.{is_no_mark, is_pause}
use Rattle.i7_sentences.specs.Words.{word_of}
use Rattle.i7_sentences.specs.declared.phrase_mark.PhraseMark.{PhraseMark}
use Rattle.i7_sentences.specs.declared.phrase_mark.PhraseMark.TheVariants.{Semicolon, Stop, Colon, Comma, Nothing}
use Rattle.i7_sentences.specs.declared.body.PhraseLine.{PhraseLine}
use Rattle.i7_sentences.specs.declared.body.BodyLines.{BodyLines}

abbrev pub is_semicolon : Token → Bool
is_semicolon token = is_mark_kind 59 token.kind

abbrev pub is_comma : Token → Bool
is_comma token = is_mark_kind 44 token.kind

-- A phrase ends with `;`, a full stop or a colon, and behind a text that would end a sentence there.
abbrev pub ends_phrase : Token → Token → Bool
ends_phrase token next =
    is_semicolon token || is_full_stop token || is_colon token || (ends_sentence_kind token.kind && may_begin_kind next.kind)

abbrev pub is_same_phrase : Bool → Token → Token → Bool
is_same_phrase is_open token next = not (ends_phrase token next)

abbrev pub is_spelled_so : Token → List ℕ → Bool
is_spelled_so token word = is_spelled (word_of token) word

-- the tokens up to the first comma and it, all of them without one
abbrev pub comma_len : List Token → ℕ
comma_len [] = 0
comma_len (token ∷ tokens) = if is_comma token then 1 else 1 + comma_len tokens

abbrev pub opens_inline : List Token → Bool
opens_inline [] = false
opens_inline (next ∷ tokens) = not (is_colon next || is_spelled_so next (codes "if"))

-- how many tokens of a phrase are in front of another phrase: `if C,`, or an `otherwise` that neither a colon nor an `if` follows
abbrev pub head_len : List Token → ℕ
head_len [] = 0
head_len (first ∷ rest) =
    if is_spelled_so first (codes "if") then 1 + comma_len rest
    else (if is_spelled_so first (codes "otherwise") && opens_inline rest then 1 else 1 + length rest)

abbrev pub mark_of : Token → PhraseMark
mark_of token =
    if is_semicolon token then Semicolon
    else (if is_full_stop token then Stop
    else (if is_colon token then Colon
    else (if is_comma token then Comma else Nothing)))

abbrev pub mark_at : List Token → PhraseMark
mark_at [] = Nothing
mark_at (token ∷ tokens) = mark_of token

-- the mark at the end of these tokens, and the tokens without it
abbrev pub mark_behind : List Token → PhraseMark
mark_behind run = mark_at (drop (length run - 1) run)

abbrev pub unmarked : List Token → List Token
unmarked run = if is_no_mark (mark_behind run) then run else take (length run - 1) run

abbrev pub is_empty_run : List Token → Bool
is_empty_run [] = true
is_empty_run (token ∷ tokens) = false

abbrev pub is_nothing : List Token → Bool
is_nothing run = is_empty_run (unmarked run) && is_pause (mark_behind run)

-- the indent of a token's line, and of that at which tokens end, behind a line of this indent
abbrev pub indent_of : ℕ → Start → ℕ
indent_of indent Paragraph = 0
indent_of indent (Line tabs) = tabs
indent_of indent Within = indent
indent_of indent Across = indent

abbrev pub indent_at : ℕ → Token → ℕ
indent_at indent token = indent_of indent token.start

abbrev pub indent_behind : ℕ → List Token → ℕ
indent_behind indent tokens = fold indent_at indent tokens

abbrev pub indent_before : ℕ → List Token → ℕ
indent_before indent [] = indent
indent_before indent (token ∷ tokens) = indent_at indent token

-- a phrase without its mark, with the line of its first token, and the indents of the lines at which it begins and ends
pub record Phrase : Type 0 where
  pub tokens : List Token
  pub mark : PhraseMark
  pub line : ℕ
  pub indent : ℕ
  pub last_indent : ℕ

abbrev pub phrase_in : ℕ → List Token → Phrase
phrase_in indent run = record {
  tokens = unmarked run;
  mark = mark_behind run;
  line = line_in run;
  indent = indent_before indent run;
  last_indent = indent_behind indent run;
}

-- phrases so far, and the indent of the line at which they end
pub record Lines : Type 0 where
  pub indent : ℕ
  pub phrases : List Phrase

abbrev pub past : Lines → List Token → Lines
past lines run = record { indent = indent_behind lines.indent run; phrases = lines.phrases }

-- the tokens, if there are any, are a phrase, be it an empty one
abbrev pub with_run : Lines → List Token → Lines
with_run lines run =
    if is_empty_run run then lines
    else record { indent = indent_behind lines.indent run; phrases = lines.phrases ++ phrase_in lines.indent run ∷ [] }

-- an empty phrase is nothing, but for one that stands behind `if C,` or `otherwise`
abbrev pub with_piece : Lines → List Token → Lines
with_piece lines piece =
    if is_nothing piece then past lines piece
    else with_run (with_run lines (take (head_len piece) piece)) (drop (head_len piece) piece)

abbrev pub no_lines : Lines
no_lines = record { indent = 0; phrases = [] }

-- the phrases of a body: one that stands behind `if C,` or `otherwise` is a phrase of its own
abbrev pub body_lines : List Token → List Phrase
body_lines tokens = (fold with_piece no_lines (cut opens_nothing is_same_phrase tokens)).phrases

abbrev pub phrase_of : PhraseLine → Phrase
phrase_of line = record {
  tokens = line.tokens.now;
  mark = line.mark;
  line = line.line;
  indent = line.indent;
  last_indent = line.last_indent;
}

abbrev pub phrases_of : List PhraseLine → List Phrase
phrases_of lines = map phrase_of lines

abbrev pub lines_of : BodyLines → Lines
lines_of lines = record { indent = lines.indent; phrases = phrases_of lines.all.items }
