-- The first lexeme of bytes, read from left to right.
use Rattle.std.specs.Prelude.{ℕ, ◌+◌, ◌-◌, ◌==◌, if◌then◌else◌, List, [], ◌∷◌, take, drop, length, Option, Some, None}
use Rattle.std.specs.List.{prefix_len}
use Rattle.i7_lexer.specs.declared.byte_class.ByteClass.{ByteClass}
use Rattle.i7_lexer.specs.declared.byte_class.ByteClass.TheVariants.{Letter, Blank, Quote, Bracket, Other}
use Rattle.i7_lexer.specs.declared.lexeme.Lexeme.{Lexeme}
use Rattle.i7_lexer.specs.declared.lexeme.Lexeme.TheVariants.{Kept, Space, Comment}
use Rattle.i7_lexer.specs.declared.lexeme.Piece.TheVariants.{Word, Text, Mark}
use Rattle.i7_lexer.specs.Bytes.{is_letter, is_blank, class_of}

-- what stands behind the first quote
abbrev pub behind_quote : List ℕ → Option (List ℕ)
behind_quote [] = None
behind_quote (b ∷ bytes) = if b == 34 then Some bytes else behind_quote bytes

-- what stands behind the bracket that closes so many brackets and one more
abbrev pub closing : ℕ → List ℕ → Option (List ℕ)
closing depth [] = None
closing depth (b ∷ bytes) = if b == 91 then closing (depth + 1) bytes else (if b == 93 then (if depth == 0 then Some bytes else closing (depth - 1) bytes) else closing depth bytes)

-- what stands before the last byte before the rest
abbrev pub front_of : List ℕ → List ℕ → List ℕ
front_of bytes rest = take (length bytes - length rest - 1) bytes

unfoldable pub word_of : List ℕ → Lexeme × List ℕ
word_of bytes = (Kept (Word (take (prefix_len is_letter bytes) bytes)), drop (prefix_len is_letter bytes) bytes)

unfoldable pub space_of : List ℕ → Lexeme × List ℕ
space_of bytes = (Space (take (prefix_len is_blank bytes) bytes), drop (prefix_len is_blank bytes) bytes)

abbrev pub text_before : List ℕ → Option (List ℕ) → Option (Lexeme × List ℕ)
text_before bytes None = None
text_before bytes (Some rest) = Some (Kept (Text (front_of bytes rest)), rest)

abbrev pub comment_before : List ℕ → Option (List ℕ) → Option (Lexeme × List ℕ)
comment_before bytes None = None
comment_before bytes (Some rest) = Some (Comment (front_of bytes rest), rest)

-- the text whose opening quote stands before these bytes, and the rest
unfoldable pub text_from : List ℕ → Option (Lexeme × List ℕ)
text_from bytes = text_before bytes (behind_quote bytes)

-- the comment whose opening bracket stands before these bytes, and the rest
unfoldable pub comment_from : List ℕ → Option (Lexeme × List ℕ)
comment_from bytes = comment_before bytes (closing 0 bytes)

abbrev pub next_by : ByteClass → ℕ → List ℕ → Option (Lexeme × List ℕ)
next_by Letter b bytes = Some (word_of (b ∷ bytes))
next_by Blank b bytes = Some (space_of (b ∷ bytes))
next_by Quote b bytes = text_from bytes
next_by Bracket b bytes = comment_from bytes
next_by Other b bytes = Some (Kept (Mark b), bytes)

-- the first lexeme and the rest, where it has its end
abbrev pub next_of : List ℕ → Option (Lexeme × List ℕ)
next_of [] = None
next_of (b ∷ bytes) = next_by (class_of b) b bytes
