-- What a sentence says that tells what commands and words mean.
use Rattle.std.specs.Prelude.{ℕ, codes, Bool, false, ◌&&◌, ◌||◌, List, [], ◌∷◌, Option, Some, None, if◌then◌else◌}
use Rattle.std.specs.List.{before_first, flat_map, list_all}
use Rattle.world_meaning.specs.Spelling.{is_spelled}
use Rattle.i7_lexer.specs.declared.token.Token.{Token}
use Rattle.i7_lexer.specs.declared.token.TokenKind.{TokenKind}
use Rattle.i7_lexer.specs.declared.token.TokenKind.TheVariants.{Text, Word, Mark}
use Rattle.i7_sentences.specs.BracketedWords.{is_byte}
use Rattle.i7_sentences.specs.Keywords.{is_sign}
use Rattle.i7_sentences.specs.Names.{words_in}
use Rattle.i7_sentences.specs.TextPieces.{behind_first, is_bracket_read, parts_of, runs_of}
use Rattle.i7_sentences.specs.Words.{is_text}
use Rattle.i7_sentences.specs.declared.keyword.Keyword.TheVariants as keyword
use Rattle.i7_sentences.specs.declared.sentence.Assertion.{Assertion}
use Rattle.i7_sentences.specs.declared.sentence.Assertion.TheVariants as assertion

-- texts that are parted by `or`, at least one
abbrev pub are_choices : List Token → Bool
are_choices [] = false
are_choices (text ∷ []) = is_text text
are_choices (text ∷ joint ∷ tokens) = is_text text && is_sign keyword.Or joint && are_choices tokens

abbrev pub text_in : TokenKind → List (List ℕ)
text_in (Text text) = text ∷ []
text_in (Word word) = []
text_in (Mark mark) = []

abbrev pub text_of : Token → List (List ℕ)
text_of token = text_in token.kind

-- the texts among tokens, as they are written
abbrev pub texts_in : List Token → List (List ℕ)
texts_in tokens = flat_map text_of tokens

-- `something` or `direction`, alone
abbrev pub is_slot : List (List ℕ) → Bool
is_slot (word ∷ []) = is_spelled word (codes "something") || is_spelled word (codes "direction")
is_slot _ = false

-- a part that stands behind a `[` has its `]`, and a slot's word in front of that
unfoldable pub is_slot_read : List ℕ → Bool
is_slot_read part = is_bracket_read part && is_slot (runs_of (before_first (is_byte 93) part))

-- each `[` of a text has its `]`, and between them stands `something` or `direction`
unfoldable pub is_grammar_text : List ℕ → Bool
is_grammar_text text = list_all is_slot_read (behind_first (parts_of text))

abbrev pub understands_so : List (List ℕ) → List Token → Option Assertion
understands_so texts meaning =
    if list_all is_grammar_text texts then Some (assertion.Understand (record { texts = texts; meaning = words_in meaning })) else None

abbrev pub understands : List (List Token) → Option Assertion
understands (texts ∷ meaning ∷ []) = if are_choices texts then understands_so (texts_in texts) meaning else None
understands _ = None
