-- The marks with which phrases end.
use Rattle.std.specs.Prelude.{Bool, true, false}
use Rattle.i7_sentences.specs.declared.phrase_mark.PhraseMark.{PhraseMark}
use Rattle.i7_sentences.specs.declared.phrase_mark.PhraseMark.TheVariants.{Semicolon, Colon, Comma, Nothing}

abbrev pub is_no_mark : PhraseMark → Bool
is_no_mark Nothing = true
is_no_mark _ = false

-- no phrase stands between two such marks
abbrev pub is_pause : PhraseMark → Bool
is_pause Colon = false
is_pause Comma = false
is_pause _ = true

abbrev pub is_colon_mark : PhraseMark → Bool
is_colon_mark Colon = true
is_colon_mark _ = false

abbrev pub is_comma_mark : PhraseMark → Bool
is_comma_mark Comma = true
is_comma_mark _ = false

abbrev pub is_semicolon_mark : PhraseMark → Bool
is_semicolon_mark Semicolon = true
is_semicolon_mark _ = false
