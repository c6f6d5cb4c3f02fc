-- The found fit that a reading stands for.
use Rattle.std.specs.Prelude.{List, map}
use Rattle.std.specs.Borrow.{Bor}
use Rattle.i7_lexer.specs.declared.token.Token.{Token}
use Rattle.i7_sentences.specs.Matching.{Found}
use Rattle.i7_sentences.specs.declared.reading.Reading.{Reading}

-- the words of letters
abbrev pub letters_in : List (Bor (List Token)) → List (List Token)
letters_in letters = map (λ letter. letter.now) letters

abbrev pub found_in : Reading → Found
found_in reading = record { variant = record { form = reading.form; pieces = reading.pieces.now }; letters = letters_in reading.letters.items }
