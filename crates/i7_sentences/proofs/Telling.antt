-- The first part of a text, and the first word between brackets.
use Rattle.std.proofs.Common.{◌≡◌, ℕ, ◌<◌, ◌≤◌, List, [], ◌∷◌, ◌++◌, length, refl, ap, ◌∙◌}
use Rattle.std.specs.List.{after_first, before_first, flat_map, position_or_len}
use Rattle.std.proofs.lemmas.List.Splits.{slice_split_first}
use Rattle.i7_sentences.specs.BracketedWords.{is_byte, is_gap}
use Rattle.i7_sentences.specs.TextPieces.{parts_of, run_word, runs_of}
use Rattle.i7_sentences.proofs.Bracketing.{one_part}

pub words_first : (bytes : List ℕ) → position_or_len is_gap bytes < length bytes
    → runs_of bytes ≡ run_word (before_first is_gap bytes) ++ runs_of (after_first is_gap bytes)
words_first bytes ends = ap (flat_map run_word) (slice_split_first is_gap bytes 0 ends)

run_alone : (run : List ℕ) → run_word run ++ [] ≡ run_word run
run_alone [] = refl
run_alone (b ∷ bytes) = refl

pub words_last : (bytes : List ℕ) → length bytes ≤ position_or_len is_gap bytes → runs_of bytes ≡ run_word bytes
words_last bytes ends = ap (flat_map run_word) (one_part is_gap bytes ends) ∙ run_alone bytes

pub ruleset word_steps = (words_first, words_last)

pub part_first : (text : List ℕ) → position_or_len (is_byte 91) text < length text
    → parts_of text ≡ before_first (is_byte 91) text ∷ parts_of (after_first (is_byte 91) text)
part_first text ends = slice_split_first (is_byte 91) text 0 ends

pub part_last : (text : List ℕ) → length text ≤ position_or_len (is_byte 91) text → parts_of text ≡ text ∷ []
part_last text ends = one_part (is_byte 91) text ends

pub ruleset part_steps = (part_first, part_last)
