-- The first word among bytes.
use Rattle.std.proofs.Common.{◌≡◌, ℕ, ◌<◌, ◌≤◌, List, [], ◌∷◌, ◌++◌, length, refl, ap, ◌∙◌}
use Rattle.std.specs.List.{after_first, before_first, flat_map, position_or_len}
use Rattle.std.proofs.lemmas.List.Splits.{slice_split_first}
use Rattle.i7_sentences.proofs.Bracketing.{one_part}
use Rattle.i7_grammar.specs.TextTokens.{is_blank, word_run, words_among}

pub words_first : (bytes : List ℕ) → position_or_len is_blank bytes < length bytes
    → words_among bytes ≡ word_run (before_first is_blank bytes) ++ words_among (after_first is_blank bytes)
words_first bytes ends = ap (flat_map word_run) (slice_split_first is_blank bytes 0 ends)

run_alone : (run : List ℕ) → word_run run ++ [] ≡ word_run run
run_alone [] = refl
run_alone (b ∷ bytes) = refl

pub words_last : (bytes : List ℕ) → length bytes ≤ position_or_len is_blank bytes → words_among bytes ≡ word_run bytes
words_last bytes ends = ap (flat_map word_run) (one_part is_blank bytes ends) ∙ run_alone bytes

pub ruleset word_steps = (words_first, words_last)
