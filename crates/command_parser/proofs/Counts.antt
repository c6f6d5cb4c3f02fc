-- How many commands a line has at the most: one for each word, and words are parted by a byte at least.
use Rattle.std.proofs.Common.{◌≡◌, ℕ, suc, ◌+◌, ◌*◌, ◌≤◌, Bool, true, false, List, [], ◌∷◌, ◌++◌, length, refl, ap, ◌∙◌, arith, inl, inr, length-append, ltb-false}
use Rattle.std.specs.Prelude.{◌||◌, nat_lt, filter, flat_map, if◌then◌else◌}
use Rattle.std.specs.List.{onto_first, slice_split}
use Rattle.std.proofs.lemmas.Bool.{cases_Bool, or_parts, or_right}
use Rattle.world_meaning.specs.Reading.{is_blank, words_of}
use Rattle.play_meaning.specs.CommandLines.{commands_of, has_words, is_full_stop, is_then, is_too_long, parted_at_then}
use Rattle.command_parser.specs.Cutting.{ends_word, first_piece, other_pieces}
use Rattle.command_parser.proofs.Cuts.{begun, pieces_are, words_begun}

-- the words that begin in bytes which blanks and full stops part, inside of a word or not
abbrev begun_parted : Bool → List ℕ → ℕ
begun_parted in_word [] = 0
begun_parted in_word (b ∷ bytes) = if ends_word b then begun_parted false bytes else (if in_word then begun_parted true bytes else suc (begun_parted true bytes))

-- the words of pieces
abbrev begun_in : List (List ℕ) → ℕ
begun_in [] = 0
begun_in (piece ∷ pieces) = begun false piece + begun_in pieces

-- a word takes a byte, and another between it and the next
few_begun : (in_word : Bool) (bytes : List ℕ) → 2 * begun_parted in_word bytes ≤ length bytes + (if in_word then 0 else 1)
few_begun in_word [] = omega arith
few_begun in_word (b ∷ bytes) = elim (cases_Bool (ends_word b)) [
  | inl ends ↦ rw ends (behind_end in_word (few_begun false bytes))
  | inr goes_on ↦ rw goes_on (behind_byte in_word (few_begun true bytes))
]
  where
    behind_end : (in_word : Bool) → 2 * begun_parted false bytes ≤ length bytes + 1 → 2 * begun_parted false bytes ≤ length (b ∷ bytes) + (if in_word then 0 else 1)
    behind_end true few = omega (arith, few)
    behind_end false few = omega (arith, few)

    behind_byte : (in_word : Bool) → 2 * begun_parted true bytes ≤ length bytes + 0
        → 2 * (if in_word then begun_parted true bytes else suc (begun_parted true bytes)) ≤ length (b ∷ bytes) + (if in_word then 0 else 1)
    behind_byte true few = omega (arith, few)
    behind_byte false few = omega (arith, few)

begun_in_pieces : (in_word : Bool) (bytes : List ℕ) → begun in_word (first_piece bytes) + begun_in (other_pieces bytes) ≡ begun_parted in_word bytes
begun_in_pieces in_word [] = refl
begun_in_pieces in_word (b ∷ bytes) = elim (cases_Bool (is_full_stop b)) [
  | inl stop ↦ at_stop (begun_in_pieces false bytes) stop
  | inr more ↦ elim (cases_Bool (is_blank b)) [
    | inl blank ↦ rw (more, blank) (begun_in_pieces false bytes)
    | inr isnt ↦ rw (more, isnt) (one_more in_word (begun_in_pieces true bytes))
  ]
]
  where
    at_stop : begun false (first_piece bytes) + begun_in (other_pieces bytes) ≡ begun_parted false bytes → is_full_stop b ≡ true → begun in_word (first_piece (b ∷ bytes)) + begun_in (other_pieces (b ∷ bytes)) ≡ begun_parted in_word (b ∷ bytes)
    at_stop behind stop =
        let ends : (is_blank b || true) ≡ true = or_right (is_blank b) true refl in
        rw (stop, ends) (omega (arith, ap begun_in (pieces_are bytes) ∙ behind))

    one_more : (in_word : Bool) → begun true (first_piece bytes) + begun_in (other_pieces bytes) ≡ begun_parted true bytes
        → (if in_word then begun true (first_piece bytes) else suc (begun true (first_piece bytes))) + begun_in (other_pieces bytes) ≡ (if in_word then begun_parted true bytes else suc (begun_parted true bytes))
    one_more true same = same
    one_more false same = omega (arith, same)

-- ---- commands are no more than words

filtered-append : (xs ys : List (List (List ℕ))) → filter has_words (xs ++ ys) ≡ filter has_words xs ++ filter has_words ys
filtered-append [] ys = refl
filtered-append ([] ∷ xs) ys = filtered-append xs ys
filtered-append ((word ∷ words) ∷ xs) ys = ap (λ all. (word ∷ words) ∷ all) (filtered-append xs ys)

first_counts : (word : List ℕ) (commands : List (List (List ℕ))) (n : ℕ) → length (filter has_words commands) ≤ n → length (filter has_words (onto_first word commands)) ≤ suc n
first_counts word [] n few = omega (arith, few)
first_counts word ([] ∷ commands) n few = omega (arith, few)
first_counts word ((other ∷ words) ∷ commands) n few = omega (arith, few)

few_parted : (words : List (List ℕ)) → length (filter has_words (slice_split is_then words)) ≤ length words
few_parted [] = omega arith
few_parted (word ∷ words) = elim (cases_Bool (is_then word)) [
  | inl cuts ↦ rw cuts (omega (arith, few_parted words))
  | inr goes_on ↦ rw goes_on (first_counts word (slice_split is_then words) (length words) (few_parted words))
]

few_in_pieces : (pieces : List (List ℕ)) → length (filter has_words (flat_map parted_at_then pieces)) ≤ begun_in pieces
few_in_pieces [] = omega arith
few_in_pieces (piece ∷ pieces) =
    let parts = parted_at_then piece in
    omega (
      arith,
      few_in_pieces pieces,
      few_parted (words_of piece),
      words_begun piece,
      ap length (filtered-append parts (flat_map parted_at_then pieces)),
      length-append (filter has_words parts) (filter has_words (flat_map parted_at_then pieces)),
    )

pub few_commands : (line : List ℕ) → 2 * length (commands_of line) ≤ length line + 1
unfolding commands_of
few_commands line =
    omega (arith, few_in_pieces (slice_split is_full_stop line), ap begun_in (pieces_are line), begun_in_pieces false line, few_begun false line)

pub few_so : (line : List ℕ) → is_too_long line ≡ false → (command : List (List ℕ)) (others : List (List (List ℕ))) → commands_of line ≡ command ∷ others → suc (length others) ≤ 128
few_so line within command others is =
    let short = ltb-false 255 (length line) (or_parts (nat_lt 255 (length line)) (nat_lt 32 (length (words_of line))) within).0 in
    omega (arith, few_commands line, ap length is, short)
