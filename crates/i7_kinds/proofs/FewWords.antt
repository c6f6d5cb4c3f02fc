-- A name of few blanks has few words.
use Rattle.std.proofs.Common.{◌≡◌, ℕ, ◌+◌, ◌<◌, ◌≤◌, Bool, false, cond, ltb, eqb, List, [], ◌∷◌, ◌++◌, length, refl, sym, ap, ◌∙◌, arith, inl, inr}
use Rattle.std.specs.Prelude.{count_by, filter}
use Rattle.std.specs.List.{slice_split}
use Rattle.std.specs.Char.{to_ascii_lowercase}
use Rattle.std.proofs.lemmas.Bool.{le-ltb, ltb-false, ne_eqb, cases_Bool}
use Rattle.std.proofs.lemmas.List.{append-nil}
use Rattle.std.proofs.lemmas.List.Splits.{length-slice_split}
use Rattle.std.proofs.lemmas.List.Sums.{sum_by-cons}
use Rattle.object_words.proofs.MentionLemmas.{mentioned_few}
use Rattle.object_words.specs.Words.{is_blank, is_word, blank_words, more_words, words_for}
use Rattle.world_meaning.specs.Spelling.{lowered}
use Rattle.i7_kinds.specs.Tales.{is_too_long}

filtered_few : (t : List ℕ → Bool) (xs : List (List ℕ)) → length (filter t xs) ≤ length xs
filtered_few t [] = omega arith
filtered_few t (x ∷ xs) =
    elim (cases_Bool (t x)) [
      | inl is ↦ rw is (omega (arith, filtered_few t xs))
      | inr isnt ↦ rw isnt (omega (arith, filtered_few t xs))
    ]

blank_lowered : (b : ℕ) → is_blank (to_ascii_lowercase b) ≡ is_blank b
blank_lowered b =
    elim (cases_Bool (ltb b 65)) [
      | inl is ↦ rw is refl
      | inr isnt ↦
          elim (cases_Bool (ltb b 91)) [
            | inl small ↦
                let le = ltb-false _ _ isnt in
                let moved : eqb (b + 32) 32 ≡ false = ne_eqb _ _ (λ k. omega (arith, k, le)) in
                let stayed : eqb b 32 ≡ false = ne_eqb _ _ (λ k. omega (arith, k, le)) in
                rw (isnt, small, moved, stayed) refl
            | inr large ↦ rw (isnt, large) refl
          ]
    ]

blanks_lowered : (name : List ℕ) → count_by is_blank (lowered name) ≡ count_by is_blank name
blanks_lowered [] = refl
blanks_lowered (b ∷ name) =
    sum_by-cons (λ x. cond (is_blank x) 1 0) (to_ascii_lowercase b) (lowered name) ∙ ap (λ test. cond test 1 0 + count_by is_blank (lowered name)) (blank_lowered b) ∙ ap (λ n. cond (is_blank b) 1 0 + n) (blanks_lowered name)
    ∙ sym (sum_by-cons (λ x. cond (is_blank x) 1 0) b name)

-- no more words than blanks, and one
words_few : (name : List ℕ) → length (words_for 13 name) ≤ count_by is_blank name + 1
unfolding words_for more_words
words_few name =
    let all = mentioned_few (blank_words (lowered name) ++ []) [] in
    let parts : length (blank_words (lowered name) ++ []) ≡ length (blank_words (lowered name)) = ap length (append-nil (blank_words (lowered name))) in
    let pieces = filtered_few is_word (slice_split is_blank (lowered name)) in
    omega (arith, all, parts, pieces, length-slice_split is_blank (lowered name), blanks_lowered name)

pub few_blanks : (name : List ℕ) → length name ≤ 65535 → count_by is_blank name < 32 → is_too_long name ≡ false
few_blanks name short few =
    let bytes : ltb 65535 (length name) ≡ false = le-ltb _ _ short in
    let words : ltb 32 (length (words_for 13 name)) ≡ false = le-ltb _ _ (omega (arith, few, words_few name)) in
    rw (bytes, words) refl
