-- Words parted at the first that is wanted.
use Rattle.std.proofs.Common.{◌≡◌, ap, refl, ◌∙◌, ℕ, ◌+◌, ◌-◌, Bool, true, false, List, [], ◌∷◌, length, take, drop, Option, Some, None, arith}
use Rattle.std.specs.List.{after_first, position_or_len}
use Rattle.std.proofs.lemmas.List.{drop-drop, length-drop, take_all}
use Rattle.i7_lexer.specs.declared.token.Token.{Token}
use Rattle.i7_sentences.specs.HeadWords.{IsParted, behind_first, in_front_of}
use Rattle.i7_sentences.specs.Keywords.{is_sign}
use Rattle.i7_sentences.specs.declared.keyword.Keyword.{Keyword}
use Rattle.i7_sentences.proofs.Cutting.{one_dropped, one_taken}

-- what stands behind the first of the tokens that passes, whose place is told by their words
pub behind_first_mark : (passes : Token → Bool) (tokens words rest : List Token) (n : ℕ) → n ≡ position_or_len passes words → words ≡ tokens → rest ≡ drop n tokens → take (length rest - 1) (drop 1 rest) ≡ after_first passes tokens
behind_first_mark passes tokens words rest n at same parts =
    take_all (length rest - 1) (drop 1 rest) (omega (arith, length-drop 1 rest))
    ∙ ap (drop 1) parts
    ∙ drop-drop 1 n tokens
    ∙ ap (λ (k : ℕ). drop (k + 1) tokens) (at ∙ ap (position_or_len passes) same)

-- a word in front that isn't the one
onto : (keyword : Keyword) (word : Token) (words front : List Token) (behind : Option (List Token))
    → is_sign keyword word ≡ false → IsParted keyword words front behind → IsParted keyword (word ∷ words) (word ∷ front) behind
onto keyword word words front None isnt parted = (ap (λ more. word ∷ more) parted.0, rw isnt parted.1)
onto keyword word words front (Some behind) isnt parted = record {
  word = parted.word;
  parts = ap (λ more. word ∷ more) parted.parts;
  is_word = parted.is_word;
  none_before = rw isnt parted.none_before;
}

pub parted_at_first : (keyword : Keyword) (words : List Token) → IsParted keyword words (in_front_of keyword words) (behind_first keyword words)
parted_at_first keyword [] = (refl, refl)
parted_at_first keyword (word ∷ words) =
    let Goal : Bool → Type 0 = λ is. is_sign keyword word ≡ is → IsParted keyword (word ∷ words) (in_front_of keyword (word ∷ words)) (behind_first keyword (word ∷ words))
    in elim (is_sign keyword word) as Goal [
      | true ↦ λ is. rw is (record { word = word; parts = refl; is_word = is; none_before = refl })
      | false ↦ λ isnt.
          let n = position_or_len (is_sign keyword) words in
          rw (isnt, one_taken n word words, one_dropped n word words) (onto keyword word words (in_front_of keyword words) (behind_first keyword words) isnt (parted_at_first keyword words))
    ] refl
