-- What stands between the brackets of a text, one part behind the other.
use Rattle.std.proofs.Common.{◌≡◌, ℕ, ◌+◌, ◌<◌, ◌≤◌, Bool, true, false, List, [], ◌∷◌, length, map, refl, ap, ◌∙◌, arith}
use Rattle.std.specs.List.{after_first, before_first, position_or_len, slice_split, onto_first}
use Rattle.std.proofs.lemmas.List.Splits.{length-slice_split, slice_split_first}
use Rattle.i7_sentences.specs.BracketedWords.{bracketed, ended, is_byte}

pub ended_more : (part : List ℕ) (parts : List (List ℕ)) → 0 < length parts → ended (part ∷ parts) ≡ part ∷ ended parts
ended_more part [] some = absurd (omega (arith, some))
ended_more part (next ∷ parts) some = refl

pub split_some : (p : ℕ → Bool) (xs : List ℕ) → 0 < length (slice_split p xs)
split_some p xs = let parts = length-slice_split p xs in omega (arith, parts)

pub bracketed_first : (text : List ℕ) → position_or_len (is_byte 93) text < length text
    → bracketed text ≡ after_first (is_byte 91) (before_first (is_byte 93) text) ∷ bracketed (after_first (is_byte 93) text)
bracketed_first text ends =
    let parts = ap ended (slice_split_first (is_byte 93) text 0 ends) in
    let more = ended_more (before_first (is_byte 93) text) (slice_split (is_byte 93) (after_first (is_byte 93) text)) (split_some (is_byte 93) (after_first (is_byte 93) text)) in
    ap (map (after_first (is_byte 91))) (parts ∙ more)

pub one_part : (p : ℕ → Bool) (xs : List ℕ) → length xs ≤ position_or_len p xs → slice_split p xs ≡ xs ∷ []
one_part p [] ends = refl
one_part p (x ∷ xs) ends =
    let Goal : Bool → Type 0 = λ stops. p x ≡ stops → slice_split p (x ∷ xs) ≡ (x ∷ xs) ∷ []
    in elim (p x) as Goal [
      | true ↦ λ stops. let none : length (x ∷ xs) ≤ 0 = rw stops at ends in absurd (omega (arith, none))
      | false ↦ λ goes. let more : length (x ∷ xs) ≤ 1 + position_or_len p xs = rw goes at ends in rw goes (ap (onto_first x) (one_part p xs (omega (arith, more))))
    ] refl

pub bracketed_none : (text : List ℕ) → length text ≤ position_or_len (is_byte 93) text → bracketed text ≡ []
bracketed_none text ends = ap (λ parts. map (after_first (is_byte 91)) (ended parts)) (one_part (is_byte 93) text ends)

pub ruleset bracket_steps = (bracketed_first, bracketed_none)
