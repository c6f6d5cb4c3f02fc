-- The first way to part words among tokens that leaves no slot without a candidate is found from left to right.
use Rattle.std.proofs.Common.{◌≡◌, ℕ, Bool, true, false, List, [], ◌∷◌, ◌++◌, length, map, refl, ap, ◌∙◌, arith, inl, inr}
use Rattle.std.specs.Prelude.{Option, None, Some, ◌||◌, nat_lt, filter, find, if◌then◌else◌}
use Rattle.std.proofs.lemmas.Bool.{lt-ltb, cases_Bool}
use Rattle.std.proofs.lemmas.List.{map-append}
use Rattle.world_meaning.specs.Spelling.{is_spelled}
use Rattle.play_meaning.specs.Commands.{are_filled, fillings}
use Rattle.play_meaning.specs.Grammar.{Direction, Grammar, Line, Something, Token, Word, candidates, candidates_by, is_slot, slot_splits, splits}
use Rattle.command_parser.specs.Searching.{at_words, first_filled, fits, fits_at, in_front, or_later, slot_filled, slot_fits}

-- ---- whether there is any way

abbrev pub has : {A : Type 0} → List A → Bool
has [] = false
has (x ∷ xs) = true

pub has_is : {A : Type 0} (xs : List A) → nat_lt 0 (length xs) ≡ has xs
has_is [] = refl
has_is (x ∷ xs) = lt-ltb 0 (length (x ∷ xs)) (omega arith)

has_joined : {A B : Type 0} (f : A → B) (xs : List A) (ys : List B) → has (map f xs ++ ys) ≡ (has xs || has ys)
has_joined f [] ys = refl
has_joined f (x ∷ xs) ys = refl

slot_has : (rest : List (List ℕ) → List (List (List (List ℕ)))) (fit : List (List ℕ) → Bool) → ((words : List (List ℕ)) → has (rest words) ≡ fit words)
    → (front words : List (List ℕ)) → has (slot_splits rest front words) ≡ slot_fits fit words
slot_has rest fit same front [] = refl
slot_has rest fit same front (word ∷ words) =
    has_joined (λ phrases. (front ++ word ∷ []) ∷ phrases) (rest words) (slot_splits rest (front ++ word ∷ []) words)
    ∙ ap (λ b. b || has (slot_splits rest (front ++ word ∷ []) words)) (same words)
    ∙ ap (λ b. fit words || b) (slot_has rest fit same (front ++ word ∷ []) words)

word_has : (spelled : Bool) (rest : List (List ℕ) → List (List (List (List ℕ)))) (fit : List (List ℕ) → Bool) (words : List (List ℕ)) → has (rest words) ≡ fit words
    → has (if spelled then rest words else []) ≡ fits_at fit (if spelled then Some words else None)
word_has true rest fit words same = same
word_has false rest fit words same = refl

pub fits_is : (tokens : List Token) (words : List (List ℕ)) → has (splits tokens words) ≡ fits tokens words
unfolding splits
fits_is [] [] = refl
fits_is [] (word ∷ words) = refl
fits_is (Word spelling ∷ tokens) [] = refl
fits_is (Word spelling ∷ tokens) (word ∷ words) = word_has (is_spelled word spelling) (splits tokens) (fits tokens) words (fits_is tokens words)
fits_is (Something ∷ tokens) words = slot_has (splits tokens) (fits tokens) (λ ws. fits_is tokens ws) [] words
fits_is (Direction ∷ tokens) words = slot_has (splits tokens) (fits tokens) (λ ws. fits_is tokens ws) [] words

-- ---- the first that is filled

find_joined : {A : Type 0} (p : A → Bool) (xs ys : List A) → find p (xs ++ ys) ≡ or_later (find p xs) (find p ys)
find_joined p [] ys = refl
find_joined p (x ∷ xs) ys = elim (cases_Bool (p x)) [
  | inl is ↦ rw is refl
  | inr isnt ↦ rw isnt (find_joined p xs ys)
]

-- the ways behind a slot with these candidates
behind_found : (objects : List ℕ) (ways : List (List (List ℕ))) → find are_filled (map (λ slots. objects ∷ slots) ways) ≡ in_front objects (find are_filled ways)
behind_found [] [] = refl
behind_found [] (way ∷ ways) = behind_found [] ways
behind_found (o ∷ objects) [] = refl
behind_found (o ∷ objects) (way ∷ ways) = elim (cases_Bool (are_filled way)) [
  | inl is ↦ rw is refl
  | inr isnt ↦ rw isnt (behind_found (o ∷ objects) ways)
]

module _ (g : Grammar) (sees : ℕ → Bool) where
  -- the candidates of each way
  abbrev ways : List Token → List (List (List (List ℕ))) → List (List (List ℕ))
  ways slots found = map (candidates_by g sees slots) found

  in_each : (slot : Token) (slots : List Token) (phrase : List (List ℕ)) (found : List (List (List (List ℕ)))) →
      ways (slot ∷ slots) (map (λ phrases. phrase ∷ phrases) found) ≡ map (λ others. candidates g sees slot phrase ∷ others) (ways slots found)
  in_each slot slots phrase [] = refl
  in_each slot slots phrase (phrases ∷ found) = ap (λ more. (candidates g sees slot phrase ∷ candidates_by g sees slots phrases) ∷ more) (in_each slot slots phrase found)

  slot_found : (slot : Token) (slots : List Token) (rest : List (List ℕ) → List (List (List (List ℕ)))) (behind : List (List ℕ) → Option (List (List ℕ)))
      → ((words : List (List ℕ)) → find are_filled (ways slots (rest words)) ≡ behind words)
      → (front words : List (List ℕ)) → find are_filled (ways (slot ∷ slots) (slot_splits rest front words)) ≡ slot_filled (candidates g sees slot) behind front words
  slot_found slot slots rest behind same front [] = refl
  slot_found slot slots rest behind same front (word ∷ words) =
      let phrase = front ++ word ∷ [] in
      ap (find are_filled) (map-append (candidates_by g sees (slot ∷ slots)) (map (λ phrases. phrase ∷ phrases) (rest words)) (slot_splits rest phrase words))
      ∙ find_joined are_filled (ways (slot ∷ slots) (map (λ phrases. phrase ∷ phrases) (rest words))) (ways (slot ∷ slots) (slot_splits rest phrase words))
      ∙ ap (λ first. or_later first (find are_filled (ways (slot ∷ slots) (slot_splits rest phrase words))))
      (ap (find are_filled) (in_each slot slots phrase (rest words)) ∙ behind_found (candidates g sees slot phrase) (ways slots (rest words)) ∙ ap (in_front (candidates g sees slot phrase)) (same words))
      ∙ ap (or_later (in_front (candidates g sees slot phrase) (behind words))) (slot_found slot slots rest behind same phrase words)

  word_found : (spelled : Bool) (slots : List Token) (rest : List (List ℕ) → List (List (List (List ℕ)))) (behind : List (List ℕ) → Option (List (List ℕ))) (words : List (List ℕ))
      → find are_filled (ways slots (rest words)) ≡ behind words
      → find are_filled (ways slots (if spelled then rest words else [])) ≡ at_words behind (if spelled then Some words else None)
  word_found true slots rest behind words same = same
  word_found false slots rest behind words same = refl

  first_filled_is : (tokens : List Token) (words : List (List ℕ)) → find are_filled (ways (filter is_slot tokens) (splits tokens words)) ≡ first_filled g sees tokens words
  unfolding splits
  first_filled_is [] [] = refl
  first_filled_is [] (word ∷ words) = refl
  first_filled_is (Word spelling ∷ tokens) [] = refl
  first_filled_is (Word spelling ∷ tokens) (word ∷ words) = word_found (is_spelled word spelling) (filter is_slot tokens) (splits tokens) (first_filled g sees tokens) words (first_filled_is tokens words)
  first_filled_is (Something ∷ tokens) words = slot_found Something (filter is_slot tokens) (splits tokens) (first_filled g sees tokens) (λ ws. first_filled_is tokens ws) [] words
  first_filled_is (Direction ∷ tokens) words = slot_found Direction (filter is_slot tokens) (splits tokens) (first_filled g sees tokens) (λ ws. first_filled_is tokens ws) [] words

  pub first_filling : (line : Line) (words : List (List ℕ)) → find are_filled (fillings g sees line words) ≡ first_filled g sees line.tokens words
  first_filling line words = first_filled_is line.tokens words
