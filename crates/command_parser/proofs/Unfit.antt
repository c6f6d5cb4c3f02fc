-- Words that can't be parted among tokens fill no slots.
use Rattle.std.proofs.Common.{◌≡◌, ℕ, Bool, false, List, [], ◌∷◌, ◌++◌, refl, ap, sym, ◌∙◌}
use Rattle.std.specs.Prelude.{Option, None, Some}
use Rattle.std.proofs.lemmas.Bool.{or_parts}
use Rattle.play_meaning.specs.Grammar.{Direction, Grammar, Something, Token, Word, candidates}
use Rattle.command_parser.specs.Searching.{at_words, behind_word, first_filled, fits, fits_at, in_front, or_later, slot_filled, slot_fits}

front_of_none : (objects : List ℕ) → in_front objects None ≡ None
front_of_none [] = refl
front_of_none (o ∷ objects) = refl

slot_unfit : (means : List (List ℕ) → List ℕ) (behind : List (List ℕ) → Option (List (List ℕ))) (fit : List (List ℕ) → Bool) → ((words : List (List ℕ)) → fit words ≡ false → behind words ≡ None)
    → (front words : List (List ℕ)) → slot_fits fit words ≡ false → slot_filled means behind front words ≡ None
slot_unfit means behind fit unfit front [] none = refl
slot_unfit means behind fit unfit front (word ∷ words) none =
    let each = or_parts (fit words) (slot_fits fit words) none in
    ap (λ found. or_later (in_front (means (front ++ word ∷ [])) found) (slot_filled means behind (front ++ word ∷ []) words)) (unfit words each.0)
    ∙ ap (λ found. or_later found (slot_filled means behind (front ++ word ∷ []) words)) (front_of_none (means (front ++ word ∷ [])))
    ∙ slot_unfit means behind fit unfit (front ++ word ∷ []) words each.1

word_unfit : (behind : List (List ℕ) → Option (List (List ℕ))) (fit : List (List ℕ) → Bool) (words : Option (List (List ℕ))) → ((words : List (List ℕ)) → fit words ≡ false → behind words ≡ None)
    → fits_at fit words ≡ false → at_words behind words ≡ None
word_unfit behind fit None unfit none = refl
word_unfit behind fit (Some words) unfit none = unfit words none

unfit : (g : Grammar) (sees : ℕ → Bool) (tokens : List Token) (words : List (List ℕ)) → fits tokens words ≡ false → first_filled g sees tokens words ≡ None
unfit g sees [] [] none = absurd cc
unfit g sees [] (word ∷ words) none = refl
unfit g sees (Word spelling ∷ tokens) words none = word_unfit (first_filled g sees tokens) (fits tokens) (behind_word spelling words) (λ ws is. unfit g sees tokens ws is) none
unfit g sees (Something ∷ tokens) words none = slot_unfit (candidates g sees Something) (first_filled g sees tokens) (fits tokens) (λ ws is. unfit g sees tokens ws is) [] words none
unfit g sees (Direction ∷ tokens) words none = slot_unfit (candidates g sees Direction) (first_filled g sees tokens) (fits tokens) (λ ws is. unfit g sees tokens ws is) [] words none

pub none_behind : (g : Grammar) (sees : ℕ → Bool) (objects : List ℕ) (tokens : List Token) (words : List (List ℕ)) → fits tokens words ≡ false → None ≡ in_front objects (first_filled g sees tokens words)
none_behind g sees objects tokens words none = sym (ap (in_front objects) (unfit g sees tokens words none) ∙ front_of_none objects)
