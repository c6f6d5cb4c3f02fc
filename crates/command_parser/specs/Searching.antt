-- The first way to part words among a line's tokens that leaves no slot without a candidate, found from left to right: each
-- slot tries the fewest words first.
use Rattle.std.specs.Prelude.{ℕ, Bool, true, false, ◌||◌, List, [], ◌∷◌, ◌++◌, Option, None, Some, if◌then◌else◌}
use Rattle.world_meaning.specs.Spelling.{is_spelled}
use Rattle.play_meaning.specs.Grammar.{Direction, Grammar, Something, Token, Word, candidates}
use Rattle.command_parser.specs.Tokens.{tokens_from}

abbrev pub or_later : {A : Type 0} → Option A → Option A → Option A
or_later None later = later
or_later (Some x) later = Some x

-- the words behind the first, if that is spelled so
abbrev pub behind_word : List ℕ → List (List ℕ) → Option (List (List ℕ))
behind_word spelling [] = None
behind_word spelling (word ∷ words) = if is_spelled word spelling then Some words else None

abbrev pub at_words : {A : Type 0} → (List (List ℕ) → Option A) → Option (List (List ℕ)) → Option A
at_words finds None = None
at_words finds (Some words) = finds words

-- the candidates of a slot in front of those of the slots behind it, if each has one
abbrev pub in_front : List ℕ → Option (List (List ℕ)) → Option (List (List ℕ))
in_front [] found = None
in_front (o ∷ objects) None = None
in_front (o ∷ objects) (Some slots) = Some ((o ∷ objects) ∷ slots)

abbrev pub slot_filled : (List (List ℕ) → List ℕ) → (List (List ℕ) → Option (List (List ℕ))) → List (List ℕ) → List (List ℕ) → Option (List (List ℕ))
slot_filled means behind front [] = None
slot_filled means behind front (word ∷ words) = or_later (in_front (means (front ++ word ∷ [])) (behind words)) (slot_filled means behind (front ++ word ∷ []) words)

-- the candidates of each slot
abbrev pub first_filled : Grammar → (ℕ → Bool) → List Token → List (List ℕ) → Option (List (List ℕ))
first_filled g sees [] [] = Some []
first_filled g sees [] (word ∷ words) = None
first_filled g sees (Word spelling ∷ tokens) words = at_words (first_filled g sees tokens) (behind_word spelling words)
first_filled g sees (Something ∷ tokens) words = slot_filled (candidates g sees Something) (first_filled g sees tokens) [] words
first_filled g sees (Direction ∷ tokens) words = slot_filled (candidates g sees Direction) (first_filled g sees tokens) [] words

-- ---- the same, by the places of a line's tokens

-- of a token and those from this place on
abbrev pub filled_on : Grammar → (ℕ → Bool) → Token → ℕ → ℕ → List (List ℕ) → Option (List (List ℕ))
filled_on g sees token line after words = first_filled g sees (token ∷ tokens_from g line after) words

-- of a word
abbrev pub word_filled : Grammar → (ℕ → Bool) → List ℕ → ℕ → ℕ → List (List ℕ) → Option (List (List ℕ))
word_filled g sees spelling line after words = at_words (first_filled g sees (tokens_from g line after)) (behind_word spelling words)

-- of a slot
abbrev pub slot_from : Grammar → (ℕ → Bool) → Token → ℕ → ℕ → List (List ℕ) → Option (List (List ℕ))
slot_from g sees slot line after words = slot_filled (candidates g sees slot) (first_filled g sees (tokens_from g line after)) [] words

-- of a slot that has this phrase, the words behind it being left to the tokens behind
abbrev pub phrase_filled : Grammar → (ℕ → Bool) → Token → List (List ℕ) → ℕ → ℕ → List (List ℕ) → Option (List (List ℕ))
phrase_filled g sees slot phrase line after behind = in_front (candidates g sees slot phrase) (first_filled g sees (tokens_from g line after) behind)

-- ---- whether there is any way to part words among tokens

abbrev pub slot_fits : (List (List ℕ) → Bool) → List (List ℕ) → Bool
slot_fits behind [] = false
slot_fits behind (word ∷ words) = behind words || slot_fits behind words

abbrev pub fits_at : (List (List ℕ) → Bool) → Option (List (List ℕ)) → Bool
fits_at fits None = false
fits_at fits (Some words) = fits words

abbrev pub fits : List Token → List (List ℕ) → Bool
fits [] [] = true
fits [] (word ∷ words) = false
fits (Word spelling ∷ tokens) words = fits_at (fits tokens) (behind_word spelling words)
fits (Something ∷ tokens) words = slot_fits (fits tokens) words
fits (Direction ∷ tokens) words = slot_fits (fits tokens) words
