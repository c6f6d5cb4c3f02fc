-- What is known of an object's words: each stands once, in small letters, and is no longer than its name.
use Rattle.std.proofs.Common.{◌≡◌, ℕ, suc, ◌<◌, ◌≤◌, Bool, true, false, not, ◌&&◌, ◌-◌, leb, eqb, List, [], ◌∷◌, ◌++◌, length, Option, Some, None, refl, sym, ap, ◌∙◌, arith, inl, inr}
use Rattle.std.specs.Prelude.{fold, filter, slice_get}
use Rattle.std.specs.List.{list_all, list_any, slice_split, onto_first}
use Rattle.std.specs.Str.{bytes_eq}
use Rattle.std.specs.Char.{to_ascii_lowercase}
use Rattle.std.proofs.lemmas.Bool.{eq-eqb, leb-true, le-leb, lt-ltb, ltb-true, cases_Bool, and_from, and_parts, or_parts, not-true}
use Rattle.std.proofs.lemmas.List.Folds.{list_all-append}
use Rattle.std.proofs.lemmas.List.Splits.{slice_split-cons_yes, slice_split-cons_no}
use Rattle.std.proofs.lemmas.Slice.Eq.{bytes_eq-Decides}
use Rattle.std.proofs.lemmas.Str.Ascii.{lowercase-lowercase}
use Rattle.world_meaning.specs.declared.direction.Direction.{Direction}
use Rattle.world_meaning.specs.declared.direction.Direction.TheVariants as direction
use Rattle.world_meaning.specs.Directions.{all_directions, short_word}
use Rattle.command_grammar.specs.Synonyms.{own_words, words_said}
use Rattle.command_grammar.specs.declared.synonym.Synonym.{Synonym}
use Rattle.object_words.specs.Mentions.{mention}
use Rattle.object_words.specs.Words.{is_word, is_blank, blank_words, short_words, more_words, words_for}
use Rattle.world_meaning.specs.Spelling.{lowered}
use Rattle.object_words.proofs.StringLemmas.{length_mapped}
use Rattle.story_format.specs.Checks.{is_small_byte, is_small}
use Rattle.story_format.specs.Holding.{is_short}
use Rattle.story_format.proofs.StoryLemmas.{all_weaker}
use Rattle.story_format.proofs.Known.{text_is_itself}
use Rattle.story_format.proofs.OrderLemmas.{grows, mention_new, mention_old}

-- ---- what all mentioned strings are

pub all_mentioned : (p : List ℕ → Bool) (xs seen : List (List ℕ)) → list_all p seen ≡ true → list_all p xs ≡ true → list_all p (fold mention seen xs) ≡ true
all_mentioned p [] seen h k = h
all_mentioned p (x ∷ xs) seen h k =
    let t = and_parts (p x) (list_all p xs) k in
    elim (cases_Bool (list_any (bytes_eq x) seen)) [
      | inl is ↦ all_mentioned p xs (mention seen x) (ap (list_all p) (mention_old seen x is) ∙ h) t.1
      | inr isnt ↦
          let one : list_all p (x ∷ []) ≡ true = and_from (p x) true t.0 refl in
          let longer : list_all p (seen ++ x ∷ []) ≡ true = list_all-append p seen (x ∷ []) ∙ and_from (list_all p seen) (list_all p (x ∷ [])) h one in
          all_mentioned p xs (mention seen x) (ap (list_all p) (mention_new seen x isnt) ∙ longer) t.1
    ]

-- ---- small letters and few bytes

abbrev pub is_good : List ℕ → Bool
is_good word = is_small word && is_short word

abbrev good_in : ℕ → List ℕ → Bool
good_in n word = is_small word && leb (length word) n

longer_good : (n : ℕ) (word : List ℕ) → good_in n word ≡ true → good_in (suc n) word ≡ true
longer_good n word h =
    let t = and_parts (is_small word) (leb (length word) n) h in
    let le : length word ≤ n = leb-true _ _ t.1 in
    and_from (is_small word) (leb (length word) (suc n)) t.0 (le-leb _ _ (omega (arith, le)))

onto_good : (x n : ℕ) (parts : List (List ℕ)) → is_small_byte x ≡ true → list_all (good_in n) parts ≡ true → list_all (good_in (suc n)) (onto_first x parts) ≡ true
onto_good x n [] h k =
    let one : leb (length (x ∷ [])) (suc n) ≡ true = le-leb _ _ (omega arith) in
    and_from (good_in (suc n) (x ∷ [])) true (and_from (is_small (x ∷ [])) (leb (length (x ∷ [])) (suc n)) (and_from (is_small_byte x) true h refl) one) refl
onto_good x n (part ∷ parts) h k =
    let t = and_parts (good_in n part) (list_all (good_in n) parts) k in
    let u = and_parts (is_small part) (leb (length part) n) t.0 in
    let le : length part ≤ n = leb-true _ _ u.1 in
    let one : leb (length (x ∷ part)) (suc n) ≡ true = le-leb _ _ (omega (arith, le)) in
    and_from (good_in (suc n) (x ∷ part)) (list_all (good_in (suc n)) parts) (and_from (is_small (x ∷ part)) (leb (length (x ∷ part)) (suc n)) (and_from (is_small_byte x) (is_small part) h u.0) one)
    (all_weaker (good_in n) (good_in (suc n)) (longer_good n) parts t.1)

split_good : (q : ℕ → Bool) (xs : List ℕ) → is_small xs ≡ true → list_all (good_in (length xs)) (slice_split q xs) ≡ true
split_good q [] h = refl
split_good q (x ∷ xs) h =
    let t = and_parts (is_small_byte x) (is_small xs) h in
    let later = split_good q xs t.1 in
    elim (cases_Bool (q x)) [
      | inl is ↦
          ap (list_all (good_in (suc (length xs)))) (slice_split-cons_yes q x xs is)
          ∙ and_from (good_in (suc (length xs)) []) (list_all (good_in (suc (length xs))) (slice_split q xs)) (le-leb _ _ (omega arith)) (all_weaker (good_in (length xs)) (good_in (suc (length xs))) (longer_good (length xs)) (slice_split q xs) later)
      | inr isnt ↦ ap (list_all (good_in (suc (length xs)))) (slice_split-cons_no q x xs isnt) ∙ onto_good x (length xs) (slice_split q xs) t.0 later
    ]

filter_keeps : (p t : List ℕ → Bool) (xs : List (List ℕ)) → list_all p xs ≡ true → list_all p (filter t xs) ≡ true
filter_keeps p t [] h = refl
filter_keeps p t (x ∷ xs) h =
    let u = and_parts (p x) (list_all p xs) h in
    elim (cases_Bool (t x)) [
      | inl is ↦ rw is (and_from (p x) (list_all p (filter t xs)) u.0 (filter_keeps p t xs u.1))
      | inr isnt ↦ rw isnt (filter_keeps p t xs u.1)
    ]

lowered_small : (name : List ℕ) → is_small (lowered name) ≡ true
lowered_small [] = refl
lowered_small (b ∷ name) = and_from (is_small_byte (to_ascii_lowercase b)) (is_small (lowered name)) (eq-eqb _ _ (lowercase-lowercase b)) (lowered_small name)

good_if : (n : ℕ) → n < 65536 → (word : List ℕ) → good_in n word ≡ true → is_good word ≡ true
good_if n lt word h =
    let t = and_parts (is_small word) (leb (length word) n) h in
    let le : length word ≤ n = leb-true _ _ t.1 in
    and_from (is_small word) (is_short word) t.0 (lt-ltb _ _ (omega (arith, le, lt)))

blank_good : (name : List ℕ) → is_short name ≡ true → list_all is_good (blank_words (lowered name)) ≡ true
blank_good name h =
    let lt : length name < 65536 = ltb-true _ _ h in
    let same : length (lowered name) ≡ length name = length_mapped to_ascii_lowercase name in
    let split = split_good is_blank (lowered name) (lowered_small name) in
    filter_keeps is_good is_word (slice_split is_blank (lowered name)) (all_weaker (good_in (length (lowered name))) is_good (good_if (length (lowered name)) (omega (arith, lt, same))) (slice_split is_blank (lowered name)) split)

short_good : (d : Option Direction) → list_all is_good (short_words d) ≡ true
unfolding short_word
short_good None = refl
short_good (Some direction.North) = refl
short_good (Some direction.Northeast) = refl
short_good (Some direction.Northwest) = refl
short_good (Some direction.South) = refl
short_good (Some direction.Southeast) = refl
short_good (Some direction.Southwest) = refl
short_good (Some direction.East) = refl
short_good (Some direction.West) = refl
short_good (Some direction.Up) = refl
short_good (Some direction.Down) = refl
short_good (Some direction.Inside) = refl
short_good (Some direction.Outside) = refl

more_good : (o : ℕ) → list_all is_good (more_words o) ≡ true
unfolding more_words
more_good o =
    elim (cases_Bool (eqb o 0)) [
      | inl is ↦ rw is refl
      | inr isnt ↦ rw isnt (short_good (slice_get all_directions (o - 1)))
    ]

pub words_good : (o : ℕ) (name : List ℕ) → is_short name ≡ true → list_all is_good (words_for o name) ≡ true
unfolding words_for
words_good o name h =
    all_mentioned is_good (blank_words (lowered name) ++ more_words o) [] refl
    (list_all-append is_good (blank_words (lowered name)) (more_words o) ∙ and_from (list_all is_good (blank_words (lowered name))) (list_all is_good (more_words o)) (blank_good name h) (more_good o))

-- ---- with the words of synonyms

-- those of the name stand in front
pub said_front : (synonyms : List Synonym) (o : ℕ) (name : List ℕ) → (more : List (List ℕ)) × (words_said synonyms o name ≡ words_for o name ++ more)
unfolding words_said
said_front synonyms o name = grows (own_words o synonyms) (words_for o name)

own_small : (synonyms : List Synonym) (o : ℕ) → list_all (λ synonym. is_small synonym.word) synonyms ≡ true → list_all is_small (own_words o synonyms) ≡ true
own_small [] o h = refl
own_small (synonym ∷ synonyms) o h =
    let t = and_parts (is_small synonym.word) (list_all (λ synonym. is_small synonym.word) synonyms) h in
    elim (cases_Bool (eqb synonym.object o)) [
      | inl is ↦ rw is (and_from (is_small synonym.word) (list_all is_small (own_words o synonyms)) t.0 (own_small synonyms o t.1))
      | inr isnt ↦ rw isnt (own_small synonyms o t.1)
    ]

blank_small : (name : List ℕ) → list_all is_small (blank_words (lowered name)) ≡ true
blank_small name =
    let n = length (lowered name) in
    filter_keeps is_small is_word (slice_split is_blank (lowered name))
    (all_weaker (good_in n) is_small (λ word h. (and_parts (is_small word) (leb (length word) n) h).0) (slice_split is_blank (lowered name)) (split_good is_blank (lowered name) (lowered_small name)))

words_small : (o : ℕ) (name : List ℕ) → list_all is_small (words_for o name) ≡ true
unfolding words_for
words_small o name =
    let more = all_weaker is_good is_small (λ word h. (and_parts (is_small word) (is_short word) h).0) (more_words o) (more_good o) in
    all_mentioned is_small (blank_words (lowered name) ++ more_words o) [] refl
    (list_all-append is_small (blank_words (lowered name)) (more_words o) ∙ and_from (list_all is_small (blank_words (lowered name))) (list_all is_small (more_words o)) (blank_small name) more)

pub said_small : (synonyms : List Synonym) (o : ℕ) (name : List ℕ) → list_all (λ synonym. is_small synonym.word) synonyms ≡ true → list_all is_small (words_said synonyms o name) ≡ true
unfolding words_said
said_small synonyms o name h = all_mentioned is_small (own_words o synonyms) (words_for o name) (words_small o name) (own_small synonyms o h)

-- ---- each word once

abbrev pub differ : List (List ℕ) → Bool
differ [] = true
differ (x ∷ xs) = not (list_any (bytes_eq x) xs) && differ xs

other_way : (x y : List ℕ) → bytes_eq y x ≡ false → bytes_eq x y ≡ false
other_way x y h =
    elim (cases_Bool (bytes_eq x y)) [
      | inl is ↦ let same : x ≡ y = (bytes_eq-Decides x y).0 is in let z : false ≡ true = sym h ∙ ap (bytes_eq y) same ∙ text_is_itself y in absurd cc
      | inr isnt ↦ isnt
    ]

not_in_longer : (x y : List ℕ) (xs : List (List ℕ)) → list_any (bytes_eq x) xs ≡ false → bytes_eq y x ≡ false → list_any (bytes_eq x) (xs ++ y ∷ []) ≡ false
not_in_longer x y [] h k = rw (other_way x y k) refl
not_in_longer x y (z ∷ xs) h k = let t = or_parts (bytes_eq x z) (list_any (bytes_eq x) xs) h in rw t.0 (not_in_longer x y xs t.1 k)

differ_longer : (xs : List (List ℕ)) (y : List ℕ) → differ xs ≡ true → list_any (bytes_eq y) xs ≡ false → differ (xs ++ y ∷ []) ≡ true
differ_longer [] y h k = refl
differ_longer (x ∷ xs) y h k =
    let t = and_parts (not (list_any (bytes_eq x) xs)) (differ xs) h in
    let u = or_parts (bytes_eq y x) (list_any (bytes_eq y) xs) k in
    let away = not_in_longer x y xs (not-true (list_any (bytes_eq x) xs) t.0) u.0 in
    and_from (not (list_any (bytes_eq x) (xs ++ y ∷ []))) (differ (xs ++ y ∷ [])) (ap not away) (differ_longer xs y t.1 u.1)

differ_mentioned : (xs seen : List (List ℕ)) → differ seen ≡ true → differ (fold mention seen xs) ≡ true
differ_mentioned [] seen h = h
differ_mentioned (x ∷ xs) seen h =
    elim (cases_Bool (list_any (bytes_eq x) seen)) [
      | inl is ↦ differ_mentioned xs (mention seen x) (ap differ (mention_old seen x is) ∙ h)
      | inr isnt ↦ differ_mentioned xs (mention seen x) (ap differ (mention_new seen x isnt) ∙ differ_longer seen x h isnt)
    ]

words_differ : (o : ℕ) (name : List ℕ) → differ (words_for o name) ≡ true
unfolding words_for
words_differ o name = differ_mentioned (blank_words (lowered name) ++ more_words o) [] refl

pub said_differ : (synonyms : List Synonym) (o : ℕ) (name : List ℕ) → differ (words_said synonyms o name) ≡ true
unfolding words_said
said_differ synonyms o name = differ_mentioned (own_words o synonyms) (words_for o name) (words_differ o name)
