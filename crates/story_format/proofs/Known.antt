-- The strings of a tale hold what its objects name and say.
use Rattle.std.proofs.Common.{◌≡◌, ℕ, suc, ◌+◌, ◌<◌, Bool, true, ltb, List, [], ◌∷◌, ◌++◌, length, map, Option, Some, None, refl, sym, ap, ◌∙◌, arith, inl, inr}
use Rattle.std.specs.Prelude.{slice_get, min, fold}
use Rattle.std.specs.List.{list_any, list_all, position_or_len}
use Rattle.std.specs.Str.{bytes_eq}
use Rattle.std.proofs.lemmas.Bool.{lt-ltb, cases_Bool, and_from, and_parts, or_right}
use Rattle.std.proofs.lemmas.List.Folds.{list_all-append, list_any-append}
use Rattle.std.proofs.lemmas.Slice.Eq.{bytes_eq-Decides}
use Rattle.code_table.specs.Origins.{Origin}
use Rattle.world_meaning.specs.declared.declared.Declared.{Declared}
use Rattle.object_words.specs.Mentions.{mention, number_in, number_or_none}
use Rattle.story_format.specs.Making.{names_of_values, strings_behind, strings_of, strings_said}

pub text_is_itself : (text : List ℕ) → bytes_eq text text ≡ true
text_is_itself text = (bytes_eq-Decides text text).1 refl

pub same_texts : (a b : List ℕ) → bytes_eq a b ≡ true → a ≡ b
same_texts a b e = (bytes_eq-Decides a b).0 e

-- what stands at the first place that passes
pub passes_at : (strings : List (List ℕ)) (text : List ℕ) → list_any (bytes_eq text) strings ≡ true
    → (position_or_len (bytes_eq text) strings < length strings) × (slice_get strings (position_or_len (bytes_eq text) strings) ≡ Some text)
passes_at [] text h = absurd cc
passes_at (s ∷ ss) text h =
    elim (cases_Bool (bytes_eq text s)) [
      | inl is ↦ rw is (omega arith, ap (λ (t : List ℕ). Some t) (sym (same_texts text s is)))
      | inr isnt ↦
          let later : list_any (bytes_eq text) ss ≡ true = rw isnt at h in
          let t = passes_at ss text later in
          let one : 1 + position_or_len (bytes_eq text) ss ≡ suc (position_or_len (bytes_eq text) ss) = omega arith in
          rw (isnt, one) (omega (arith, t.0), t.1)
    ]

pub found_by_number : (strings : List (List ℕ)) (text : List ℕ) → list_any (bytes_eq text) strings ≡ true → length strings < 65535 → (number_in strings text < 65536) × (slice_get strings (number_in strings text) ≡ Some text)
unfolding number_in
found_by_number strings text h few =
    let t = passes_at strings text h in
    let inside : ltb (position_or_len (bytes_eq text) strings) (length strings) ≡ true = lt-ltb _ _ t.0 in
    let small : min (position_or_len (bytes_eq text) strings) 65535 ≡ position_or_len (bytes_eq text) strings = omega (arith, t.0) in
    rw (inside, small) (omega (arith, t.0), t.1)

any_kept : (seen : List (List ℕ)) (text string : List ℕ) → list_any (bytes_eq text) seen ≡ true → list_any (bytes_eq text) (mention seen string) ≡ true
any_kept seen text string h =
    elim (cases_Bool (list_any (bytes_eq string) seen)) [
      | inl is ↦ rw is h
      | inr isnt ↦ rw (isnt, list_any-append (bytes_eq text) seen (string ∷ []), h) refl
    ]

any_added : (seen : List (List ℕ)) (string : List ℕ) → list_any (bytes_eq string) (mention seen string) ≡ true
any_added seen string =
    elim (cases_Bool (list_any (bytes_eq string) seen)) [
      | inl is ↦ rw is is
      | inr isnt ↦ rw (isnt, list_any-append (bytes_eq string) seen (string ∷ []), isnt, text_is_itself string) refl
    ]

fold_keeps : (strings seen : List (List ℕ)) (text : List ℕ) → list_any (bytes_eq text) seen ≡ true → list_any (bytes_eq text) (fold mention seen strings) ≡ true
fold_keeps [] seen text h = h
fold_keeps (s ∷ ss) seen text h = fold_keeps ss (mention seen s) text (any_kept seen text s h)

pub fold_finds : (strings seen : List (List ℕ)) (text : List ℕ) → list_any (bytes_eq text) strings ≡ true → list_any (bytes_eq text) (fold mention seen strings) ≡ true
fold_finds [] seen text h = absurd cc
fold_finds (s ∷ ss) seen text h =
    elim (cases_Bool (bytes_eq text s)) [
      | inl is ↦ fold_keeps ss (mention seen s) text (rw (same_texts text s is) (any_added seen s))
      | inr isnt ↦ let later : list_any (bytes_eq text) ss ≡ true = rw isnt at h in fold_finds ss (mention seen s) text later
    ]

pub any_left : (p : List ℕ → Bool) (xs ys : List (List ℕ)) → list_any p xs ≡ true → list_any p (xs ++ ys) ≡ true
any_left p xs ys h = rw (list_any-append p xs ys, h) refl

pub any_right : (p : List ℕ → Bool) (xs ys : List (List ℕ)) → list_any p ys ≡ true → list_any p (xs ++ ys) ≡ true
any_right p xs ys h = rw (list_any-append p xs ys) (or_right (list_any p xs) (list_any p ys) h)

-- ---- what each object has

abbrev pub is_known : List (List ℕ) → List ℕ → Bool
is_known strings text = list_any (bytes_eq text) strings

pub texts_known : (whole strings : List (List ℕ)) → ((text : List ℕ) → list_any (bytes_eq text) strings ≡ true → is_known whole text ≡ true) → list_all (is_known whole) strings ≡ true
texts_known whole [] f = refl
texts_known whole (s ∷ ss) f =
    and_from (is_known whole s) (list_all (is_known whole) ss) (f s (rw (text_is_itself s) refl)) (texts_known whole ss (λ text h. f text (or_right (bytes_eq text s) (list_any (bytes_eq text) ss) h)))

-- a known text is what all strings are
pub known_too : (p : List ℕ → Bool) (strings : List (List ℕ)) (text : List ℕ) → is_known strings text ≡ true → list_all p strings ≡ true → p text ≡ true
known_too p [] text known h = absurd cc
known_too p (s ∷ ss) text known h =
    let t = and_parts (p s) (list_all p ss) h in
    elim (cases_Bool (bytes_eq text s)) [
      | inl is ↦ ap p (same_texts text s is) ∙ t.0
      | inr isnt ↦ let later : list_any (bytes_eq text) ss ≡ true = rw isnt at known in known_too p ss text later t.1
    ]

pub all_known_too : (p : List ℕ → Bool) (strings texts : List (List ℕ)) → list_all (is_known strings) texts ≡ true → list_all p strings ≡ true → list_all p texts ≡ true
all_known_too p strings [] known h = refl
all_known_too p strings (x ∷ texts) known h =
    let t = and_parts (is_known strings x) (list_all (is_known strings) texts) known in
    and_from (p x) (list_all p texts) (known_too p strings x t.0 h) (all_known_too p strings texts t.1 h)

-- the strings of a story are those that stand behind those that are named, too
pub behind_known : (named behind : List (List ℕ)) → list_all (is_known (strings_of named behind)) behind ≡ true
unfolding strings_of
behind_known named behind = texts_known (strings_of named behind) behind (λ text k. fold_finds (named ++ behind) [] text (any_right (bytes_eq text) named behind k))

-- and those that are named
pub named_known : (named behind : List (List ℕ)) → list_all (is_known (strings_of named behind)) named ≡ true
unfolding strings_of
named_known named behind = texts_known (strings_of named behind) named (λ text k. fold_finds (named ++ behind) [] text (any_left (bytes_eq text) named behind k))

-- those that descriptions and rules say, and the names of values
module _ (named : List (List ℕ)) (d : Declared) (origins : List Origin) where
  behind_parts : (list_all (is_known (strings_of named (strings_behind d origins))) (strings_said origins) ≡ true) × (list_all (is_known (strings_of named (strings_behind d origins))) (names_of_values d.values) ≡ true)
  behind_parts =
      let known = is_known (strings_of named (strings_behind d origins)) in
      and_parts (list_all known (strings_said origins)) (list_all known (names_of_values d.values)) (sym (list_all-append known (strings_said origins) (names_of_values d.values)) ∙ behind_known named (strings_behind d origins))

  pub said_known : list_all (is_known (strings_of named (strings_behind d origins))) (strings_said origins) ≡ true
  said_known = behind_parts.0

  pub names_known : list_all (is_known (strings_of named (strings_behind d origins))) (names_of_values d.values) ≡ true
  names_known = behind_parts.1

-- ---- numbers of strings have room in their bytes

pub number_small : (o : Option ℕ) → number_or_none o < 65536
number_small None = omega arith
number_small (Some place) = omega arith

pub named_small : (strings : List (List ℕ)) (x : List ℕ) → ltb (number_in strings x) 65536 ≡ true
unfolding number_in
named_small strings x = lt-ltb _ _ (number_small _)

pub all_named_small : (strings xs : List (List ℕ)) → list_all (λ n. ltb n 65536) (map (number_in strings) xs) ≡ true
all_named_small strings [] = refl
all_named_small strings (x ∷ xs) = and_from (ltb (number_in strings x) 65536) (list_all (λ n. ltb n 65536) (map (number_in strings) xs)) (named_small strings x) (all_named_small strings xs)
