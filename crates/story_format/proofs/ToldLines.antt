-- Lines of the grammar that two stories tell alike are the same lines.
use Rattle.std.proofs.Common.{◌≡◌, ◌∙◌, ap, sym, refl, ℕ, Bool, true, false, not, eqb, List, [], ◌∷◌, ◌++◌, length, inl, inr}
use Rattle.std.specs.Prelude.{filter, map}
use Rattle.std.specs.List.{flat_map, list_all}
use Rattle.std.proofs.lemmas.Bool.{and_parts, cases_Bool, eqb-true, ltb-true}
use Rattle.std.proofs.lemmas.List.{map-append}
use Rattle.std.proofs.lemmas.List.Folds.{list_all-append}
use Rattle.play_meaning.specs.Grammar.{Direction, Line, Something, Word}
use Rattle.story_format.specs.Checks.{are_distinct}
use Rattle.story_format.specs.Facts.{line_in, text_at, token_in}
use Rattle.story_format.specs.Making.{line_strings, token_strings}
use Rattle.story_format.specs.RuleChecks.{is_slot_number, strings_in_line}
use Rattle.story_format.specs.declared.rule_tables.LineEntry.{LineEntry}
use Rattle.story_format.proofs.Telling.{is_within, same_number}

-- what a number in a line is
data IsToken (strings : List (List ℕ)) (n : ℕ) : Type 0 where
  thing : n ≡ 65534 → token_in strings n ≡ Something → is_slot_number n ≡ true → IsToken strings n
  way : n ≡ 65535 → token_in strings n ≡ Direction → is_slot_number n ≡ true → IsToken strings n
  word : token_in strings n ≡ Word (text_at strings n) → is_slot_number n ≡ false → IsToken strings n

token_is : (strings : List (List ℕ)) (n : ℕ) → IsToken strings n
token_is strings n =
    elim (cases_Bool (eqb n 65534)) [
      | inl is ↦ thing (eqb-true _ _ is) (rw is refl) (rw is refl)
      | inr isnt ↦
          elim (cases_Bool (eqb n 65535)) [
            | inl is ↦ way (eqb-true _ _ is) (rw (isnt, is) refl) (rw (isnt, is) refl)
            | inr no_way ↦ word (rw (isnt, no_way) refl) (rw (isnt, no_way) refl)
          ]
    ]

abbrev named_in : List ℕ → List ℕ
named_in ns = filter (λ n. not (is_slot_number n)) ns

-- ---- the texts that lines name

one_text : (strings : List (List ℕ)) (n : ℕ) (ns : List ℕ) → map (text_at strings) (named_in (n ∷ ns)) ≡ token_strings (token_in strings n) ++ map (text_at strings) (named_in ns)
one_text strings n ns =
    elim (token_is strings n) [
      | thing is told slot ↦ rw (told, slot) refl
      | way is told slot ↦ rw (told, slot) refl
      | word told slot ↦ rw (told, slot) refl
    ]

texts_of_tokens : (strings : List (List ℕ)) (ns : List ℕ) → map (text_at strings) (named_in ns) ≡ flat_map token_strings (map (token_in strings) ns)
texts_of_tokens strings [] = refl
texts_of_tokens strings (n ∷ ns) = one_text strings n ns ∙ ap (λ texts. token_strings (token_in strings n) ++ texts) (texts_of_tokens strings ns)

pub texts_of_lines : (strings : List (List ℕ)) (es : List LineEntry) → map (text_at strings) (flat_map strings_in_line es) ≡ flat_map line_strings (map (line_in strings) es)
texts_of_lines strings [] = refl
texts_of_lines strings (e ∷ es) =
    map-append (text_at strings) (strings_in_line e) (flat_map strings_in_line es) ∙ (λ i. texts_of_tokens strings e.tokens i ++ texts_of_lines strings es i)

-- ---- numbers that tell the same tokens are the same

module _ (strings : List (List ℕ)) (distinct : are_distinct strings ≡ true) where
  abbrev within : List ℕ → Bool
  within ns = list_all (is_within (length strings)) ns

  abbrev all_within : List LineEntry → Bool
  all_within es = within (flat_map strings_in_line es)

  first_within : (n : ℕ) (ns : List ℕ) → is_slot_number n ≡ false → within (named_in (n ∷ ns)) ≡ true → is_within (length strings) n ≡ true
  first_within n ns slot h = let both : within (n ∷ named_in ns) ≡ true = rw slot at h in (and_parts (is_within (length strings) n) (within (named_in ns)) both).0

  rest_within : (n : ℕ) (ns : List ℕ) → within (named_in (n ∷ ns)) ≡ true → within (named_in ns) ≡ true
  rest_within n ns h =
      elim (cases_Bool (is_slot_number n)) [
        | inl is ↦ rw is at h
        | inr isnt ↦ let both : within (n ∷ named_in ns) ≡ true = rw isnt at h in (and_parts (is_within (length strings) n) (within (named_in ns)) both).1
      ]

  same_token : (n m : ℕ) (ns ms : List ℕ) → within (named_in (n ∷ ns)) ≡ true → within (named_in (m ∷ ms)) ≡ true → token_in strings n ≡ token_in strings m → n ≡ m
  same_token n m ns ms h k told =
      elim (token_is strings n) [
        | thing is here slot ↦
            elim (token_is strings m) [
              | thing is_too there slot_too ↦ is ∙ sym is_too
              | way is_too there slot_too ↦ let wrong : Something ≡ Direction = sym here ∙ told ∙ there in absurd cc
              | word there slot_too ↦ let wrong : Something ≡ Word (text_at strings m) = sym here ∙ told ∙ there in absurd cc
            ]
        | way is here slot ↦
            elim (token_is strings m) [
              | thing is_too there slot_too ↦ let wrong : Direction ≡ Something = sym here ∙ told ∙ there in absurd cc
              | way is_too there slot_too ↦ is ∙ sym is_too
              | word there slot_too ↦ let wrong : Direction ≡ Word (text_at strings m) = sym here ∙ told ∙ there in absurd cc
            ]
        | word here slot ↦
            elim (token_is strings m) [
              | thing is_too there slot_too ↦ let wrong : Word (text_at strings n) ≡ Something = sym here ∙ told ∙ there in absurd cc
              | way is_too there slot_too ↦ let wrong : Word (text_at strings n) ≡ Direction = sym here ∙ told ∙ there in absurd cc
              | word there slot_too ↦
                  let same : Word (text_at strings n) ≡ Word (text_at strings m) = sym here ∙ told ∙ there in
                  let texts : text_at strings n ≡ text_at strings m = cc in
                  same_number strings n m distinct (ltb-true _ _ (first_within n ns slot h)) (ltb-true _ _ (first_within m ms slot_too k)) texts
            ]
      ]

  same_tokens : (ns ms : List ℕ) → within (named_in ns) ≡ true → within (named_in ms) ≡ true → map (token_in strings) ns ≡ map (token_in strings) ms → ns ≡ ms
  same_tokens [] [] h k told = refl
  same_tokens [] (m ∷ ms) h k told = absurd cc
  same_tokens (n ∷ ns) [] h k told = absurd cc
  same_tokens (n ∷ ns) (m ∷ ms) h k told =
      let head : token_in strings n ≡ token_in strings m = cc in
      let tail : map (token_in strings) ns ≡ map (token_in strings) ms = cc in
      let one = same_token n m ns ms h k head in
      let others = same_tokens ns ms (rest_within n ns h) (rest_within m ms k) tail in
      λ i. one i ∷ others i

  parts_within : (e : LineEntry) (es : List LineEntry) → all_within (e ∷ es) ≡ true → (within (named_in e.tokens) ≡ true) × (all_within es ≡ true)
  parts_within e es h =
      let each = is_within (length strings) in
      and_parts (within (named_in e.tokens)) (all_within es) (sym (list_all-append each (strings_in_line e) (flat_map strings_in_line es)) ∙ h)

  pub same_lines : (es fs : List LineEntry) → all_within es ≡ true → all_within fs ≡ true → map (line_in strings) es ≡ map (line_in strings) fs → es ≡ fs
  same_lines [] [] h k told = refl
  same_lines [] (f ∷ fs) h k told = absurd cc
  same_lines (e ∷ es) [] h k told = absurd cc
  same_lines (e ∷ es) (f ∷ fs) h k told =
      let a = parts_within e es h in
      let b = parts_within f fs k in
      let head : line_in strings e ≡ line_in strings f = cc in
      let tail : map (line_in strings) es ≡ map (line_in strings) fs = cc in
      let tokens = same_tokens e.tokens f.tokens a.0 b.0 (ap (λ (line : Line). line.tokens) head) in
      let others = same_lines es fs a.1 b.1 tail in
      λ i. record { action = (head i).action; tokens = tokens i } ∷ others i
