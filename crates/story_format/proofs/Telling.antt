-- Strings that are all named, in order, are the first mentions of their texts, and stand once.
use Rattle.std.proofs.Common.{◌≡◌, ℕ, zero, suc, ◌+◌, ◌<◌, ◌≤◌, Bool, true, false, ltb, List, [], ◌∷◌, ◌++◌, length, take, drop, Some, inl, inr, refl, sym, ap, ◌∙◌, arith}
use Rattle.std.specs.Prelude.{fold, map, max}
use Rattle.std.specs.List.{list_all, list_any, position_or_len}
use Rattle.std.specs.Str.{bytes_eq}
use Rattle.std.proofs.Math.Seq.{drop-cons, take-length}
use Rattle.std.proofs.lemmas.List.{length-append, take_more, take-append-drop}
use Rattle.std.proofs.lemmas.Bool.{eqb-true, lt-ltb, ltb-false, ltb-true, cases_Bool, and_parts}
use Rattle.object_words.proofs.Folds.{fold_both}
use Rattle.object_words.proofs.MentionLemmas.{mentioned_few}
use Rattle.object_words.specs.Mentions.{first_mentions, mention}
use Rattle.code_table.specs.Strings.{counted_on}
use Rattle.story_format.specs.Checks.{are_distinct}
use Rattle.story_format.specs.Facts.{text_at}
use Rattle.story_format.proofs.Counting.{counted_rest, named_within}
use Rattle.story_format.proofs.Known.{fold_finds, text_is_itself}
use Rattle.story_format.proofs.OrderLemmas.{mention_new, mention_old, place_behind}

-- ---- a list about one of its places

parted : (strings : List (List ℕ)) (n : ℕ) → n < length strings → strings ≡ take n strings ++ text_at strings n ∷ drop (suc n) strings
parted strings n lt = sym (take-append-drop n strings) ∙ ap (λ (back : List (List ℕ)). take n strings ++ back) (drop-cons strings n [] lt)

length_front : (strings : List (List ℕ)) (n : ℕ) → n < length strings → length (take n strings) ≡ n
length_front [] n lt = absurd (omega (arith, lt))
length_front (s ∷ strings) zero lt = refl
length_front (s ∷ strings) (suc n) lt = ap suc (length_front strings n (omega (arith, lt)))

-- ---- no string stands twice

is_new : (strings : List (List ℕ)) (n : ℕ) → are_distinct strings ≡ true → n < length strings → list_any (bytes_eq (text_at strings n)) (take n strings) ≡ false
unfolding are_distinct
is_new strings n distinct lt =
    let x : List ℕ = text_at strings n in
    let front : List (List ℕ) = take n strings in
    let behind : List (List ℕ) = drop (suc n) strings in
    elim (cases_Bool (list_any (bytes_eq x) front)) [
      | inl is ↦
          let known = fold_finds front [] x is in
          let folded : first_mentions strings ≡ fold mention (fold mention [] front) behind =
          ap first_mentions (parted strings n lt) ∙ fold_both mention [] front (x ∷ behind)
          ∙ ap (λ (seen : List (List ℕ)). fold mention seen behind) (mention_old (fold mention [] front) x known) in
          let all : length (first_mentions strings) ≡ length strings = eqb-true _ _ distinct in
          let few = mentioned_few behind (fold mention [] front) in
          let begun = mentioned_few front [] in
          let parts : length strings ≡ length front + suc (length behind) = ap length (parted strings n lt) ∙ length-append front (x ∷ behind) in
          absurd (omega (arith, sym all ∙ ap length folded, few, begun, parts))
      | inr isnt ↦ isnt
    ]

pub place_of_string : (strings : List (List ℕ)) (n : ℕ) → are_distinct strings ≡ true → n < length strings → position_or_len (bytes_eq (text_at strings n)) strings ≡ n
place_of_string strings n distinct lt =
    ap (λ (all : List (List ℕ)). position_or_len (bytes_eq (text_at strings n)) all) (parted strings n lt)
    ∙ place_behind (take n strings) (drop (suc n) strings) (text_at strings n) (is_new strings n distinct lt) ∙ length_front strings n lt

pub same_number : (strings : List (List ℕ)) (n m : ℕ) → are_distinct strings ≡ true → n < length strings → m < length strings → text_at strings n ≡ text_at strings m → n ≡ m
same_number strings n m distinct lt lt' same =
    sym (place_of_string strings n distinct lt) ∙ ap (λ (x : List ℕ). position_or_len (bytes_eq x) strings) same ∙ place_of_string strings m distinct lt'

abbrev pub is_within : ℕ → ℕ → Bool
is_within count n = ltb n count

pub same_numbers : (strings : List (List ℕ)) (ns ms : List ℕ) → are_distinct strings ≡ true → list_all (is_within (length strings)) ns ≡ true → list_all (is_within (length strings)) ms ≡ true
    → map (text_at strings) ns ≡ map (text_at strings) ms → ns ≡ ms
same_numbers strings [] [] distinct h k same = refl
same_numbers strings [] (m ∷ ms) distinct h k same = absurd cc
same_numbers strings (n ∷ ns) [] distinct h k same = absurd cc
same_numbers strings (n ∷ ns) (m ∷ ms) distinct h k same =
    let a = and_parts (is_within (length strings) n) (list_all (is_within (length strings)) ns) h in
    let b = and_parts (is_within (length strings) m) (list_all (is_within (length strings)) ms) k in
    let head : text_at strings n ≡ text_at strings m = cc in
    let tail : map (text_at strings) ns ≡ map (text_at strings) ms = cc in
    let one : n ≡ m = same_number strings n m distinct (ltb-true _ _ a.0) (ltb-true _ _ b.0) head in
    let others : ns ≡ ms = same_numbers strings ns ms distinct a.1 b.1 tail in
    λ i. one i ∷ others i

-- ---- strings that are all named, in order, are the first mentions of their texts

stands_in_front : (strings : List (List ℕ)) (n next : ℕ) → n < next → n < length strings → list_any (bytes_eq (text_at strings n)) (take next strings) ≡ true
stands_in_front [] n next lt within = absurd (omega (arith, within))
stands_in_front (s ∷ strings) n zero lt within = absurd (omega (arith, lt))
stands_in_front (s ∷ strings) zero (suc next) lt within = rw (text_is_itself s) refl
stands_in_front (s ∷ strings) (suc n) (suc next) lt within =
    elim (cases_Bool (bytes_eq (text_at strings n) s)) [
      | inl is ↦ rw is refl
      | inr isnt ↦ rw isnt (stands_in_front strings n next (omega (arith, lt)) (omega (arith, within)))
    ]

pub all_within : (count next : ℕ) (ns : List ℕ) → counted_on next ns ≡ Some count → list_all (is_within count) ns ≡ true
all_within count next [] h = refl
all_within count next (n ∷ ns) h =
    let t = counted_rest count next n ns h in
    let lt : n < count = omega (arith, named_within count (max next (n + 1)) ns t.1) in
    rw (lt-ltb _ _ lt) (all_within count (max next (n + 1)) ns t.1)

pub mentioned_on : (strings : List (List ℕ)) (next : ℕ) (ns : List ℕ) → are_distinct strings ≡ true → counted_on next ns ≡ Some (length strings)
    → fold mention (take next strings) (map (text_at strings) ns) ≡ strings
mentioned_on strings next [] distinct h = let all : next ≡ length strings = cc in ap (λ (k : ℕ). take k strings) all ∙ take-length strings
mentioned_on strings next (n ∷ ns) distinct h =
    let t = counted_rest (length strings) next n ns h in
    let le : n ≤ next = t.0 in
    let within : n < length strings = omega (arith, named_within (length strings) (max next (n + 1)) ns t.1) in
    let later = mentioned_on strings (max next (n + 1)) ns distinct t.1 in
    let x : List ℕ = text_at strings n in
    elim (cases_Bool (ltb n next)) [
      | inl is ↦
          let lt : n < next = ltb-true _ _ is in
          let same : max next (n + 1) ≡ next = omega (arith, lt) in
          ap (λ (seen : List (List ℕ)). fold mention seen (map (text_at strings) ns)) (mention_old (take next strings) x (stands_in_front strings n next lt within) ∙ ap (λ (k : ℕ). take k strings) (sym same)) ∙ later
      | inr isnt ↦
          let same : next ≡ n = omega (arith, le, ltb-false n next isnt) in
          let more : max next (n + 1) ≡ n + 1 = omega (arith, same) in
          let grown : mention (take next strings) x ≡ take (max next (n + 1)) strings =
          ap (λ (k : ℕ). mention (take k strings) x) same ∙ mention_new (take n strings) x (is_new strings n distinct within) ∙ sym (take_more strings n [] within)
          ∙ ap (λ (k : ℕ). take k strings) (sym more) in
          ap (λ (seen : List (List ℕ)). fold mention seen (map (text_at strings) ns)) grown ∙ later
    ]
