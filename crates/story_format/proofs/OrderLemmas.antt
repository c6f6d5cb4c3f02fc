-- The strings of a tale stand once and in order, all of them named, and so do its codes.
use Rattle.std.proofs.Common.{◌≡◌, ℕ, ◌+◌, ◌<◌, ◌≤◌, true, false, ltb, leb, eqb, List, [], ◌∷◌, ◌++◌, length, map, Option, Some, None, refl, sym, ap, ◌∙◌, append_assoc, arith, inl, inr}
use Rattle.std.specs.Prelude.{min, max, fold, filter}
use Rattle.std.specs.List.{list_any, flat_map, position_or_len}
use Rattle.std.specs.Str.{bytes_eq}
use Rattle.std.proofs.lemmas.Bool.{lt-ltb, ne_eqb, eq-eqb, eqb-true, le-leb, cases_Bool, and_from, and_parts}
use Rattle.std.proofs.lemmas.List.{length-append, append-nil, map-append}
use Rattle.object_words.specs.Mentions.{mention, first_mentions, number_in}
use Rattle.story_format.specs.Making.{Worded, code_count, code_number, codes_in, entry_of, entry_strings, entries_of, strings_of}
use Rattle.story_format.specs.Checks.{are_distinct, are_named_in_order, strings_named, codes_named, is_some_code}
use Rattle.code_table.specs.Strings.{counted_on}
use Rattle.story_format.specs.Soundness.{are_in_turn}
use Rattle.object_words.proofs.Folds.{fold_both}
use Rattle.story_format.proofs.Counting.{counted_rest}
use Rattle.story_format.proofs.EntryLemmas.{objects_in}
use Rattle.story_format.proofs.Known.{passes_at, text_is_itself}

-- ---- no string twice

pub mention_new : (seen : List (List ℕ)) (x : List ℕ) → list_any (bytes_eq x) seen ≡ false → mention seen x ≡ seen ++ x ∷ []
mention_new seen x h = rw h refl

pub mention_old : (seen : List (List ℕ)) (x : List ℕ) → list_any (bytes_eq x) seen ≡ true → mention seen x ≡ seen
mention_old seen x h = rw h refl

rebuilt_step : (seen : List (List ℕ)) (x : List ℕ) → first_mentions seen ≡ seen → first_mentions (mention seen x) ≡ mention seen x
rebuilt_step seen x h =
    elim (cases_Bool (list_any (bytes_eq x) seen)) [
      | inl is ↦ ap first_mentions (mention_old seen x is) ∙ h ∙ sym (mention_old seen x is)
      | inr isnt ↦ ap first_mentions (mention_new seen x isnt) ∙ fold_both mention [] seen (x ∷ []) ∙ ap (λ (s : List (List ℕ)). mention s x) h
    ]

rebuilt : (strings seen : List (List ℕ)) → first_mentions seen ≡ seen → first_mentions (fold mention seen strings) ≡ fold mention seen strings
rebuilt [] seen h = h
rebuilt (x ∷ strings) seen h = rebuilt strings (mention seen x) (rebuilt_step seen x h)

pub strings_distinct : (named behind : List (List ℕ)) → are_distinct (strings_of named behind) ≡ true
unfolding are_distinct strings_of
strings_distinct named behind = eq-eqb _ _ (ap length (rebuilt (named ++ behind) [] refl))

-- ---- strings are named in order

pub grows : (strings seen : List (List ℕ)) → (more : List (List ℕ)) × (fold mention seen strings ≡ seen ++ more)
grows [] seen = ([], sym (append-nil seen))
grows (x ∷ strings) seen =
    let t = grows strings (mention seen x) in
    elim (cases_Bool (list_any (bytes_eq x) seen)) [
      | inl is ↦ (t.0, t.1 ∙ ap (λ (s : List (List ℕ)). s ++ t.0) (mention_old seen x is))
      | inr isnt ↦ (x ∷ t.0, t.1 ∙ ap (λ (s : List (List ℕ)). s ++ t.0) (mention_new seen x isnt) ∙ append_assoc seen (x ∷ []) t.0)
    ]

pub place_in_front : (seen more : List (List ℕ)) (x : List ℕ) → list_any (bytes_eq x) seen ≡ true → position_or_len (bytes_eq x) (seen ++ more) ≡ position_or_len (bytes_eq x) seen
place_in_front [] more x h = absurd cc
place_in_front (s ∷ ss) more x h =
    elim (cases_Bool (bytes_eq x s)) [
      | inl is ↦ rw is refl
      | inr isnt ↦ let later : list_any (bytes_eq x) ss ≡ true = rw isnt at h in rw (isnt, place_in_front ss more x later) refl
    ]

pub place_behind : (seen more : List (List ℕ)) (x : List ℕ) → list_any (bytes_eq x) seen ≡ false → position_or_len (bytes_eq x) (seen ++ x ∷ more) ≡ length seen
place_behind [] more x h = rw (text_is_itself x) refl
place_behind (s ∷ ss) more x h =
    elim (cases_Bool (bytes_eq x s)) [
      | inl is ↦ let z : true ≡ false = rw is at h in absurd cc
      | inr isnt ↦ let later : list_any (bytes_eq x) ss ≡ false = rw isnt at h in rw (isnt, place_behind ss more x later) (omega arith)
    ]

pub number_is_place : (strings : List (List ℕ)) (x : List ℕ) → position_or_len (bytes_eq x) strings < length strings → length strings < 65535 → number_in strings x ≡ position_or_len (bytes_eq x) strings
unfolding number_in
number_is_place strings x lt few =
    let inside : ltb (position_or_len (bytes_eq x) strings) (length strings) ≡ true = lt-ltb _ _ lt in
    let small : min (position_or_len (bytes_eq x) strings) 65535 ≡ position_or_len (bytes_eq x) strings = omega (arith, lt, few) in
    rw (inside, small) refl

all_ordered : (whole named seen : List (List ℕ)) → whole ≡ fold mention seen named → length whole < 65535 → counted_on (length seen) (map (number_in whole) named) ≡ Some (length whole)
all_ordered whole [] seen e few = ap Some (ap length (sym e))
all_ordered whole (x ∷ named) seen e few =
    let t = grows named (mention seen x) in
    elim (cases_Bool (list_any (bytes_eq x) seen)) [
      | inl is ↦
          let split : whole ≡ seen ++ t.0 = e ∙ t.1 ∙ ap (λ (s : List (List ℕ)). s ++ t.0) (mention_old seen x is) in
          let inside = (passes_at seen x is).0 in
          let place : position_or_len (bytes_eq x) whole ≡ position_or_len (bytes_eq x) seen = ap (position_or_len (bytes_eq x)) split ∙ place_in_front seen t.0 x is in
          let count : length whole ≡ length seen + length t.0 = ap length split ∙ length-append seen t.0 in
          let number : number_in whole x ≡ position_or_len (bytes_eq x) seen = number_is_place whole x (omega (arith, place, count, inside)) few ∙ place in
          let low : leb (number_in whole x) (length seen) ≡ true = le-leb _ _ (omega (arith, number, inside)) in
          let next : max (length seen) (number_in whole x + 1) ≡ length seen = omega (arith, number, inside) in
          rw (low, next) (all_ordered whole named seen (e ∙ ap (λ (s : List (List ℕ)). fold mention s named) (mention_old seen x is)) few)
      | inr isnt ↦
          let split : whole ≡ seen ++ x ∷ t.0 = e ∙ t.1 ∙ ap (λ (s : List (List ℕ)). s ++ t.0) (mention_new seen x isnt) ∙ append_assoc seen (x ∷ []) t.0 in
          let place : position_or_len (bytes_eq x) whole ≡ length seen = ap (position_or_len (bytes_eq x)) split ∙ place_behind seen t.0 x isnt in
          let count : length whole ≡ length seen + length (x ∷ t.0) = ap length split ∙ length-append seen (x ∷ t.0) in
          let number : number_in whole x ≡ length seen = number_is_place whole x (omega (arith, place, count)) few ∙ place in
          let low : leb (number_in whole x) (length seen) ≡ true = le-leb _ _ (omega (arith, number)) in
          let seen_count : length (seen ++ x ∷ []) ≡ length seen + 1 = length-append seen (x ∷ []) in
          let next : max (length seen) (number_in whole x + 1) ≡ length (seen ++ x ∷ []) = omega (arith, number, seen_count) in
          rw (low, next) (all_ordered whole named (seen ++ x ∷ []) (e ∙ ap (λ (s : List (List ℕ)). fold mention s named) (mention_new seen x isnt)) few)
    ]

pub numbers_named : (strings : List (List ℕ)) (next : ℕ) (ws : List Worded) → flat_map strings_named (entries_of strings next ws) ≡ map (number_in strings) (flat_map entry_strings ws)
unfolding entries_of entry_of entry_strings
numbers_named strings next [] = refl
numbers_named strings next (w ∷ ws) =
    ap (λ (later : List ℕ). number_in strings w.object.name ∷ (map (number_in strings) (w.words) ++ later)) (numbers_named strings (next + code_count w.object.description) ws)
    ∙ ap (λ (later : List ℕ). number_in strings w.object.name ∷ later) (sym (map-append (number_in strings) (w.words) (flat_map entry_strings ws)))

pub strings_all_named : (named behind : List (List ℕ)) → length (strings_of named behind) < 65535 → counted_on 0 (map (number_in (strings_of named behind)) (named ++ behind)) ≡ Some (length (strings_of named behind))
unfolding strings_of
strings_all_named named behind few = all_ordered (strings_of named behind) (named ++ behind) [] refl few

-- where all are named in order, those in front are
in_order_in_front : (ns ms : List ℕ) (count next : ℕ) → counted_on next (ns ++ ms) ≡ Some count → are_named_in_order next ns ≡ true
unfolding are_named_in_order
in_order_in_front [] ms count next h = refl
in_order_in_front (n ∷ ns) ms count next h =
    let t = counted_rest count next n (ns ++ ms) h in
    and_from (leb n next) (are_named_in_order (max next (n + 1)) ns) (le-leb _ _ t.0) (in_order_in_front ns ms count (max next (n + 1)) t.1)

pub strings_in_order : (named behind : List (List ℕ)) → length (strings_of named behind) < 65535 → are_named_in_order 0 (map (number_in (strings_of named behind)) named) ≡ true
strings_in_order named behind few =
    let strings = strings_of named behind in
    let parts = map-append (number_in strings) named behind in
    in_order_in_front (map (number_in strings) named) (map (number_in strings) behind) (length strings) 0 (sym (ap (counted_on 0) parts) ∙ strings_all_named named behind few)

-- ---- codes are named in order

pub entry_code : (strings : List (List ℕ)) (next : ℕ) (w : Worded) → (entry_of strings next w).description ≡ code_number next w.object.description
unfolding entry_of
entry_code strings next w = refl

pub at_most_one : (d : Option (List ℕ)) → code_count d ≤ 1
at_most_one None = omega arith
at_most_one (Some text) = omega arith

one_in_turn : (next : ℕ) (d : Option (List ℕ)) (later : List ℕ) → next < 65535 → are_in_turn (next + code_count d) (filter is_some_code later) ≡ true → are_in_turn next (filter is_some_code (code_number next d ∷ later)) ≡ true
unfolding are_in_turn
one_in_turn next None later lt h = let same : next + 0 ≡ next = omega arith in ap (λ k. are_in_turn k (filter is_some_code later)) (sym same) ∙ h
one_in_turn next (Some text) later lt h =
    let number : min next 65535 ≡ next = omega arith in
    let told : eqb next 65535 ≡ false = ne_eqb _ _ (λ k. omega (arith, k, lt)) in
    rw (number, told, eq-eqb next next refl) h

pub codes_in_turn : (strings : List (List ℕ)) (ws : List Worded) (next : ℕ) → next + length ws < 65535 → are_in_turn next (codes_named (entries_of strings next ws)) ≡ true
unfolding entries_of are_in_turn
codes_in_turn strings [] next lt = refl
codes_in_turn strings (w ∷ ws) next lt =
    let bound = at_most_one w.object.description in
    rw (entry_code strings next w) (one_in_turn next w.object.description (map (λ e. e.description) (entries_of strings (next + code_count w.object.description) ws)) (omega (arith, lt))
    (codes_in_turn strings ws (next + code_count w.object.description) (omega (arith, bound, lt))))

one_counted : (next : ℕ) (d : Option (List ℕ)) (later : List ℕ) (count : ℕ) → next < 65535 → length (filter is_some_code later) ≡ count → length (filter is_some_code (code_number next d ∷ later)) ≡ code_count d + count
one_counted next None later count lt h = omega (arith, h)
one_counted next (Some text) later count lt h =
    let number : min next 65535 ≡ next = omega arith in
    let told : eqb next 65535 ≡ false = ne_eqb _ _ (λ k. omega (arith, k, lt)) in
    rw (number, told) (omega (arith, h))

-- so many are named as there are
pub codes_counted : (strings : List (List ℕ)) (ws : List Worded) (next : ℕ) → next + length ws < 65535 → length (codes_named (entries_of strings next ws)) ≡ codes_in (objects_in ws)
unfolding entries_of
codes_counted strings [] next lt = refl
codes_counted strings (w ∷ ws) next lt =
    let bound = at_most_one w.object.description in
    let rest = codes_counted strings ws (next + code_count w.object.description) (omega (arith, bound, lt)) in
    rw (entry_code strings next w) (one_counted next w.object.description (map (λ e. e.description) (entries_of strings (next + code_count w.object.description) ws)) (codes_in (objects_in ws)) (omega (arith, lt)) rest)

-- they are no more than the objects
pub codes_few : (ws : List Worded) → codes_in (objects_in ws) ≤ length ws
codes_few [] = omega arith
codes_few (w ∷ ws) = omega (arith, codes_few ws, at_most_one w.object.description)

pub in_turn_in_order : (ns : List ℕ) (next : ℕ) → are_in_turn next ns ≡ true → are_named_in_order next ns ≡ true
unfolding are_named_in_order are_in_turn
in_turn_in_order [] next h = refl
in_turn_in_order (n ∷ ns) next h =
    let t = and_parts (eqb n next) (are_in_turn (next + 1) ns) h in
    let here : n ≡ next = eqb-true n next t.0 in
    let low : leb n next ≡ true = le-leb _ _ (omega (arith, here)) in
    let up : max next (n + 1) ≡ next + 1 = omega (arith, here) in
    and_from (leb n next) (are_named_in_order (max next (n + 1)) ns) low (ap (λ k. are_named_in_order k ns) up ∙ in_turn_in_order ns (next + 1) t.1)
