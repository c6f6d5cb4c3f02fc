-- What is one too many or too long is found at the first that shows it, and sources without a room are refused.
use Rattle.std.proofs.Common.{◌≡◌, ℕ, zero, suc, ◌+◌, ◌-◌, ◌≤◌, ◌<◌, true, false, List, [], ◌∷◌, ◌++◌, length, drop, Option, refl, sym, ap, ◌∙◌, subst, arith, length-append, inl, inr, ◌⊎◌, ⊎_elim, true≢false}
use Rattle.std.specs.Prelude.{Some, None, Decides, option_map, slice_get}
use Rattle.std.specs.List.{list_any}
use Rattle.std.proofs.lemmas.Bool.Decides.{Decides-ltb, Decides-or}
use Rattle.std.proofs.lemmas.Bool.{cases_Bool}
use Rattle.world_meaning.proofs.Climbs.{climbs_decide}
use Rattle.world_meaning.specs.Kinds.{is_under, room_kind}
use Rattle.object_words.specs.Words.{words_for}
use Rattle.i7_claims.specs.Statements.{NameAt}
use Rattle.i7_claims.specs.declared.statements.NumberedSentence.{NumberedSentence}
use Rattle.i7_kinds.specs.Demands.{descriptions_of, first_of_author, line_at, line_of_statement}
use Rattle.i7_kinds.specs.FirstShown.{IsFirst, IsFound, IsShown}
use Rattle.i7_kinds.specs.Knowns.{kind_of}
use Rattle.i7_kinds.specs.RefusalsShown.{DescribesAtLength, IsLongName, IsOneTooMany, IsRefusedRoomless, IsRoom, IsRoomFound}
use Rattle.i7_kinds.specs.Suits.{first_room, room_from}
use Rattle.i7_kinds.specs.Tales.{has_long_name, has_long_text, is_too_long, name_too_long, no_room, object_too_many, text_too_long}
use Rattle.i7_kinds.specs.declared.knowns.Known.{Known}
use Rattle.i7_kinds.proofs.Contrary.{any_from, any_to}
use Rattle.i7_kinds.proofs.DescribedAgain.{describes_from, describes_to, lines_same, tells}
use Rattle.i7_kinds.proofs.FirstShown.{first_same, found_of_first, found_passed, passed_first}
use Rattle.i7_kinds.proofs.KindsDecided.{about_last, then_about}

-- ---- one too many

module _ {A : Type 0} (line_of : A → ℕ) where
  Behind : ℕ → List A → A → Type 0
  Behind n before x = n ≤ length before

  -- the one at a place, or a list that ends before it
  at_place : (xs : List A) (n : ℕ) → ((slice_get xs n ≡ None) × (length xs ≤ n)) ⊎
      ((before : List A) × (x : A) × (after : List A) × (slice_get xs n ≡ Some x) × (xs ≡ before ++ x ∷ after) × (length before ≡ n))
  at_place [] n = inl (refl, omega arith)
  at_place (x ∷ xs) zero = inr ([], x, xs, refl, refl, refl)
  at_place (x ∷ xs) (suc n) =
      ⊎_elim
      (λ t. inl (t.0, omega (arith, t.1)))
      (λ t. inr (x ∷ t.0, t.1, t.2, t.3, ap (λ (ys : List A). x ∷ ys) t.4, ap suc t.5))
      (at_place xs n)

  shown_below : (n : ℕ) (xs : List A) → length xs ≤ n → IsShown (Behind n) xs → ⊥
  unfolding Behind
  shown_below n xs few s =
      let whole : length xs ≡ length s.before + length (s.item ∷ s.after) = ap length s.split ∙ length-append s.before (s.item ∷ s.after) in
      let behind : n ≤ length s.before = s.here in
      absurd (omega arith)

  placed_first : (n : ℕ) (xs : List A) → IsFirst line_of (λ before x. n ≤ length before) xs (option_map line_of (slice_get xs n))
  unfolding Behind
  placed_first n xs =
      ⊎_elim
      (λ t. rw t.0 (shown_below n xs t.1))
      (λ t. rw t.3 (record {
        first = record { before = t.0; item = t.1; after = t.2; split = t.4; here = omega (arith, t.5) };
        none_before = shown_below n t.0 (omega (arith, t.5));
        on = refl;
      }))
      (at_place xs n)

one_too_many_first : (mentions : List NameAt) → IsFirst line_at IsOneTooMany mentions (object_too_many mentions)
one_too_many_first mentions =
    first_same line_at (λ before at. 987 ≤ length before) IsOneTooMany mentions (object_too_many mentions)
    (λ before at after split h. omega (arith, h))
    (λ before at after split h. inl (omega (arith, h)))
    (placed_first line_at 987 mentions)

pub one_too_many_found : (mentions : List NameAt) → IsFound line_at IsOneTooMany mentions (object_too_many mentions)
one_too_many_found mentions = found_of_first line_at IsOneTooMany mentions (object_too_many mentions) (one_too_many_first mentions)

-- ---- too long

long_decides : (name : List ℕ) → Decides (is_too_long name) (IsLongName name)
long_decides name = Decides-or _ _ (Decides-ltb 65535 (length name)) (Decides-ltb 32 (length (words_for first_of_author name)))

abbrev HasLongName : List NameAt → NameAt → Type 0
HasLongName before at = IsLongName at.name.text

long_name_first : (mentions : List NameAt) → IsFirst line_at HasLongName mentions (name_too_long mentions)
long_name_first mentions =
    first_same line_at (λ before at. has_long_name at ≡ true) HasLongName mentions (name_too_long mentions)
    (λ before at after split h. (long_decides at.name.text).0 h)
    (λ before at after split h. inl ((long_decides at.name.text).1 h))
    (subst (λ (found : Option NameAt). IsFirst line_at (λ before at. has_long_name at ≡ true) mentions (option_map line_at found)) (sym (found_passed has_long_name mentions))
    (passed_first line_at (λ (state : Unit {0}) at. has_long_name at) (λ state at. state) tt mentions))

pub long_name_found : (mentions : List NameAt) → IsFound line_at (λ before at. IsLongName at.name.text) mentions (name_too_long mentions)
long_name_found mentions = found_of_first line_at HasLongName mentions (name_too_long mentions) (long_name_first mentions)

module _ (parents : List (Option ℕ)) (knowns : List Known) where
  long_text_first : (statements : List NumberedSentence) → IsFirst line_of_statement (DescribesAtLength parents knowns) statements (text_too_long (descriptions_of parents knowns statements))
  long_text_first statements =
      first_same line_of_statement (λ before s. list_any has_long_text (tells parents knowns (about_last before) s) ≡ true) (DescribesAtLength parents knowns) statements
      (text_too_long (descriptions_of parents knowns statements))
      (λ before s after split h.
      let t = any_to has_long_text (tells parents knowns (about_last before) s) h in
      record { object = t.0.object; text = t.0.text; describes = describes_to parents knowns before t.0 s.said s.line t.1; long = (Decides-ltb 65535 (length t.0.text)).0 t.2 })
      (λ before s after split d. inl (any_from has_long_text (tells parents knowns (about_last before) s) (record { object = d.object; text = d.text; line = s.line })
      (describes_from parents knowns before d.object d.text s.said s.line d.describes) ((Decides-ltb 65535 (length d.text)).1 d.long)))
      (subst (λ (line : Option ℕ). IsFirst line_of_statement (λ before s. list_any has_long_text (tells parents knowns (about_last before) s) ≡ true) statements line)
      (sym (lines_same parents knowns has_long_text None statements))
      (passed_first line_of_statement (λ state s. list_any has_long_text (tells parents knowns state s)) then_about None statements))

  pub long_text_found : (statements : List NumberedSentence) → IsFound line_of_statement (DescribesAtLength parents knowns) statements (text_too_long (descriptions_of parents knowns statements))
  long_text_found statements = found_of_first line_of_statement (DescribesAtLength parents knowns) statements (text_too_long (descriptions_of parents knowns statements)) (long_text_first statements)

  -- ---- rooms

  -- the first room among objects counted from one on
  FoundFrom : ℕ → List Known → Option ℕ → Type 0
  FoundFrom from ks None = (i : ℕ) → IsRoom parents ks i → ⊥
  FoundFrom from ks (Some o) = (i : ℕ) × (o ≡ from + i) × IsRoom parents ks i × ((j : ℕ) → j < i → IsRoom parents ks j → ⊥)

  no_known : (i : ℕ) → IsRoom parents [] i → ⊥
  no_known i r = let none : None ≡ Some r.known = r.at in absurd cc

  one_behind : (k : Known) (ks : List Known) (i : ℕ) → IsRoom parents (k ∷ ks) (suc i) → IsRoom parents ks i
  one_behind k ks i r = record { known = r.known; at = r.at; under = r.under }

  not_first : (k : Known) (ks : List Known) → is_under parents (kind_of k) room_kind ≡ false → IsRoom parents (k ∷ ks) 0 → ⊥
  not_first k ks isnt r =
      let same : k ≡ r.known = cc in
      true≢false (sym ((climbs_decide parents (kind_of r.known) room_kind).1 r.under) ∙ ap (λ (x : Known). is_under parents (kind_of x) room_kind) (sym same) ∙ isnt)

  found_behind : (from : ℕ) (k : Known) (ks : List Known) (found : Option ℕ) → is_under parents (kind_of k) room_kind ≡ false → FoundFrom (from + 1) ks found → FoundFrom from (k ∷ ks) found
  unfolding FoundFrom
  found_behind from k ks None isnt none = λ i. none_at i
    where
      none_at : (i : ℕ) → IsRoom parents (k ∷ ks) i → ⊥
      none_at zero r = not_first k ks isnt r
      none_at (suc i) r = none i (one_behind k ks i r)
  found_behind from k ks (Some o) isnt t = (suc t.0, omega (arith, t.1), record { known = t.2.known; at = t.2.at; under = t.2.under }, λ j. none_below j)
    where
      none_below : (j : ℕ) → j < suc t.0 → IsRoom parents (k ∷ ks) j → ⊥
      none_below zero lt r = not_first k ks isnt r
      none_below (suc j) lt r = t.3 j (omega arith) (one_behind k ks j r)

  found_from : (from : ℕ) (ks : List Known) → FoundFrom from ks (room_from parents from ks)
  unfolding FoundFrom
  found_from from [] = no_known
  found_from from (k ∷ ks) =
      elim (cases_Bool (is_under parents (kind_of k) room_kind)) [
        | inl is ↦ rw is (0, omega arith, record { known = k; at = refl; under = (climbs_decide parents (kind_of k) room_kind).0 is }, λ j lt r. absurd (omega arith))
        | inr isnt ↦ rw isnt (found_behind from k ks (room_from parents (from + 1) ks) isnt (found_from (from + 1) ks))
      ]

get_behind : {X : Type 0} (n : ℕ) (xs : List X) (i at : ℕ) → at ≡ n + i → slice_get (drop n xs) i ≡ slice_get xs at
get_behind zero xs i at e = let same : i ≡ at = omega (arith, e) in ap (slice_get xs) same
get_behind (suc n) [] i at e = refl
get_behind (suc n) (x ∷ xs) i zero e = absurd (omega (arith, e))
get_behind (suc n) (x ∷ xs) i (suc at) e = get_behind n xs i at (omega (arith, e))

module _ (parents : List (Option ℕ)) (knowns : List Known) where
  room_on : (i : ℕ) → IsRoom parents (drop 13 knowns) i → IsRoom parents knowns (13 + i)
  room_on i r = record { known = r.known; at = sym (get_behind 13 knowns i (13 + i) refl) ∙ r.at; under = r.under }

  room_back : (o i : ℕ) → o ≡ 13 + i → IsRoom parents knowns o → IsRoom parents (drop 13 knowns) i
  room_back o i e r = record { known = r.known; at = get_behind 13 knowns i o e ∙ r.at; under = r.under }

  as_found : (found : Option ℕ) → FoundFrom parents knowns 13 (drop 13 knowns) found → IsRoomFound parents knowns found
  unfolding FoundFrom
  as_found None none = λ o le r. let e : o ≡ 13 + (o - 13) = omega (arith, le) in none (o - 13) (room_back o (o - 13) e r)
  as_found (Some o) t = record {
    of_author = omega (arith, t.1);
    room = subst (λ (n : ℕ). IsRoom parents knowns n) (sym t.1) (room_on t.0 t.2);
    none_before = λ other le lt r.
        let e : other ≡ 13 + (other - 13) = omega (arith, le) in
        let below : other - 13 < t.0 = omega (arith, le, lt, t.1) in
        t.3 (other - 13) below (room_back other (other - 13) e r);
  }

  pub room_found : IsRoomFound parents knowns (first_room parents knowns)
  room_found = as_found (first_room parents knowns) (found_from parents knowns 13 (drop 13 knowns))

  refused_for : (found : Option ℕ) → IsRoomFound parents knowns found → IsRefusedRoomless parents knowns (no_room found)
  refused_for None none = (none, refl)
  refused_for (Some o) first = λ none. none o first.of_author first.room

  pub roomless_refused : IsRefusedRoomless parents knowns (no_room (first_room parents knowns))
  roomless_refused = refused_for (first_room parents knowns) room_found
