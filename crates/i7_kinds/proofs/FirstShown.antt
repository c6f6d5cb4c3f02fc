-- A scan from left to right finds the first item that shows what it tests, and where lines rise the lowest line.
use Rattle.std.proofs.Common.{◌≡◌, ℕ, ◌≤◌, Bool, true, false, List, [], ◌∷◌, ◌++◌, Option, refl, sym, ap, ◌∙◌, subst, append_assoc, arith, inl, inr, ◌⊎◌, ⊎_elim, true≢false}
use Rattle.std.specs.Prelude.{Some, None, find, fold, option_map, if◌then◌else◌}
use Rattle.std.proofs.lemmas.Bool.{cases_Bool}
use Rattle.i7_kinds.specs.FirstShown.{IsFirst, IsFound, IsShown, IsShownAt}
use Rattle.i7_lexer.specs.Rising.{LinesRise}
use Rattle.i7_claims.specs.Scans.{IsLowest}

module _ {A : Type 0} where
  -- what shows it among these does so among more
  pub shown_on : (Here : List A → A → Type 0) (items more : List A) → IsShown Here items → IsShown Here (items ++ more)
  shown_on Here items more s = record {
    before = s.before;
    item = s.item;
    after = s.after ++ more;
    split = ap (λ (xs : List A). xs ++ more) s.split ∙ append_assoc s.before (s.item ∷ s.after) more;
    here = s.here;
  }

  pub shown_as : (P Q : List A → A → Type 0) (items : List A) → ((before : List A) (item : A) → P before item → Q before item) → IsShown P items → IsShown Q items
  shown_as P Q items to s = record { before = s.before; item = s.item; after = s.after; split = s.split; here = to s.before s.item s.here }

  -- two items of one list: the second stands before the first, is it, or stands behind it
  pub two_places : (b : List A) (x : A) (a d : List A) (y : A) (c : List A) → b ++ x ∷ a ≡ d ++ y ∷ c
      → ((between : List A) × (b ≡ d ++ y ∷ between)) ⊎ ((x ≡ y) ⊎ ((between : List A) × (a ≡ between ++ y ∷ c) × (d ≡ b ++ x ∷ between)))
  two_places [] x a [] y c e = inr (inl cc)
  two_places [] x a (z ∷ zs) y c e = let same : z ≡ x = cc in inr (inr (zs, cc, ap (λ (w : A). w ∷ zs) same))
  two_places (z ∷ zs) x a [] y c e = let same : z ≡ y = cc in inl (zs, ap (λ (w : A). w ∷ zs) same)
  two_places (z ∷ zs) x a (w ∷ ws) y c e =
      let rest : zs ++ x ∷ a ≡ ws ++ y ∷ c = cc in
      let same : z ≡ w = cc in
      ⊎_elim
      (λ t. inl (t.0, λ i. same i ∷ t.1 i))
      (λ t. inr (⊎_elim (λ here. inl here) (λ u. inr (u.0, u.1, λ i. sym same i ∷ u.2 i)) t))
      (two_places zs x a ws y c rest)

  module _ (line_of : A → ℕ) where
    lowest_of_first : (Here : List A → A → Type 0) (items : List A) (found : Option ℕ) → LinesRise line_of items → IsFirst line_of Here items found → IsLowest (IsShownAt line_of Here items) found
    lowest_of_first Here items None rise none = λ line s. none s.0
    lowest_of_first Here items (Some l) rise f = (
      (f.first, f.on),
      λ line s.
          let first = f.first in
          let other = s.0 in
          let on = f.on in
          let at = s.1 in
          ⊎_elim
          (λ t. absurd (f.none_before (record { before = other.before; item = other.item; after = t.0; split = t.1; here = other.here })))
          (λ t. ⊎_elim
          (λ same. let e : line_of first.item ≡ line_of other.item = ap line_of same in omega arith)
          (λ u. let le : line_of first.item ≤ line_of other.item = rise first.before u.0 other.after first.item other.item
          (first.split ∙ ap (λ (xs : List A). first.before ++ first.item ∷ xs) u.1) in omega arith)
          t)
          (two_places first.before first.item first.after other.before other.item other.after (sym first.split ∙ other.split)),
    )

    pub found_of_first : (Here : List A → A → Type 0) (items : List A) (found : Option ℕ) → IsFirst line_of Here items found → IsFound line_of Here items found
    found_of_first Here items found f = record { first = f; lowest = λ rise. lowest_of_first Here items found rise f }

    -- what shows one thing where it shows the other, or where something before it shows that
    pub first_same : (P Q : List A → A → Type 0) (items : List A) (found : Option ℕ)
        → ((before : List A) (item : A) (after : List A) → items ≡ before ++ item ∷ after → P before item → Q before item)
        → ((before : List A) (item : A) (after : List A) → items ≡ before ++ item ∷ after → Q before item → P before item ⊎ IsShown P before)
        → IsFirst line_of P items found → IsFirst line_of Q items found
    first_same P Q items None to from none = λ s.
        ⊎_elim
        (λ here. none (record { before = s.before; item = s.item; after = s.after; split = s.split; here = here }))
        (λ earlier. none (subst (λ (xs : List A). IsShown P xs) (sym s.split) (shown_on P s.before (s.item ∷ s.after) earlier)))
        (from s.before s.item s.after s.split s.here)
    first_same P Q items (Some l) to from f =
        let first = f.first in
        record {
          first = record { before = first.before; item = first.item; after = first.after; split = first.split; here = to first.before first.item first.after first.split first.here };
          none_before = λ s.
              ⊎_elim
              (λ here. f.none_before (record { before = s.before; item = s.item; after = s.after; split = s.split; here = here }))
              (λ earlier. f.none_before (subst (λ (xs : List A). IsShown P xs) (sym s.split) (shown_on P s.before (s.item ∷ s.after) earlier)))
              (from s.before s.item (s.after ++ first.item ∷ first.after)
              (first.split ∙ ap (λ (xs : List A). xs ++ first.item ∷ first.after) s.split ∙ append_assoc s.before (s.item ∷ s.after) (first.item ∷ first.after)) s.here);
          on = f.on;
        }

-- the first item at which a test passes, by the state that those before it left
abbrev pub first_passed : {S A : Type 0} → (S → A → Bool) → (S → A → S) → S → List A → Option A
first_passed shows next state [] = None
first_passed shows next state (x ∷ xs) = if shows state x then Some x else first_passed shows next (next state x) xs

module _ {S A : Type 0} (line_of : A → ℕ) (shows : S → A → Bool) (next : S → A → S) where
  Passes : S → List A → A → Type 0
  Passes start before item = shows (fold next start before) item ≡ true

  passed_within : (start : S) (x : A) (xs before : List A) (item : A) (after : List A) → shows start x ≡ false → x ∷ xs ≡ before ++ item ∷ after → shows (fold next start before) item ≡ true
      → (rest : List A) × (before ≡ x ∷ rest) × (xs ≡ rest ++ item ∷ after) × (shows (fold next (next start x) rest) item ≡ true)
  passed_within start x xs [] item after isnt split here = let same : x ≡ item = cc in absurd (true≢false (sym here ∙ ap (shows start) (sym same) ∙ isnt))
  passed_within start x xs (y ∷ ys) item after isnt split here =
      let same : x ≡ y = cc in
      let rest : xs ≡ ys ++ item ∷ after = cc in
      (ys, ap (λ (w : A). w ∷ ys) (sym same), rest, subst (λ (w : A). shows (fold next (next start w) ys) item ≡ true) (sym same) here)

  passed_later : (start : S) (x : A) (xs : List A) (found : Option ℕ) → shows start x ≡ false → IsFirst line_of (Passes (next start x)) xs found → IsFirst line_of (Passes start) (x ∷ xs) found
  unfolding Passes
  passed_later start x xs None isnt none = λ s.
      let t = passed_within start x xs s.before s.item s.after isnt s.split s.here in
      none (record { before = t.0; item = s.item; after = s.after; split = t.2; here = t.3 })
  passed_later start x xs (Some l) isnt f =
      let first = f.first in
      record {
        first = record { before = x ∷ first.before; item = first.item; after = first.after; split = ap (λ (ys : List A). x ∷ ys) first.split; here = first.here };
        none_before = λ s.
            let t = passed_within start x first.before s.before s.item s.after isnt s.split s.here in
            f.none_before (record { before = t.0; item = s.item; after = s.after; split = t.2; here = t.3 });
        on = f.on;
      }

  nothing_in_none : (start : S) → IsShown (Passes start) [] → ⊥
  nothing_in_none start s = nothing s.before s.item s.after s.split
    where
      nothing : (before : List A) (item : A) (after : List A) → [] ≡ before ++ item ∷ after → ⊥
      nothing [] item after e = absurd cc
      nothing (x ∷ xs) item after e = absurd cc

  pub passed_first : (start : S) (items : List A) → IsFirst line_of (λ before item. shows (fold next start before) item ≡ true) items (option_map line_of (first_passed shows next start items))
  unfolding Passes
  passed_first start [] = nothing_in_none start
  passed_first start (x ∷ xs) =
      elim (cases_Bool (shows start x)) [
        | inl is ↦ rw is (record { first = record { before = []; item = x; after = xs; split = refl; here = is }; none_before = nothing_in_none start; on = refl })
        | inr isnt ↦ rw isnt (passed_later start x xs _ isnt (passed_first (next start x) xs))
      ]

pub found_passed : {A : Type 0} (test : A → Bool) (items : List A) → find test items ≡ first_passed (λ (state : Unit {0}) item. test item) (λ state item. state) tt items
found_passed test [] = refl
found_passed test (x ∷ xs) =
    elim (cases_Bool (test x)) [
      | inl is ↦ rw is refl
      | inr isnt ↦ rw isnt (found_passed test xs)
    ]
