-- What the codes of numbers and conditions do.
use Rattle.std.proofs.Common.{◌≡◌, ◌∙◌, ap, sym, subst, ℕ, ◌+◌, Bool, true, false, ◌&&◌, List, [], ◌∷◌, ◌++◌, ◌<◌, ◌≤◌, ◌==◌, ◌⊎◌, inl, inr, zero, suc, length, filter, length-append, refl, Option, Some, None, Ok, Err, ℤ, arith}
use Rattle.std.specs.Prelude.{if◌then◌else◌}
use Rattle.std.specs.List.{list_any, range_with_len}
use Rattle.std.proofs.lemmas.Bool.{cases_lt, eq-eqb, le-ltb, lt-ltb, ne_eqb}
use Rattle.play_meaning.specs.Attempts.{Attempt, next}
use Rattle.world_meaning.specs.declared.place.Place.{Place}
use Rattle.world_meaning.specs.declared.place.Rel.{Rel}
use Rattle.world_meaning.specs.declared.session.Abandon.{Abandon}
use Rattle.play_meaning.specs.Codes.{answered, start_at}
use Rattle.play_meaning.specs.Instructions.{Instruction, size_of, sizes}
use Rattle.play_meaning.specs.Machines.{Frame, does, holder_at, joined_if, passing, passing_in, run, with_object}
use Rattle.play_meaning.specs.Progress.{Progress, fresh}
use Rattle.play_meaning.specs.Scoping.{DescriptionIsWithin}
use Rattle.play_meaning.specs.Settings.{Setting, objects_of}
use Rattle.play_meaning.specs.Translation.{test_code}
use Rattle.play_meaning.specs.Trees.{Description}
use Rattle.play_meaning.specs.Truth.{of_some}
use Rattle.play_meaning.specs.Values.{is_one, is_place, those}
use Rattle.world_meaning.specs.Relations.{relation_number}
use Rattle.play_meaning.specs.Worlds.{World}
use Rattle.play_meaning.proofs.Standing.{HasAt}
use Rattle.play_meaning.proofs.Straight.{Gives, St, alike, one_leads, open_loops, scope_in, step_of, test_answers, then_also}

-- ---- tests of a code

-- the code of a test of this number is run, over the same setting and action
pub record TestRuns (f : Frame) (t : ℕ) (is : List Instruction) : Type 0 where
  pub frame : Frame
  pub setting : frame.telling.setting ≡ f.telling.setting
  pub now : frame.now ≡ f.now
  pub runs : (ls : List (Option ℕ)) (w : World) → f.tests t ls w ≡ answered (run frame is (sizes is) (start_at ls (fresh w)))

-- these are tests, the first of this number
abbrev pub HasTests : Frame → ℕ → List (List Instruction) → Type 0
HasTests f t [] = Unit {0}
HasTests f t (is ∷ more) = TestRuns f t is × HasTests f (t + 1) more

pub tests_front : (f : Frame) (t : ℕ) (a b : List (List Instruction)) → HasTests f t (a ++ b) → HasTests f t a
tests_front f t [] b has = tt
tests_front f t (is ∷ more) b has = (has.0, tests_front f (t + 1) more b has.1)

pub tests_back : (f : Frame) (t : ℕ) (a b : List (List Instruction)) → HasTests f t (a ++ b) → HasTests f (t + length a) b
tests_back f t [] b has = let e : t ≡ t + 0 = omega arith in subst (λ n. HasTests f n b) e has
tests_back f t (is ∷ more) b has =
    let e : t + 1 + length more ≡ t + (1 + length more) = omega arith in
    let size : length (is ∷ more) ≡ 1 + length more = omega arith in
    subst (λ n. HasTests f n b) (e ∙ ap (λ n. t + n) (sym size)) (tests_back f (t + 1) more b has.1)

take_loops : (turning : List ℕ) (o : ℕ) → with_object (open_loops turning) (length turning) o ≡ open_loops (turning ++ o ∷ [])
take_loops [] o = refl
take_loops (t ∷ ts) o = ap (λ ls. Some t ∷ ls) (take_loops ts o)

-- a test of a description tells what the description means
pub test_says : (f : Frame) (t : ℕ) (d : Description) (turning : List ℕ) (o : ℕ) (w : World) → DescriptionIsWithin (length turning) d → TestRuns f t (test_code (length turning) d)
    → f.tests t (open_loops (turning ++ o ∷ [])) w ≡ Ok (is_one f.telling.setting (scope_in f turning) w d o)
test_says f t d turning o w within test =
    test.runs (open_loops (turning ++ o ∷ [])) w ∙ (test_answers test.frame d turning o w within
    ∙ (ap (λ s. Ok (is_one s (scope_in test.frame turning) w d o)) test.setting ∙ ap (λ now. Ok (is_one f.telling.setting (record { now = now; turning = turning }) w d o)) test.now))

test_tells : (f : Frame) (t : ℕ) (d : Description) (turning : List ℕ) (o : ℕ) (w : World) → DescriptionIsWithin (length turning) d → TestRuns f t (test_code (length turning) d)
    → f.tests t (with_object (open_loops turning) (length turning) o) w ≡ Ok (is_one f.telling.setting (scope_in f turning) w d o)
test_tells f t d turning o w within test = ap (λ ls. f.tests t ls w) (take_loops turning o) ∙ test_says f t d turning o w within test

joined : (b : Bool) (o : ℕ) (os : List ℕ) → joined_if b o os ≡ (if b then o ∷ os else os)
joined true o os = refl
joined false o os = refl

passing_filter : (test : ℕ → Attempt Bool) (is : ℕ → Bool) (objects : List ℕ) → ((o : ℕ) → test o ≡ Ok (is o)) → passing test objects ≡ Ok (filter is objects)
passing_filter test is [] tells = refl
passing_filter test is (o ∷ os) tells = rw (tells o, passing_filter test is os tells) (ap Ok (joined (is o) o (filter is os)))

-- the objects that pass the test of a description are those that it means
pub those_pass : (f : Frame) (t : ℕ) (d : Description) (turning : List ℕ) (q : ℕ) (xs : List ℤ) (p : Progress)
    → DescriptionIsWithin (length turning) d → TestRuns f t (test_code (length turning) d)
    → passing_in f (St q xs (open_loops turning) p) (length turning) t ≡ Ok (those f.telling.setting (scope_in f turning) p.world d)
unfolding those
those_pass f t d turning q xs p within test =
    passing_filter _ (is_one f.telling.setting (scope_in f turning) p.world d) (objects_of f.telling.setting) (λ o. test_tells f t d turning o p.world within test)

-- ---- values behind one another

-- a value on top of the operands, if play isn't abandoned
abbrev pub on_top : {A : Type 0} → (A → ℤ) → List ℤ → Attempt A → Attempt (List ℤ)
on_top shown xs a = next a (λ v. Ok (shown v ∷ xs))

abbrev pub same : ℤ → ℤ
same n = n

module _ (f : Frame) (c : List Instruction) (turning : List ℕ) (p : Progress) where
  stops : (q : ℕ) (is js : List Instruction) (xs : List ℤ) (reason : Abandon) → Gives f c turning p q is xs (Err reason) → Gives f c turning p q (is ++ js) xs (Err reason)
  stops q is js xs reason gives k =
      let count : length (is ++ js) + k ≡ length is + (length js + k) = omega (arith, length-append is js) in
      ap (λ n. run f c n (St q xs (open_loops turning) p)) count ∙ gives (length js + k)

  -- what follows takes the value
  pub then_value : {A : Type 0} (shown : A → ℤ) (q : ℕ) (is js : List Instruction) (xs : List ℤ) (a : Attempt A) (g : A → Attempt (List ℤ))
      → Gives f c turning p q is xs (on_top shown xs a) → ((v : A) → Gives f c turning p (q + sizes is) js (shown v ∷ xs) (g v)) → Gives f c turning p q (is ++ js) xs (next a g)
  then_value shown q is js xs (Ok v) g first second = then_also f c (open_loops turning) p q is js xs (shown v ∷ xs) (g v) first (second v)
  then_value shown q is js xs (Err reason) g first second = stops q is js xs reason first

  nested : {A B C : Type 0} (a : Attempt A) (b : Attempt B) (h : A → B → Attempt C) (k : C → Attempt (List ℤ))
      → next a (λ x. next b (λ y. next (h x y) k)) ≡ next (next a (λ x. next b (λ y. h x y))) k
  nested (Ok x) (Ok y) h k = refl
  nested (Ok x) (Err reason) h k = refl
  nested (Err reason) b h k = refl

  -- two values, and an instruction that takes both
  pub two_values : {A B : Type 0} (shown : A → ℤ) (shows : B → ℤ) (q : ℕ) (ca cb : List Instruction) (i : Instruction) (xs : List ℤ) (a b : Attempt A) (h : A → A → Attempt B)
      → HasAt c (q + sizes ca + sizes cb) (i ∷ [])
      → Gives f c turning p q ca xs (on_top shown xs a) → ((x : A) → Gives f c turning p (q + sizes ca) cb (shown x ∷ xs) (on_top shown (shown x ∷ xs) b))
      → ((r : ℕ) (x y : A) → does f (St r (shown y ∷ shown x ∷ xs) (open_loops turning) p) i ≡ step_of (next (next (h x y) (λ v. Ok (shows v ∷ xs))) (λ ys. Ok (St (r + size_of i) ys (open_loops turning) p))))
      → Gives f c turning p q (ca ++ (cb ++ i ∷ [])) xs (on_top shows xs (next a (λ x. next b (λ y. h x y))))
  two_values shown shows q ca cb i xs a b h has ga gb is =
      alike f c (open_loops turning) p q (ca ++ (cb ++ i ∷ [])) xs _ _ (nested a b h (λ v. Ok (shows v ∷ xs)))
      (then_value shown q ca (cb ++ i ∷ []) xs a (λ x. next b (λ y. next (h x y) (λ v. Ok (shows v ∷ xs)))) ga
      (λ x. then_value shown (q + sizes ca) cb (i ∷ []) (shown x ∷ xs) b (λ y. next (h x y) (λ v. Ok (shows v ∷ xs))) (gb x)
      (λ y. one_leads f c (open_loops turning) p (q + sizes ca + sizes cb) i (shown y ∷ shown x ∷ xs) (next (h x y) (λ v. Ok (shows v ∷ xs))) has (is (q + sizes ca + sizes cb) x y))))

-- ---- what holds an object is one of these

-- the item in front is no holder, so those behind it tell
any_behind : (b : Bool) (x : ℕ) (is : ℕ → Bool) (start len : ℕ) (first : Bool) → (x == start) ≡ false
    → list_any (λ h. b && (x == h))
    (if first then start ∷ filter is (range_with_len (start + 1) len) else filter is (range_with_len (start + 1) len))
    ≡ list_any (λ h. b && (x == h)) (filter is (range_with_len (start + 1) len))
any_behind b x is start len false other = refl
any_behind false x is start len true other = refl
any_behind true x is start len true other = rw other refl

any_outside : (b : Bool) (x : ℕ) (is : ℕ → Bool) (start len : ℕ) → (x < start) ⊎ (start + len ≤ x) → list_any (λ h. b && (x == h)) (filter is (range_with_len start len)) ≡ false
any_outside b x is start zero out = refl
any_outside b x is start (suc len) (inl less) =
    any_behind b x is start len (is start) (ne_eqb x start (λ e. omega (arith, less, e))) ∙ any_outside b x is (start + 1) len (inl (omega (arith, less)))
any_outside b x is start (suc len) (inr more) =
    any_behind b x is start len (is start) (ne_eqb x start (λ e. omega (arith, more, e))) ∙ any_outside b x is (start + 1) len (inr (omega (arith, more)))

-- the item in front is the holder
any_first : (b : Bool) (is : ℕ → Bool) (start : ℕ) (first : Bool) (rest : List ℕ) → list_any (λ h. b && (start == h)) rest ≡ false
    → list_any (λ h. b && (start == h)) (if first then start ∷ rest else rest) ≡ (b && first)
any_first false is start false rest none = none
any_first true is start false rest none = none
any_first false is start true rest none = none
any_first true is start true rest none = rw (eq-eqb start start refl) refl

any_inside : (b : Bool) (x : ℕ) (is : ℕ → Bool) (start len : ℕ) → start ≤ x → x < start + len → list_any (λ h. b && (x == h)) (filter is (range_with_len start len)) ≡ (b && is x)
any_inside b x is start zero low high = absurd (omega (arith, low, high))
any_inside b x is start (suc len) low high = by_order (λ more. any_inside b x is (start + 1) len (omega (arith, more)) (omega (arith, high))) (cases_lt start x)
  where
    by_order : (start < x → list_any (λ h. b && (x == h)) (filter is (range_with_len (start + 1) len)) ≡ (b && is x)) → (start < x) ⊎ (x ≤ start)
        → list_any (λ h. b && (x == h)) (filter is (range_with_len start (suc len))) ≡ (b && is x)
    by_order inside (inl more) = any_behind b x is start len (is start) (ne_eqb x start (λ e. omega (arith, more, e))) ∙ inside more
    by_order inside (inr less) =
        let e : x ≡ start = omega (arith, less, low) in
        let rest = any_outside b start is (start + 1) len (inl (omega arith)) in
        ap (λ n. list_any (λ h. b && (n == h)) (filter is (range_with_len start (suc len)))) e
        ∙ (any_first b is start (is start) (filter is (range_with_len (start + 1) len)) rest ∙ ap (λ n. b && is n) (sym e))

pub held_at : (s : Setting) (r : Rel) (is : ℕ → Bool) (place : Option Place) → of_some (holder_at s r place) is ≡ list_any (λ h. is_place r h place) (filter is (objects_of s))
held_at s r is None = sym (never (filter is (objects_of s)))
  where
    never : (hs : List ℕ) → list_any (λ h. false) hs ≡ false
    never [] = refl
    never (h ∷ hs) = never hs
held_at s r is (Some place) = by_range (cases_lt place.holder s.count)
  where
    by_so : (b : Bool) → of_some (if b && true then Some place.holder else None) is ≡ (b && is place.holder)
    by_so true = refl
    by_so false = refl

    by_range : (place.holder < s.count) ⊎ (s.count ≤ place.holder) → of_some (holder_at s r (Some place)) is ≡ list_any (λ h. is_place r h (Some place)) (filter is (objects_of s))
    by_range (inl less) = rw (lt-ltb place.holder s.count less)
        (by_so (relation_number place.relation == relation_number r) ∙ sym (any_inside (relation_number place.relation == relation_number r) place.holder is 0 s.count (omega arith) (omega (arith, less))))
    by_range (inr more) = rw (le-ltb place.holder s.count more)
        (off (relation_number place.relation == relation_number r) ∙ sym (any_outside (relation_number place.relation == relation_number r) place.holder is 0 s.count (inr (omega (arith, more)))))
      where
        off : (b : Bool) → of_some (if b && false then Some place.holder else None) is ≡ false
        off true = refl
        off false = refl
