-- What is told of a key otherwise than what is told first of it is told otherwise than by something before it.
use Rattle.std.proofs.Common.{◌≡◌, ◌≢◌, ℕ, Bool, true, false, not, List, [], ◌∷◌, ◌++◌, Option, refl, sym, ap, ◌∙◌, subst, append_assoc, inl, inr, ◌⊎◌, ⊎_elim, true≢false}
use Rattle.std.specs.Prelude.{Some, None, find, fold, option_map}
use Rattle.std.specs.List.{list_any}
use Rattle.std.proofs.lemmas.Bool.{cases_Bool}
use Rattle.i7_kinds.specs.FirstShown.{IsFirst, IsShown}
use Rattle.i7_kinds.proofs.FirstShown.{first_same, passed_first, first_passed}

-- what is among these
abbrev pub IsAmong : {A : Type 0} → A → List A → Type 0
IsAmong x [] = ⊥
IsAmong x (y ∷ ys) = (x ≡ y) ⊎ IsAmong x ys

pub any_to : {T : Type 0} (test : T → Bool) (xs : List T) → list_any test xs ≡ true → (x : T) × IsAmong x xs × (test x ≡ true)
any_to test [] h = absurd cc
any_to test (x ∷ xs) h =
    elim (cases_Bool (test x)) [
      | inl is ↦ (x, inl refl, is)
      | inr isnt ↦ let later : list_any test xs ≡ true = rw isnt at h in let t = any_to test xs later in (t.0, inr t.1, t.2)
    ]

pub any_from : {T : Type 0} (test : T → Bool) (xs : List T) (x : T) → IsAmong x xs → test x ≡ true → list_any test xs ≡ true
any_from test [] x m h = elim m [ ]
any_from test (y ∷ ys) x (inl same) h = let is : test y ≡ true = ap test (sym same) ∙ h in rw is refl
any_from test (y ∷ ys) x (inr later) h =
    elim (cases_Bool (test y)) [
      | inl is ↦ rw is refl
      | inr isnt ↦ rw isnt (any_from test ys x later h)
    ]

-- what is found where something in front passes stands in front
pub found_in : {T : Type 0} (test : T → Bool) (front back : List T) (x : T) → IsAmong x front → test x ≡ true → (y : T) × (find test (front ++ back) ≡ Some y) × (test y ≡ true) × IsAmong y front
found_in test [] back x m h = elim m [ ]
found_in test (y ∷ ys) back x (inl same) h = let is : test y ≡ true = ap test (sym same) ∙ h in (y, rw is refl, is, inl refl)
found_in test (y ∷ ys) back x (inr later) h =
    elim (cases_Bool (test y)) [
      | inl is ↦ (y, rw is refl, is, inl refl)
      | inr isnt ↦ let t = found_in test ys back x later h in (t.0, rw isnt t.1, t.2, inr t.3)
    ]

-- where something in the middle passes, in the first part or there
found_among : {T : Type 0} (test : T → Bool) (first middle last : List T) (x : T) → IsAmong x middle → test x ≡ true
    → (y : T) × (find test (first ++ (middle ++ last)) ≡ Some y) × (test y ≡ true) × (IsAmong y first ⊎ IsAmong y middle)
found_among test [] middle last x m h = let t = found_in test middle last x m h in (t.0, t.1, t.2, inr t.3)
found_among test (z ∷ zs) middle last x m h =
    elim (cases_Bool (test z)) [
      | inl is ↦ (z, rw is refl, is, inl (inl refl))
      | inr isnt ↦
          let t = found_among test zs middle last x m h in
          (t.0, rw isnt t.1, t.2, ⊎_elim (λ here. inl (inr here)) (λ there. inr there) t.3)
    ]

among_append : {T : Type 0} (xs ys : List T) (x : T) → IsAmong x (xs ++ ys) → IsAmong x xs ⊎ IsAmong x ys
among_append [] ys x m = inr m
among_append (z ∷ zs) ys x (inl same) = inl (inl same)
among_append (z ∷ zs) ys x (inr later) = ⊎_elim (λ here. inl (inr here)) (λ there. inr there) (among_append zs ys x later)

-- ---- what items tell

module _ {S A T : Type 0} (told : S → A → List T) (next : S → A → S) where
  -- each by the state that those before it left
  abbrev pub all_told : S → List A → List T
  all_told state [] = []
  all_told state (a ∷ more) = told state a ++ all_told (next state a) more

  pub all_told_append : (state : S) (before rest : List A) → all_told state (before ++ rest) ≡ all_told state before ++ all_told (fold next state before) rest
  all_told_append state [] rest = refl
  all_told_append state (a ∷ more) rest =
      ap (λ (ts : List T). told state a ++ ts) (all_told_append (next state a) more rest)
      ∙ sym (append_assoc (told state a) (all_told (next state a) more) (all_told (fold next (next state a) more) rest))

  pub told_before : (state : S) (items : List A) (y : T) → IsAmong y (all_told state items) → IsShown (λ earlier a. IsAmong y (told (fold next state earlier) a)) items
  told_before state [] y m = elim m [ ]
  told_before state (a ∷ more) y m =
      ⊎_elim
      (λ here. record { before = []; item = a; after = more; split = refl; here = here })
      (λ later.
      let s = told_before (next state a) more y later in
      record { before = a ∷ s.before; item = s.item; after = s.after; split = ap (λ (as' : List A). a ∷ as') s.split; here = s.here })
      (among_append (told state a) (all_told (next state a) more) y m)

-- ---- values of keys: things of one key have a value each

pub record Keyed {T V : Type 0} (same : T → T → Bool) (value : T → V) (agrees : V → Option V → Bool) : Type 0 where
  pub itself : (x : T) → same x x ≡ true
  pub alike : (x y : T) → same x y ≡ true → same y ≡ same x
  pub with_none : (v : V) → agrees v None ≡ false
  pub agreeing : (v w : V) → agrees v (Some w) ≡ true → v ≡ w
  pub with_itself : (v : V) → agrees v (Some v) ≡ true

module _ {T V : Type 0} (same : T → T → Bool) (value : T → V) (agrees : V → Option V → Bool) (keyed : Keyed same value agrees) where
  -- the first of its key has another value
  abbrev pub is_other : List T → T → Bool
  is_other xs x = not (agrees (value x) (option_map value (find (same x) xs)))

  agreed : (v : V) (found : Option V) → agrees v found ≡ true → found ≡ Some v
  agreed v None h = absurd (true≢false (sym h ∙ keyed.with_none v))
  agreed v (Some w) h = ap (λ (u : V). Some u) (sym (keyed.agreeing v w h))

  differing : (v w : V) → v ≢ w → agrees v (Some w) ≡ false
  differing v w isnt = elim (cases_Bool (agrees v (Some w))) [
    | inl is ↦ absurd (isnt (keyed.agreeing v w is))
    | inr never ↦ never
  ]

  one_is_other : (xs : List T) (x y : T) → same x y ≡ true → value y ≢ value x → (is_other xs x ≡ true) ⊎ (is_other xs y ≡ true)
  one_is_other xs x y key isnt =
      elim (cases_Bool (agrees (value x) (option_map value (find (same x) xs)))) [
        | inl is ↦
            let found = agreed (value x) (option_map value (find (same x) xs)) is in
            let other : agrees (value y) (option_map value (find (same y) xs)) ≡ false = rw (keyed.alike x y key, found) (differing (value y) (value x) isnt) in
            inr (rw other refl)
        | inr never ↦ inl (rw never refl)
      ]

  first_is_other : (first middle last : List T) (x : T) → IsAmong x middle → ((y : T) → IsAmong y middle → same x y ≡ true → value y ≡ value x) → is_other (first ++ (middle ++ last)) x ≡ true
      → (y : T) × IsAmong y first × (same x y ≡ true) × (value y ≢ value x)
  first_is_other first middle last x m within other =
      let t = found_among (same x) first middle last x m (keyed.itself x) in
      let isnt : value t.0 ≢ value x = λ e.
      let agree : agrees (value x) (option_map value (find (same x) (first ++ (middle ++ last)))) ≡ true = rw (t.1, e) (keyed.with_itself (value x)) in
      let no : not true ≡ true = rw agree at other in
      absurd cc in
      ⊎_elim (λ here. (t.0, here, t.2, isnt)) (λ there. absurd (isnt (within t.0 there t.2))) t.3

  module _ {S A : Type 0} (line_of : A → ℕ) (told : S → A → List T) (next : S → A → S) where
    -- something before tells another value of a key that is told here
    pub record IsContrary (start : S) (before : List A) (item : A) : Type 0 where
      pub here : T
      pub other : T
      pub tells : IsAmong here (told (fold next start before) item)
      pub told_before : IsShown (λ earlier a. IsAmong other (told (fold next start earlier) a)) before
      pub key : same here other ≡ true
      pub differ : value other ≢ value here

    -- the first item that tells a value other than the first of its key is the first that tells another than one before it
    pub contrary_first : ((state : S) (a : A) (x y : T) → IsAmong x (told state a) → IsAmong y (told state a) → same x y ≡ true → value y ≡ value x) → (start : S) (items : List A)
        → IsFirst line_of (IsContrary start) items (option_map line_of (first_passed (λ state a. list_any (is_other (all_told told next start items)) (told state a)) next start items))
    contrary_first within start items =
        let all = all_told told next start items in
        first_same line_of (λ before a. list_any (is_other all) (told (fold next start before) a) ≡ true) (IsContrary start) items _
        (λ before a after split passes.
        let state = fold next start before in
        let t = any_to (is_other all) (told state a) passes in
        let parts : all ≡ all_told told next start before ++ (told state a ++ all_told told next (next state a) after) = ap (all_told told next start) split
        ∙ all_told_append told next start before (a ∷ after) in
        let other : is_other (all_told told next start before ++ (told state a ++ all_told told next (next state a) after)) t.0 ≡ true = subst (λ (xs : List T). is_other xs t.0 ≡ true) parts t.2 in
        let u = first_is_other (all_told told next start before) (told state a) (all_told told next (next state a) after) t.0 t.1 (λ y m key. within state a t.0 y t.1 m key) other in
        record { here = t.0; other = u.0; tells = t.1; told_before = told_before told next start before u.0 u.1; key = u.2; differ = u.3 })
        (λ before a after split contrary.
        ⊎_elim
        (λ here. inl (any_from (is_other all) (told (fold next start before) a) contrary.here contrary.tells here))
        (λ earlier.
        let s = contrary.told_before in
        inr (record {
          before = s.before;
          item = s.item;
          after = s.after;
          split = s.split;
          here = any_from (is_other all) (told (fold next start s.before) s.item) contrary.other s.here earlier;
        }))
        (one_is_other all contrary.here contrary.other contrary.key contrary.differ))
        (passed_first line_of (λ state a. list_any (is_other all) (told state a)) next start items)
