-- The kinds of each either-or property rise, and the built-in properties keep theirs.
use Rattle.std.proofs.Common.{◌≡◌, ℕ, suc, ◌+◌, ◌≤◌, ◌<◌, Bool, true, leb, ltb, eqb, List, [], ◌∷◌, ◌++◌, length, map, Option, refl, sym, ap, ◌∙◌, subst, arith, inl, inr, append-nil, append_assoc}
use Rattle.std.specs.Prelude.{Some, None, fold}
use Rattle.std.specs.List.{list_all, list_any}
use Rattle.std.proofs.lemmas.Bool.{eqb-true, eqb-false, eq-eqb, le-leb, lt-ltb, ltb-true, cases_Bool, and_from, and_parts, or_left, or_right}
use Rattle.std.proofs.lemmas.List.Folds.{list_any-append}
use Rattle.world_meaning.specs.Declarations.{are_rising, begin_with_properties, is_among, is_below, is_granted, is_right_grant}
use Rattle.world_meaning.specs.Properties.{Property, built_in_properties}
use Rattle.i7_kinds.specs.Grants.{built_in_bases, first_base, flag_of, flags_from, kinds_given, rising_of}
use Rattle.i7_claims.specs.Sorts.{built_in_either_ors, claimed_as, names_as, with_claimed, with_name}
use Rattle.i7_claims.specs.Standings.{has_name}
use Rattle.i7_claims.specs.declared.claim.Claim.{Claim}
use Rattle.i7_kinds.specs.declared.grants.Given.{Given}
use Rattle.i7_claims.specs.declared.sorts.Sort.{Sort}
use Rattle.i7_claims.specs.declared.sorts.Sort.TheVariants as sort

rises : {X : Type 0} (among : List ℕ) (m n : ℕ) (xs : List X) → m ≤ n → are_rising m (rising_of among n xs) ≡ true
unfolding are_rising
rises among m n [] le = refl
rises among m n (x ∷ xs) le =
    elim (cases_Bool (is_among n among)) [
      | inl is ↦ rw is (and_from (leb m n) (are_rising (n + 1) (rising_of among (n + 1) xs)) (le-leb m n le) (rises among (n + 1) (n + 1) xs (omega arith)))
      | inr isnt ↦ rw isnt (rises among m (n + 1) xs (omega (arith, le)))
    ]

stays_below : {X : Type 0} (among : List ℕ) (most n : ℕ) (xs : List X) → n + length xs ≤ most → list_all (is_below most) (rising_of among n xs) ≡ true
stays_below among most n [] le = refl
stays_below among most n (x ∷ xs) le =
    elim (cases_Bool (is_among n among)) [
      | inl is ↦ rw is (and_from (ltb n most) (list_all (is_below most) (rising_of among (n + 1) xs)) (lt-ltb n most (omega (arith, le))) (stays_below among most (n + 1) xs (omega (arith, le))))
      | inr isnt ↦ rw isnt (stays_below among most (n + 1) xs (omega (arith, le)))
    ]

-- a number that is among them is found
pub among_rising : {X : Type 0} (among : List ℕ) (k n : ℕ) (xs : List X) → is_among k among ≡ true → n ≤ k → k < n + length xs → is_among k (rising_of among n xs) ≡ true
among_rising among k n [] h le lt = absurd (omega (arith, le, lt))
among_rising among k n (x ∷ xs) h le lt =
    elim (cases_Bool (eqb k n)) [
      | inl here ↦ let same : k ≡ n = eqb-true k n here in let is : is_among n among ≡ true = subst (λ (m : ℕ). is_among m among ≡ true) same h in
          rw is (or_left (eqb k n) (is_among k (rising_of among (n + 1) xs)) here)
      | inr other ↦ let later : is_among k (rising_of among (n + 1) xs) ≡ true = among_rising among k (n + 1) xs h (omega (arith, le, eqb-false k n other)) (omega (arith, lt)) in
          elim (cases_Bool (is_among n among)) [
            | inl is ↦ rw is (or_right (eqb k n) (is_among k (rising_of among (n + 1) xs)) later)
            | inr isnt ↦ rw isnt later
          ]
    ]

all_in : (f : ℕ → Bool) (some : List ℕ) → ((k : ℕ) → is_among k some ≡ true → f k ≡ true) → list_all f some ≡ true
all_in f [] h = refl
all_in f (x ∷ xs) h = and_from (f x) (list_all f xs) (h x (or_left (eqb x x) (is_among x xs) (eq-eqb x x refl))) (all_in f xs (λ k m. h k (or_right (eqb k x) (is_among k xs) m)))

below_of : (most : ℕ) (xs : List ℕ) (k : ℕ) → list_all (is_below most) xs ≡ true → is_among k xs ≡ true → k < most
below_of most [] k h m = absurd cc
below_of most (x ∷ xs) k h m =
    let t = and_parts (ltb x most) (list_all (is_below most) xs) h in
    elim (cases_Bool (eqb k x)) [
      | inl is ↦ omega (arith, eqb-true k x is, ltb-true x most t.0)
      | inr isnt ↦ let later : is_among k xs ≡ true = rw isnt at m in below_of most xs k t.1 later
    ]

pub any_of : (f : ℕ → Bool) (k : ℕ) (ks : List ℕ) → is_among k ks ≡ true → f k ≡ true → list_any f ks ≡ true
any_of f k [] m h = absurd cc
any_of f k (x ∷ xs) m h =
    elim (cases_Bool (eqb k x)) [
      | inl is ↦ or_left (f x) (list_any f xs) (subst (λ (n : ℕ). f n ≡ true) (eqb-true k x is) h)
      | inr isnt ↦ let later : is_among k xs ≡ true = rw isnt at m in or_right (f x) (list_any f xs) (any_of f k xs later h)
    ]

module _ {X : Type 0} (kinds : List X) (many : 10 ≤ length kinds) (givens : List Given) where
  -- a kind that has a property keeps it
  pub base_kept : (property : ℕ) (base : List ℕ) (k : ℕ) → list_all (is_below 10) base ≡ true → is_among k base ≡ true → is_among k (flag_of kinds givens property base).kinds ≡ true
  base_kept property base k below has =
      among_rising (base ++ kinds_given property givens) k 0 kinds
      (list_any-append (λ m. eqb k m) base (kinds_given property givens) ∙ or_left (is_among k base) (is_among k (kinds_given property givens)) has)
      (omega arith) (omega (arith, many, below_of 10 base k below has))

  pub flag_right : (property : ℕ) (base : List ℕ) → is_right_grant (length kinds) (flag_of kinds givens property base) ≡ true
  flag_right property base =
      let among = base ++ kinds_given property givens in
      and_from (are_rising 0 (rising_of among 0 kinds)) (list_all (is_below (length kinds)) (rising_of among 0 kinds)) (rises among 0 0 kinds (omega arith)) (stays_below among (length kinds) 0 kinds (omega arith))

  pub flags_right : (property : ℕ) (bases names : List (List ℕ)) → list_all (is_right_grant (length kinds)) (flags_from kinds givens property bases names) ≡ true
  flags_right property bases [] = refl
  flags_right property bases (name ∷ names) =
      and_from (is_right_grant (length kinds) (flag_of kinds givens property (first_base bases))) _ (flag_right property (first_base bases)) (flags_right (property + 1) _ names)

  pub flags_counted : (property : ℕ) (bases names : List (List ℕ)) → length (flags_from kinds givens property bases names) ≡ length names
  flags_counted property bases [] = refl
  flags_counted property bases (name ∷ names) = ap suc (flags_counted (property + 1) _ names)

  abbrev are_below_ten : Property → Bool
  are_below_ten p = list_all (is_below 10) p.kinds

  begin_from : (property : ℕ) (ps : List Property) (names more : List (List ℕ)) → length names ≡ length ps → list_all are_below_ten ps ≡ true
      → begin_with_properties (flags_from kinds givens property (map (λ p. p.kinds) ps) (names ++ more)) ps ≡ true
  unfolding begin_with_properties
  begin_from property [] names more e h = refl
  begin_from property (p ∷ ps) [] more e h = absurd cc
  begin_from property (p ∷ ps) (name ∷ names) more e h =
      let t = and_parts (are_below_ten p) (list_all are_below_ten ps) h in
      and_from (list_all (is_granted (flag_of kinds givens property p.kinds).kinds) p.kinds) _
      (all_in (is_granted (flag_of kinds givens property p.kinds).kinds) p.kinds (λ k has. base_kept property p.kinds k t.0 has))
      (begin_from (property + 1) ps names more (omega (arith, e)) t.1)

  -- the built-in properties keep their kinds
  pub begin_built_in : (more : List (List ℕ)) → begin_with_properties (flags_from kinds givens 0 built_in_bases (built_in_either_ors ++ more)) built_in_properties ≡ true
  unfolding built_in_bases built_in_properties built_in_either_ors
  begin_built_in more = begin_from 0 built_in_properties built_in_either_ors more refl refl

-- ---- the built-in names stand first

named_behind : (names : List (List ℕ)) (found : Option (List ℕ)) → (more : List (List ℕ)) × (with_name names found ≡ names ++ more)
named_behind names None = ([], sym (append-nil names))
named_behind names (Some name) =
    elim (cases_Bool (has_name names name)) [
      | inl is ↦ ([], rw is (sym (append-nil names)))
      | inr isnt ↦ (name ∷ [], rw isnt refl)
    ]

names_behind : (s : Sort) (claims : List Claim) (names : List (List ℕ)) → (more : List (List ℕ)) × (fold (with_claimed s) names claims ≡ names ++ more)
names_behind s [] names = ([], sym (append-nil names))
names_behind s (c ∷ cs) names =
    let a = named_behind names (claimed_as s c.fact) in
    let b = names_behind s cs (with_claimed s names c) in
    (a.0 ++ b.0, b.1 ∙ ap (λ (front : List (List ℕ)). front ++ b.0) a.1 ∙ append_assoc names a.0 b.0)

pub either_ors_behind : (claims : List Claim) → (more : List (List ℕ)) × (names_as sort.EitherOr claims ≡ built_in_either_ors ++ more)
either_ors_behind claims = names_behind sort.EitherOr claims built_in_either_ors
