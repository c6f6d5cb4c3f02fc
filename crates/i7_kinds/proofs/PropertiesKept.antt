-- The kinds of a tale have just the properties that sentences may say of their objects.
use Rattle.std.proofs.Common.{◌≡◌, ℕ, zero, suc, ◌+◌, ◌≤◌, ◌<◌, Bool, true, false, ◌||◌, ◌&&◌, List, [], ◌∷◌, ◌++◌, length, map, Option, refl, sym, ap, ◌∙◌, subst, length-append, arith, inl, inr, ◌⊎◌, ⊎_elim, true≢false}
use Rattle.std.specs.Prelude.{◌==◌, Some, None, Decides, Result, slice_get}
use Rattle.std.specs.List.{list_all, list_any}
use Rattle.std.proofs.lemmas.Bool.{eqb-true, eq-eqb, ltb-true, cases_Bool, and_parts}
use Rattle.std.proofs.lemmas.List.Folds.{list_any-append}
use Rattle.world_meaning.specs.Declarations.{is_among, is_below, is_had}
use Rattle.world_meaning.specs.Kinds.{is_under}
use Rattle.world_meaning.specs.declared.declared.Granted.{Granted}
use Rattle.world_meaning.specs.declared.declared.ValueKind.{ValueKind}
use Rattle.world_meaning.specs.declared.fault.Fault.{Fault}
use Rattle.world_meaning.specs.declared.tale.Tale.{Tale}
use Rattle.i7_claims.specs.Claims.{claims_of}
use Rattle.i7_claims.specs.Numbers.{has_name, number_in}
use Rattle.i7_claims.specs.Sorts.{built_in_either_ors, names_as, property_names}
use Rattle.i7_claims.specs.Statements.{named_by, stated_by}
use Rattle.i7_claims.specs.declared.claim.Claim.{Claim}
use Rattle.i7_claims.specs.declared.claim.Fact.{Fact}
use Rattle.i7_claims.specs.declared.claim.Fact.TheVariants.{CanBe, HasNumber, HasValue}
use Rattle.i7_claims.specs.declared.sorts.Sort.TheVariants as sort
use Rattle.i7_kinds.specs.Actions.{actions_said}
use Rattle.i7_kinds.specs.Grants.{built_in_bases, first_base, flag_of, flags_from, givens_in, givens_of, kind_given, kinds_given, other_bases, rising_of}
use Rattle.i7_kinds.specs.Judged.{AreJudged, Refusal, names_nothing, Shows, knowns_said, scope_said}
use Rattle.i7_kinds.specs.KindClaims.{IsUnknown, declared_by, flags_by, givens_by, kind_names, numbers_by, parents_of, value_kinds_by}
use Rattle.i7_kinds.specs.PropertiesKept.{PropertiesAreKept, properties_in}
use Rattle.i7_kinds.specs.RefusalsShown.{HasProperty}
use Rattle.i7_kinds.specs.Suits.{can_be, kinds_in}
use Rattle.i7_kinds.specs.Tales.{Made, entries_of, made_of, refusal_of}
use Rattle.i7_kinds.specs.ValueKinds.{value_kinds_from}
use Rattle.i7_kinds.specs.declared.grants.Given.{Given}
use Rattle.i7_kinds.proofs.Contrary.{IsAmong, any_from, any_to}
use Rattle.i7_kinds.proofs.Granting.{among_rising, either_ors_behind, flags_counted}
use Rattle.i7_kinds.proofs.Judged.{judged}
use Rattle.i7_kinds.proofs.KindScans.{kind_names_counted, parents_are_kinds}
use Rattle.i7_kinds.proofs.Rooted.{counts_grow, number_there}
use Rattle.i7_kinds.proofs.WrittenAbout.{tale_is, untold}
use Rattle.i7_kinds.proofs.WrongKinds.{property_decides}

same_truth : (a b : Bool) → (a ≡ true → b ≡ true) → (b ≡ true → a ≡ true) → a ≡ b
same_truth true b to from = sym (to refl)
same_truth false true to from = absurd (true≢false (sym (from refl)))
same_truth false false to from = refl

-- ---- kinds below so many that are among some

AreBelow : ℕ → List ℕ → Type 0
AreBelow most among = (k : ℕ) → IsAmong k among → k < most

is_in_list : (k : ℕ) (ks : List ℕ) → IsAmong k ks → is_among k ks ≡ true
is_in_list k ks m = any_from (λ n. k == n) ks k m (eq-eqb k k refl)

in_list : (k : ℕ) (ks : List ℕ) → is_among k ks ≡ true → IsAmong k ks
in_list k ks h = let t = any_to (λ n. k == n) ks h in subst (λ (n : ℕ). IsAmong n ks) (sym (eqb-true k t.0 t.2)) t.1

from_rising : {X : Type 0} (among : List ℕ) (k n : ℕ) (xs : List X) → IsAmong k (rising_of among n xs) → IsAmong k among
from_rising among k n [] m = elim m [ ]
from_rising among k n (x ∷ xs) m =
    elim (cases_Bool (is_among n among)) [
      | inl is ↦
          let here : IsAmong k (n ∷ rising_of among (n + 1) xs) = rw is at m in
          ⊎_elim (λ same. subst (λ (j : ℕ). IsAmong j among) (sym same) (in_list n among is)) (λ later. from_rising among k (n + 1) xs later) here
      | inr isnt ↦ let later : IsAmong k (rising_of among (n + 1) xs) = rw isnt at m in from_rising among k (n + 1) xs later
    ]

rising_any : {X : Type 0} (test : ℕ → Bool) (among : List ℕ) (xs : List X) → AreBelow (length xs) among → list_any test (rising_of among 0 xs) ≡ list_any test among
unfolding AreBelow
rising_any test among xs below =
    same_truth (list_any test (rising_of among 0 xs)) (list_any test among)
    (λ h. let t = any_to test (rising_of among 0 xs) h in any_from test among t.0 (from_rising among t.0 0 xs t.1) t.2)
    (λ h.
    let t = any_to test among h in
    let there : is_among t.0 (rising_of among 0 xs) ≡ true = among_rising among t.0 0 xs (is_in_list t.0 among t.1) (omega arith) (omega (arith, below t.0 t.1)) in
    any_from test (rising_of among 0 xs) t.0 (in_list t.0 (rising_of among 0 xs) there) t.2)

given_any : (test : ℕ → Bool) (property : ℕ) (givens : List Given) → list_any test (kinds_given property givens) ≡ list_any (λ (given : Given). (given.property == property) && test given.kind) givens
given_any test property [] = refl
given_any test property (given ∷ givens) =
    elim (cases_Bool (given.property == property)) [
      | inl is ↦ rw is (ap (λ (b : Bool). test given.kind || b) (given_any test property givens))
      | inr isnt ↦ rw isnt (given_any test property givens)
    ]

-- ---- the properties of a number

base_first : (bases : List (List ℕ)) → first_base bases ≡ kinds_in (slice_get bases 0)
base_first [] = refl
base_first (base ∷ bases) = refl

base_later : (bases : List (List ℕ)) (i : ℕ) → slice_get (other_bases bases) i ≡ slice_get bases (suc i)
base_later [] i = refl
base_later (base ∷ bases) i = refl

flag_at : (parents : List (Option ℕ)) (givens : List Given) (from at : ℕ) (bases names : List (List ℕ)) (i : ℕ) (g : Granted) → at ≡ from + i
    → slice_get (flags_from parents givens from bases names) i ≡ Some g
    → g ≡ flag_of parents givens at (kinds_in (slice_get bases i))
flag_at parents givens from at bases [] i g same e = absurd cc
flag_at parents givens from at bases (name ∷ names) zero g same e =
    let here : at ≡ from = omega (arith, same) in
    let is : flag_of parents givens from (first_base bases) ≡ g = cc in
    sym is ∙ ap (λ (n : ℕ). flag_of parents givens n (first_base bases)) (sym here) ∙ ap (flag_of parents givens at) (base_first bases)
flag_at parents givens from at bases (name ∷ names) (suc i) g same e =
    flag_at parents givens (from + 1) at (other_bases bases) names i g (omega (arith, same)) e
    ∙ ap (λ (base : Option (List ℕ)). flag_of parents givens at (kinds_in base)) (base_later bases i)

in_two : {X : Type 0} (xs ys : List X) (i : ℕ) (x : X) → slice_get (xs ++ ys) i ≡ Some x → (slice_get xs i ≡ Some x) ⊎ ((j : ℕ) × (i ≡ length xs + j) × (slice_get ys j ≡ Some x))
in_two [] ys i x e = inr (i, omega arith, e)
in_two (z ∷ zs) ys zero x e = inl e
in_two (z ∷ zs) ys (suc i) x e = ⊎_elim (λ here. inl here) (λ t. inr (t.0, omega (arith, t.1), t.2)) (in_two zs ys i x e)

past : {X : Type 0} (xs : List X) (i : ℕ) → length xs ≤ i → slice_get xs i ≡ None
past [] i le = refl
past (x ∷ xs) zero le = absurd (omega (arith, le))
past (x ∷ xs) (suc i) le = past xs i (omega (arith, le))

pub parents_many : (claims : List Claim) → 10 ≤ length (parents_of (kind_names claims) claims)
parents_many claims = omega (arith, parents_are_kinds (kind_names claims) claims, counts_grow claims 10)

bases_many : (claims : List Claim) → length built_in_bases ≤ length (flags_by claims)
unfolding built_in_bases built_in_either_ors
bases_many claims =
    let t = either_ors_behind claims in
    omega (
      arith,
      flags_counted (parents_of (kind_names claims) claims) (parents_many claims) (givens_by claims) 0 built_in_bases (names_as sort.EitherOr claims),
      ap length t.1,
      length-append built_in_either_ors t.0,
    )

-- kinds of value are given to kinds as properties are
values_given : (parents : List (Option ℕ)) (givens : List Given) (from : ℕ) (claims : List Claim) (names : List (List ℕ))
    → map (λ (q : ValueKind). q.given) (value_kinds_from parents givens from claims names) ≡ flags_from parents givens from [] names
values_given parents givens from claims [] = refl
values_given parents givens from claims (name ∷ names) = ap (λ (gs : List Granted). flag_of parents givens from [] ∷ gs) (values_given parents givens (from + 1) claims names)

-- a property of a number has the kinds that are built in of it and those that sentences give it to
granted_at : (claims : List Claim) (property : ℕ) (g : Granted) → slice_get (properties_in (declared_by claims)) property ≡ Some g
    → g ≡ flag_of (parents_of (kind_names claims) claims) (givens_by claims) property (kinds_in (slice_get built_in_bases property))
granted_at claims property g e =
    let parents = parents_of (kind_names claims) claims in
    let flags = flags_by claims in
    let numbers = numbers_by claims in
    ⊎_elim
    (λ here. flag_at parents (givens_by claims) 0 property built_in_bases (names_as sort.EitherOr claims) property g (omega arith) here)
    (λ t.
    let none : slice_get built_in_bases property ≡ None = past built_in_bases property (omega (arith, bases_many claims, t.1)) in
    (⊎_elim
    (λ number. flag_at parents (givens_by claims) (length flags) property [] (names_as sort.Number claims) t.0 g t.1 number)
    (λ u. flag_at parents (givens_by claims) (length flags + length numbers) property [] (names_as sort.ValueKind claims) u.0 g (omega (arith, t.1, u.1))
    (ap (λ (gs : List Granted). slice_get gs u.0) (sym (values_given parents (givens_by claims) (length flags + length numbers) claims (names_as sort.ValueKind claims))) ∙ u.2))
    (in_two numbers (map (λ q. q.given) (value_kinds_by claims)) t.0 g t.2))
    ∙ ap (λ (base : Option (List ℕ)). flag_of parents (givens_by claims) property (kinds_in base)) (sym none))
    (in_two flags (numbers ++ map (λ q. q.given) (value_kinds_by claims)) property g e)

-- ---- the kinds that have properties are there

bases_below : (bases : List (List ℕ)) (property : ℕ) → list_all (λ base. list_all (is_below 10) base) bases ≡ true → list_all (is_below 10) (kinds_in (slice_get bases property)) ≡ true
bases_below [] property h = refl
bases_below (base ∷ bases) zero h = (and_parts (list_all (is_below 10) base) (list_all (λ base. list_all (is_below 10) base) bases) h).0
bases_below (base ∷ bases) (suc i) h = bases_below bases i (and_parts (list_all (is_below 10) base) (list_all (λ base. list_all (is_below 10) base) bases) h).1

all_below : (ks : List ℕ) (k : ℕ) → list_all (is_below 10) ks ≡ true → IsAmong k ks → k < 10
all_below [] k h m = elim m [ ]
all_below (n ∷ ks) k h (inl same) = omega (arith, same, ltb-true n 10 (and_parts (is_below 10 n) (list_all (is_below 10) ks) h).0)
all_below (n ∷ ks) k h (inr later) = all_below ks k (and_parts (is_below 10 n) (list_all (is_below 10) ks) h).1 later

built_in_below : list_all (λ base. list_all (is_below 10) base) built_in_bases ≡ true
unfolding built_in_bases
built_in_below = refl

in_either : {T : Type 0} (x : T) (xs ys : List T) → IsAmong x (xs ++ ys) → IsAmong x xs ⊎ IsAmong x ys
in_either x [] ys m = inr m
in_either x (z ∷ zs) ys (inl same) = inl (inl same)
in_either x (z ∷ zs) ys (inr later) = ⊎_elim (λ here. inl (inr here)) (λ there. inr there) (in_either x zs ys later)

given_kind : (property k : ℕ) (givens : List Given) → IsAmong k (kinds_given property givens) → (given : Given) × IsAmong given givens × (given.kind ≡ k)
given_kind property k [] m = elim m [ ]
given_kind property k (given ∷ givens) m =
    ⊎_elim
    (λ here. (given, inl refl, of_one here))
    (λ there. let t = given_kind property k givens there in (t.0, inr t.1, t.2))
    (in_either k (kind_given property given) (kinds_given property givens) m)
  where
    of_one : IsAmong k (kind_given property given) → given.kind ≡ k
    of_one here =
        elim (cases_Bool (given.property == property)) [
          | inl is ↦ let one : IsAmong k (given.kind ∷ []) = rw is at here in ⊎_elim (λ same. sym same) (λ none. absurd none) one
          | inr isnt ↦ let one : IsAmong k [] = rw isnt at here in absurd one
        ]

module _ (names : List (List ℕ)) (properties : List (List ℕ)) (most : ℕ) (many : length names ≤ most) where
  known_kind : (name : List ℕ) → (has_name names name ≡ false → ⊥) → number_in names name < most
  known_kind name known =
      elim (cases_Bool (has_name names name)) [
        | inl is ↦ omega (arith, many, number_there names name is)
        | inr isnt ↦ absurd (known isnt)
      ]

  fact_below : (f : Fact) (given : Given) → (IsUnknown names f → ⊥) → IsAmong given (givens_in properties names f) → given.kind < most
  fact_below (CanBe g) given known (inl same) = let is = ap (λ (x : Given). x.kind) same in omega (arith, is, known_kind g.kind known)
  fact_below (CanBe g) given known (inr none) = absurd none
  fact_below (HasNumber g) given known (inl same) = let is = ap (λ (x : Given). x.kind) same in omega (arith, is, known_kind g.kind known)
  fact_below (HasNumber g) given known (inr none) = absurd none
  fact_below (HasValue g) given known (inl same) = let is = ap (λ (x : Given). x.kind) same in omega (arith, is, known_kind g.kind known)
  fact_below (HasValue g) given known (inr none) = absurd none
  fact_below _ given known m = absurd m

  givens_below : (claims : List Claim) (given : Given) → ((before : List Claim) (c : Claim) (after : List Claim) → claims ≡ before ++ c ∷ after → IsUnknown names c.fact → ⊥)
      → IsAmong given (givens_of properties names claims) → given.kind < most
  givens_below [] given known m = elim m [ ]
  givens_below (c ∷ claims) given known m =
      ⊎_elim
      (λ here. fact_below c.fact given (known [] c claims refl) here)
      (λ there. givens_below claims given (λ before d after split. known (c ∷ before) d after (ap (λ (cs : List Claim). c ∷ cs) split)) there)
      (in_either given (givens_in properties names c.fact) (givens_of properties names claims) m)

-- ---- the tale

had_same : (claims : List Claim) (kind property : ℕ) (g : Granted) → ((before : List Claim) (c : Claim) (after : List Claim) → claims ≡ before ++ c ∷ after → IsUnknown (kind_names claims) c.fact → ⊥)
    → g ≡ flag_of (parents_of (kind_names claims) claims) (givens_by claims) property (kinds_in (slice_get built_in_bases property))
    → is_had (parents_of (kind_names claims) claims) kind g
    ≡ (list_any (λ base. is_under (parents_of (kind_names claims) claims) kind base) (kinds_in (slice_get built_in_bases property))
    || list_any (λ (given : Given). (given.property == property) && is_under (parents_of (kind_names claims) claims) kind given.kind) (givens_by claims))
unfolding AreBelow
had_same claims kind property g known e =
    let parents = parents_of (kind_names claims) claims in
    let base = kinds_in (slice_get built_in_bases property) in
    let test : ℕ → Bool = λ k. is_under parents kind k in
    let many : length (kind_names claims) ≤ length parents = omega (arith, kind_names_counted claims, parents_are_kinds (kind_names claims) claims) in
    let below : AreBelow (length parents) (base ++ kinds_given property (givens_by claims)) = λ k m.
    ⊎_elim
    (λ here. omega (arith, parents_many claims, all_below base k (bases_below built_in_bases property built_in_below) here))
    (λ there.
    let t = given_kind property k (givens_by claims) there in
    omega (arith, t.2, givens_below (kind_names claims) (property_names claims) (length parents) many claims t.0 known t.1))
    (in_either k base (kinds_given property (givens_by claims)) m) in
    ap (is_had parents kind) e
    ∙ rising_any test (base ++ kinds_given property (givens_by claims)) parents below
    ∙ list_any-append test base (kinds_given property (givens_by claims))
    ∙ ap (λ (b : Bool). list_any test base || b) (given_any test property (givens_by claims))

pub properties_kept : PropertiesAreKept
properties_kept sentences tale property granted kind means at =
    let s = scope_said sentences in
    let claims = claims_of sentences in
    let knowns = knowns_said sentences in
    let named = named_by sentences in
    let m : Made = made_of s knowns claims (stated_by sentences) in
    let t = tale_is (refusal_of s knowns claims (stated_by sentences) named.mentions) (actions_said sentences) (untold claims m (entries_of named.mentions)) tale means in
    let none : (r : Refusal) (line : ℕ) → Shows sentences r line → ⊥ = subst (λ (said : Result Tale Fault). AreJudged sentences said) means (judged sentences) in
    let there : slice_get (properties_in (declared_by claims)) property ≡ Some granted = ap (λ (x : Tale). slice_get (properties_in x.declared) property) t.0 ∙ at in
    let same : is_had s.parents kind granted ≡ can_be s kind property =
    had_same claims kind property granted
    (λ before c after split unknown. none names_nothing c.line (record { before = before; claim = c; after = after; split = split; here = unknown; on = refl }))
    (granted_at claims property granted there) in
    subst (λ (b : Bool). Decides b (HasProperty s kind property)) (sym (ap (λ (x : Tale). is_had x.declared.kinds kind granted) (sym t.0) ∙ same)) (property_decides s kind property)
