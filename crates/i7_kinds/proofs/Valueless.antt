-- The scan for kinds of value without values finds the lowest line of one, and where no list is too long each kind has few values.
use Rattle.std.proofs.Common.{◌≡◌, ℕ, suc, ◌+◌, ◌≤◌, false, ◌&&◌, List, [], ◌∷◌, ◌++◌, length, Option, refl, sym, ap, subst, arith, inl, inr}
use Rattle.std.specs.Prelude.{None, Decides, bytes_eq, fold}
use Rattle.std.proofs.lemmas.Bool.{cases_Bool, ltb-false}
use Rattle.std.proofs.lemmas.Bool.Decides.{Decides-and}
use Rattle.i7_claims.specs.Listings.{listed_in, values_listed}
use Rattle.i7_claims.specs.Scans.{IsLowest, ShownBy, lowest}
use Rattle.object_words.specs.Mentions.{mention}
use Rattle.world_meaning.specs.declared.declared.ValueKind.{ValueKind}
use Rattle.i7_claims.specs.Sorts.{claimed_as, is_list_too_long, is_of, list_too_long, named_if, names_as, shows_long_list, with_claimed, with_name}
use Rattle.i7_claims.specs.Standings.{has_name}
use Rattle.i7_claims.specs.declared.claim.Claim.{Claim}
use Rattle.i7_claims.specs.declared.claim.Fact.{Fact}
use Rattle.i7_claims.specs.declared.claim.Fact.TheVariants.{Stands, Values}
use Rattle.i7_claims.specs.declared.claim.Naming.{Naming}
use Rattle.i7_claims.specs.declared.claim.Standing.{Standing}
use Rattle.i7_claims.specs.declared.claim.Standing.TheVariants as stands
use Rattle.i7_claims.specs.declared.sorts.Sort.TheVariants as sort
use Rattle.i7_claims.proofs.Lowest.{lowest_is, none_shown}
use Rattle.i7_claims.proofs.NameScans.{never}
use Rattle.i7_kinds.specs.ValueKinds.{AreFewValues, IsUnlisted, is_empty, is_unlisted, is_value_kind, same_claims, shows_unlisted, unlisted, value_kinds_from}
use Rattle.i7_kinds.specs.declared.grants.Given.{Given}

kind_decides : (standing : Standing) → Decides (is_value_kind standing) (standing ≡ stands.ValueKind)
kind_decides stands.ValueKind = (λ h. refl, λ h. refl)
kind_decides _ = never (λ h. absurd cc)

empty_decides : (values : List (List ℕ)) → Decides (is_empty values) (values ≡ [])
empty_decides [] = (λ h. refl, λ h. refl)
empty_decides (value ∷ values) = never (λ h. absurd cc)

fact_decides : (claims : List Claim) (f : Fact) → Decides (is_unlisted claims f) (IsUnlisted claims f)
fact_decides claims (Stands n) = Decides-and _ _ (kind_decides n.standing) (empty_decides (values_listed claims n.name))
fact_decides claims _ = never (λ h. h)

same_fold : (before claims : List Claim) → fold same_claims claims before ≡ claims
same_fold [] claims = refl
same_fold (c ∷ before) claims = same_fold before claims

pub unlisted_lowest : (claims : List Claim) → IsLowest (ShownBy (λ before c. IsUnlisted claims c.fact) claims) (unlisted claims)
unlisted_lowest claims = lowest_is (λ before c. IsUnlisted claims c.fact) shows_unlisted same_claims claims claims
    (λ before c after split. subst (λ (all : List Claim). Decides (is_unlisted all c.fact) (IsUnlisted claims c.fact)) (sym (same_fold before claims)) (fact_decides claims c.fact))

-- ---- each kind of value has a value

AreListed : List Claim → List (List ℕ) → Type 0
AreListed all [] = Unit {0}
AreListed all (name ∷ names) = (is_empty (values_listed all name) ≡ false) × AreListed all names

module _ (all : List Claim) where
  one_more : (names : List (List ℕ)) (name : List ℕ) → AreListed all names → is_empty (values_listed all name) ≡ false → AreListed all (names ++ name ∷ [])
  unfolding AreListed
  one_more [] name listed h = (h, tt)
  one_more (first ∷ names) name listed h = (listed.0, one_more names name listed.1 h)

  mentioned : (names : List (List ℕ)) (name : List ℕ) → AreListed all names → is_empty (values_listed all name) ≡ false → AreListed all (mention names name)
  mentioned names name listed h =
      elim (cases_Bool (has_name names name)) [
        | inl is ↦ rw is listed
        | inr isnt ↦ rw isnt (one_more names name listed h)
      ]

  named : (n : Naming) (names : List (List ℕ)) (standing : Standing) → (is_value_kind standing && is_empty (values_listed all n.name)) ≡ false → AreListed all names
      → AreListed all (with_name names (named_if (is_of sort.ValueKind standing) n.name))
  named n names stands.ValueKind h listed = mentioned names n.name listed h
  named n names stands.Reserved h listed = listed
  named n names stands.Kind h listed = listed
  named n names (stands.First second) h listed = listed
  named n names (stands.Second first) h listed = listed
  named n names stands.Number h listed = listed
  named n names stands.Variable h listed = listed
  named n names (stands.Scene recurs) h listed = listed
  named n names stands.Object h listed = listed
  named n names (stands.Value value) h listed = listed

  fact_named : (f : Fact) (names : List (List ℕ)) → is_unlisted all f ≡ false → AreListed all names → AreListed all (with_name names (claimed_as sort.ValueKind f))
  fact_named (Stands n) names h listed = named n names n.standing h listed
  fact_named _ names h listed = listed

  claims_named : (claims : List Claim) (names : List (List ℕ)) → lowest shows_unlisted same_claims all claims None ≡ None → AreListed all names
      → AreListed all (fold (with_claimed sort.ValueKind) names claims)
  claims_named [] names none listed = listed
  claims_named (c ∷ claims) names none listed =
      let t = none_shown shows_unlisted same_claims all c claims none in
      claims_named claims (with_claimed sort.ValueKind names c) t.1 (fact_named c.fact names t.0 listed)

  kinds_listed : unlisted all ≡ None → AreListed all (names_as sort.ValueKind all)
  unfolding AreListed
  kinds_listed none = claims_named all [] none tt

some_length : (values : List (List ℕ)) → is_empty values ≡ false → 1 ≤ length values
some_length [] h = absurd cc
some_length (value ∷ values) h = omega arith

-- each has some
abbrev pub HaveValues : List ValueKind → Type 0
HaveValues [] = Unit {0}
HaveValues (q ∷ kinds) = (1 ≤ length q.names) × HaveValues kinds

all_have : (parents : List (Option ℕ)) (givens : List Given) (from : ℕ) (claims : List Claim) (names : List (List ℕ)) → AreListed claims names
    → HaveValues (value_kinds_from parents givens from claims names)
unfolding AreListed
all_have parents givens from claims [] listed = tt
all_have parents givens from claims (name ∷ names) listed = (some_length (values_listed claims name) listed.0, all_have parents givens (from + 1) claims names listed.1)

pub kinds_have : (parents : List (Option ℕ)) (givens : List Given) (from : ℕ) (claims : List Claim) → unlisted claims ≡ None
    → HaveValues (value_kinds_from parents givens from claims (names_as sort.ValueKind claims))
kinds_have parents givens from claims none = all_have parents givens from claims (names_as sort.ValueKind claims) (kinds_listed claims none)

pub kinds_counted : (parents : List (Option ℕ)) (givens : List Given) (from : ℕ) (claims : List Claim) (names : List (List ℕ)) → length (value_kinds_from parents givens from claims names) ≡ length names
kinds_counted parents givens from claims [] = refl
kinds_counted parents givens from claims (name ∷ names) = ap suc (kinds_counted parents givens (from + 1) claims names)

-- ---- few values

listed_few : (kind : List ℕ) (f : Fact) (other : List (List ℕ)) → is_list_too_long f ≡ false → length other ≤ 100 → length (listed_in kind f other) ≤ 100
listed_few kind (Values listing) other h few =
    elim (cases_Bool (bytes_eq kind listing.kind)) [
      | inl is ↦ rw is (omega (arith, ltb-false 100 (length listing.values) h))
      | inr isnt ↦ rw isnt few
    ]
listed_few kind _ other h few = few

values_few : (claims : List Claim) (kind : List ℕ) → list_too_long claims ≡ None → length (values_listed claims kind) ≤ 100
values_few [] kind none = omega arith
values_few (c ∷ claims) kind none =
    let t = none_shown shows_long_list (λ u c. u) tt c claims none in
    listed_few kind c.fact (values_listed claims kind) t.0 (values_few claims kind t.1)

pub kinds_few : (parents : List (Option ℕ)) (givens : List Given) (from : ℕ) (claims : List Claim) (names : List (List ℕ)) → list_too_long claims ≡ None
    → AreFewValues (value_kinds_from parents givens from claims names)
kinds_few parents givens from claims [] none = tt
kinds_few parents givens from claims (name ∷ names) none = (values_few claims name none, kinds_few parents givens (from + 1) claims names none)
