-- Where no kind is unknown and none closes a cycle, each kind lies under a root.
use Rattle.std.proofs.Common.{◌≡◌, ℕ, zero, suc, ◌≤◌, ◌<◌, true, false, eqb, List, [], ◌∷◌, ◌++◌, length, Option, refl, sym, ap, ◌∙◌, subst, arith, inl, inr, ◌⊎◌, ⊎_elim, true≢false, append-nil, append_assoc}
use Rattle.std.specs.Prelude.{Some, None, bytes_eq, flat_map, fold, slice_get}
use Rattle.std.specs.List.{list_all, position_or_len}
use Rattle.std.proofs.lemmas.Bool.{eqb-true, eq-eqb, lt-ltb, cases_Bool, and_from, not-false, or_left, or_right}
use Rattle.world_meaning.proofs.Options.{get_front, get_within}
use Rattle.world_meaning.proofs.Climbs.{climbs_decide}
use Rattle.world_meaning.specs.Declarations.{is_rooted}
use Rattle.world_meaning.specs.Kinds.{Under, itself, above, built_in_parents, is_under, is_under_one}
use Rattle.world_meaning.specs.declared.kinds.TheConstants.{ROOTS}
use Rattle.i7_kinds.specs.KindClaims.{is_cycle, is_unknown, kind_cycle, kind_names, parents_of, same_names, shows_cycle, shows_unknown, unknown_kind, with_count, with_count_of, with_parent, with_parent_of}
use Rattle.i7_claims.specs.Scans.{lowest}
use Rattle.i7_claims.specs.Standings.{has_name}
use Rattle.i7_claims.specs.Statements.{number_in}
use Rattle.i7_claims.specs.declared.claim.Claim.{Claim}
use Rattle.i7_claims.specs.declared.claim.Fact.{Fact}
use Rattle.i7_claims.specs.declared.claim.Fact.TheVariants.{Lies}
use Rattle.i7_claims.proofs.Lowest.{none_shown}
use Rattle.i7_kinds.proofs.KindScans.{kind_names_counted, parents_are_kinds}
use Rattle.i7_kinds.proofs.NamesOnce.{get_pushed}

-- ---- what was there stays

get_last : {X : Type 0} (xs : List X) (v : X) → slice_get (xs ++ v ∷ []) (length xs) ≡ Some v
get_last [] v = refl
get_last (x ∷ xs) v = get_last xs v

more : (S T : List (Option ℕ)) (x e : ℕ) → Under S x e → Under (S ++ T) x e
more S T x e itself = itself
more S T x e (above {parent = p} h u) = above (get_front S T x (Some p) h) (more S T p e u)

pub trans : (S : List (Option ℕ)) (a b c : ℕ) → Under S a b → Under S b c → Under S a c
trans S a b c itself v = v
trans S a b c (above {parent = p} h u) v = above h (trans S p b c u v)

-- ---- without a cycle each way up ends

abbrev pub NoneAbove : List (Option ℕ) → ℕ → Type 0
NoneAbove S e = (q : ℕ) → slice_get S e ≡ Some (Some q) → ⊥

abbrev pub HasEnds : List (Option ℕ) → Type 0
HasEnds S = (x : ℕ) → (e : ℕ) × Under S x e × NoneAbove S e

through : (S : List (Option ℕ)) (p x e f : ℕ) → Under S x e → e ≡ length S → Under S p f → Under (S ++ Some p ∷ []) x f
through S p x e f u same w =
    let T = S ++ Some p ∷ [] in
    let last : slice_get T e ≡ Some (Some p) = ap (slice_get T) same ∙ get_last S (Some p) in
    trans T x e f (more S (Some p ∷ []) x e u) (above last (more S (Some p ∷ []) p f w))

still_none : (S : List (Option ℕ)) (p e : ℕ) → NoneAbove S e → (e ≡ length S → ⊥) → NoneAbove (S ++ Some p ∷ []) e
still_none S p e none other q h = ⊎_elim (λ here. other here.0) (λ old. none q old) (get_pushed S (Some p) e (Some q) h)

ends_step : (S : List (Option ℕ)) (p : ℕ) → HasEnds S → (Under S p (length S) → ⊥) → HasEnds (S ++ Some p ∷ [])
ends_step S p ends open_ended x =
    let t = ends x in
    let s = ends p in
    elim (cases_Bool (eqb t.0 (length S))) [
      | inl is ↦ (s.0, through S p x t.0 s.0 t.1 (eqb-true t.0 (length S) is) s.1, still_none S p s.0 s.2 (λ same. open_ended (subst (λ (e : ℕ). Under S p e) same s.1)))
      | inr isnt ↦ (t.0, more S (Some p ∷ []) x t.0 t.1, still_none S p t.0 t.2 (λ same. true≢false (sym (eq-eqb t.0 (length S) same) ∙ isnt)))
    ]

ends_fact : (names : List (List ℕ)) (f : Fact) (S : List (Option ℕ)) → HasEnds S → is_cycle names S f ≡ false → HasEnds (with_parent names S f)
ends_fact names (Lies l) S ends h = ends_step S (number_in names l.parent) ends (λ u. true≢false (sym ((climbs_decide S (number_in names l.parent) (length S)).1 u) ∙ h))
ends_fact names _ S ends h = ends

ends_claims : (names : List (List ℕ)) (claims : List Claim) (S : List (Option ℕ)) → HasEnds S → lowest (shows_cycle names) (with_parent_of names) S claims None ≡ None → HasEnds (fold (with_parent_of names) S claims)
ends_claims names [] S ends h = ends
ends_claims names (c ∷ cs) S ends h =
    let t = none_shown (shows_cycle names) (with_parent_of names) S c cs h in
    ends_claims names cs (with_parent names S c.fact) (ends_fact names c.fact S ends t.0) t.1

ends_built_in : HasEnds built_in_parents
unfolding built_in_parents
ends_built_in zero = (0, itself, λ q h. absurd cc)
ends_built_in (suc zero) = (1, itself, λ q h. absurd cc)
ends_built_in (suc (suc zero)) = (2, itself, λ q h. absurd cc)
ends_built_in (suc (suc (suc zero))) = (0, above {parent = 0} refl itself, λ q h. absurd cc)
ends_built_in (suc (suc (suc (suc zero)))) = (0, above {parent = 0} refl itself, λ q h. absurd cc)
ends_built_in (suc (suc (suc (suc (suc zero))))) = (0, above {parent = 0} refl itself, λ q h. absurd cc)
ends_built_in (suc (suc (suc (suc (suc (suc zero)))))) = (0, above {parent = 0} refl itself, λ q h. absurd cc)
ends_built_in (suc (suc (suc (suc (suc (suc (suc zero))))))) = (0, above {parent = 0} refl itself, λ q h. absurd cc)
ends_built_in (suc (suc (suc (suc (suc (suc (suc (suc zero)))))))) = (0, above {parent = 6} refl (above {parent = 0} refl itself), λ q h. absurd cc)
ends_built_in (suc (suc (suc (suc (suc (suc (suc (suc (suc zero))))))))) = (0, above {parent = 6} refl (above {parent = 0} refl itself), λ q h. absurd cc)
ends_built_in (suc (suc (suc (suc (suc (suc (suc (suc (suc (suc x)))))))))) = (suc (suc (suc (suc (suc (suc (suc (suc (suc (suc x))))))))), itself, λ q h. absurd cc)

pub kinds_end : (claims : List Claim) → kind_cycle (kind_names claims) claims ≡ None → HasEnds (parents_of (kind_names claims) claims)
kinds_end claims h = ends_claims (kind_names claims) claims built_in_parents ends_built_in h

-- ---- the ends are roots

abbrev RootsAlone : List (Option ℕ) → Type 0
RootsAlone S = (i : ℕ) → slice_get S i ≡ Some None → i ≤ 2

roots_step : (S : List (Option ℕ)) (p : ℕ) → RootsAlone S → RootsAlone (S ++ Some p ∷ [])
roots_step S p roots i h = ⊎_elim (λ here. let other : Some p ≡ None = here.1 in absurd cc) (λ old. roots i old) (get_pushed S (Some p) i None h)

roots_fact : (names : List (List ℕ)) (f : Fact) (S : List (Option ℕ)) → RootsAlone S → RootsAlone (with_parent names S f)
roots_fact names (Lies l) S roots = roots_step S (number_in names l.parent) roots
roots_fact names _ S roots = roots

roots_claims : (names : List (List ℕ)) (claims : List Claim) (S : List (Option ℕ)) → RootsAlone S → RootsAlone (fold (with_parent_of names) S claims)
roots_claims names [] S roots = roots
roots_claims names (c ∷ cs) S roots = roots_claims names cs (with_parent names S c.fact) (roots_fact names c.fact S roots)

roots_built_in : RootsAlone built_in_parents
unfolding built_in_parents
roots_built_in zero h = omega arith
roots_built_in (suc zero) h = omega arith
roots_built_in (suc (suc zero)) h = omega arith
roots_built_in (suc (suc (suc zero))) h = absurd cc
roots_built_in (suc (suc (suc (suc zero)))) h = absurd cc
roots_built_in (suc (suc (suc (suc (suc zero))))) h = absurd cc
roots_built_in (suc (suc (suc (suc (suc (suc zero)))))) h = absurd cc
roots_built_in (suc (suc (suc (suc (suc (suc (suc zero))))))) h = absurd cc
roots_built_in (suc (suc (suc (suc (suc (suc (suc (suc zero)))))))) h = absurd cc
roots_built_in (suc (suc (suc (suc (suc (suc (suc (suc (suc zero))))))))) h = absurd cc
roots_built_in (suc (suc (suc (suc (suc (suc (suc (suc (suc (suc x)))))))))) h = absurd cc

-- ---- known names have numbers of kinds

place_there : (keys : List (List ℕ)) (key : List ℕ) → has_name keys key ≡ true → position_or_len (bytes_eq key) keys < length keys
place_there [] key h = absurd cc
place_there (k ∷ keys) key h =
    elim (cases_Bool (bytes_eq key k)) [
      | inl is ↦ rw is (omega arith)
      | inr isnt ↦ let later : has_name keys key ≡ true = rw isnt at h in rw isnt (omega (arith, place_there keys key later))
    ]

pub number_there : (keys : List (List ℕ)) (key : List ℕ) → has_name keys key ≡ true → number_in keys key < length keys
number_there keys key h =
    let t = place_there keys key h in
    let inside = lt-ltb (position_or_len (bytes_eq key) keys) (length keys) t in
    rw inside t

abbrev AreBelow : ℕ → List (Option ℕ) → Type 0
AreBelow n S = (i q : ℕ) → slice_get S i ≡ Some (Some q) → q < n

below_step : (n : ℕ) (S : List (Option ℕ)) (p : ℕ) → p < n → AreBelow n S → AreBelow n (S ++ Some p ∷ [])
below_step n S p lt below i q h = ⊎_elim (λ here. let same : p ≡ q = cc in subst (λ (o : ℕ). o < n) same lt) (λ old. below i q old) (get_pushed S (Some p) i (Some q) h)

below_fact : (names : List (List ℕ)) (n : ℕ) (f : Fact) (S : List (Option ℕ)) → length names ≤ n → is_unknown names f ≡ false → AreBelow n S → AreBelow n (with_parent names S f)
below_fact names n (Lies l) S few h below = below_step n S (number_in names l.parent) (omega (arith, few, number_there names l.parent (not-false (has_name names l.parent) h))) below
below_fact names n _ S few h below = below

below_claims : (names : List (List ℕ)) (n : ℕ) (claims : List Claim) (S : List (Option ℕ)) → length names ≤ n → lowest shows_unknown same_names names claims None ≡ None → AreBelow n S → AreBelow n (fold (with_parent_of names) S claims)
below_claims names n [] S few h below = below
below_claims names n (c ∷ cs) S few h below =
    let t = none_shown shows_unknown same_names names c cs h in
    below_claims names n cs (with_parent names S c.fact) few t.1 (below_fact names n c.fact S few t.0 below)

below_built_in : (n : ℕ) → 10 ≤ n → AreBelow n built_in_parents
unfolding built_in_parents
below_built_in n le zero q h = absurd cc
below_built_in n le (suc zero) q h = absurd cc
below_built_in n le (suc (suc zero)) q h = absurd cc
below_built_in n le (suc (suc (suc zero))) q h = let same : 0 ≡ q = cc in omega (arith, le, same)
below_built_in n le (suc (suc (suc (suc zero)))) q h = let same : 0 ≡ q = cc in omega (arith, le, same)
below_built_in n le (suc (suc (suc (suc (suc zero))))) q h = let same : 0 ≡ q = cc in omega (arith, le, same)
below_built_in n le (suc (suc (suc (suc (suc (suc zero)))))) q h = let same : 0 ≡ q = cc in omega (arith, le, same)
below_built_in n le (suc (suc (suc (suc (suc (suc (suc zero))))))) q h = let same : 0 ≡ q = cc in omega (arith, le, same)
below_built_in n le (suc (suc (suc (suc (suc (suc (suc (suc zero)))))))) q h = let same : 6 ≡ q = cc in omega (arith, le, same)
below_built_in n le (suc (suc (suc (suc (suc (suc (suc (suc (suc zero))))))))) q h = let same : 6 ≡ q = cc in omega (arith, le, same)
below_built_in n le (suc (suc (suc (suc (suc (suc (suc (suc (suc (suc x)))))))))) q h = absurd cc

under_below : (n : ℕ) (S : List (Option ℕ)) (x e : ℕ) → AreBelow n S → x < n → Under S x e → e < n
under_below n S x e below lt itself = lt
under_below n S x e below lt (above {parent = p} h u) = under_below n S p e below (below x p h) u

-- ---- all of it

root_of : (S : List (Option ℕ)) (x e : ℕ) → e ≤ 2 → is_under S x e ≡ true → is_under_one S ROOTS x ≡ true
root_of S x zero le h = or_left (is_under S x 0) _ h
root_of S x (suc zero) le h = or_right (is_under S x 0) _ (or_left (is_under S x 1) _ h)
root_of S x (suc (suc zero)) le h = or_right (is_under S x 0) _ (or_right (is_under S x 1) _ (or_left (is_under S x 2) _ h))
root_of S x (suc (suc (suc e))) le h = absurd (omega (arith, le))

no_entry : (S : List (Option ℕ)) (e : ℕ) (v : Option ℕ) → NoneAbove S e → slice_get S e ≡ Some v → slice_get S e ≡ Some None
no_entry S e None none h = h
no_entry S e (Some q) none h = absurd (none q h)

-- a kind lies under a root
rooted : (S : List (Option ℕ)) → HasEnds S → RootsAlone S → AreBelow (length S) S → (x : ℕ) → x < length S → is_under_one S ROOTS x ≡ true
rooted S ends roots below x lt =
    let t = ends x in
    let inside = under_below (length S) S x t.0 below lt t.1 in
    let entry = get_within S t.0 inside in
    root_of S x t.0 (roots t.0 (no_entry S t.0 entry.0 t.2 entry.1)) ((climbs_decide S x t.0).1 t.1)

abbrev pub author_in : List (List ℕ) → Fact → List (Option ℕ)
author_in names (Lies l) = Some (number_in names l.parent) ∷ []
author_in names _ = []

-- the kinds above the author's kinds
abbrev pub authors : List (List ℕ) → List Claim → List (Option ℕ)
authors names claims = flat_map (λ c. author_in names c.fact) claims

author_fact : (names : List (List ℕ)) (f : Fact) (S : List (Option ℕ)) → with_parent names S f ≡ S ++ author_in names f
author_fact names (Lies l) S = refl
author_fact names _ S = sym (append-nil S)

fold_authors : (names : List (List ℕ)) (claims : List Claim) (S : List (Option ℕ)) → fold (with_parent_of names) S claims ≡ S ++ authors names claims
fold_authors names [] S = sym (append-nil S)
fold_authors names (c ∷ cs) S =
    fold_authors names cs (with_parent names S c.fact)
    ∙ ap (λ (s : List (Option ℕ)). s ++ authors names cs) (author_fact names c.fact S)
    ∙ append_assoc S (author_in names c.fact) (authors names cs)

-- the author's kinds stand behind the built-in ones
pub authors_behind : (claims : List Claim) → parents_of (kind_names claims) claims ≡ built_in_parents ++ authors (kind_names claims) claims
authors_behind claims = fold_authors (kind_names claims) claims built_in_parents

rooted_fact : (names : List (List ℕ)) (S : List (Option ℕ)) (f : Fact) (others : List (Option ℕ)) → length names ≤ length S → ((x : ℕ) → x < length S → is_under_one S ROOTS x ≡ true) → is_unknown names f ≡ false → list_all (is_rooted S) others ≡ true → list_all (is_rooted S) (author_in names f ++ others) ≡ true
rooted_fact names S (Lies l) others few all h rest =
    and_from (is_under_one S ROOTS (number_in names l.parent)) (list_all (is_rooted S) others) (all (number_in names l.parent) (omega (arith, few, number_there names l.parent (not-false (has_name names l.parent) h)))) rest
rooted_fact names S _ others few all h rest = rest

rooted_claims : (names : List (List ℕ)) (S : List (Option ℕ)) (claims : List Claim) → length names ≤ length S → ((x : ℕ) → x < length S → is_under_one S ROOTS x ≡ true) → lowest shows_unknown same_names names claims None ≡ None → list_all (is_rooted S) (authors names claims) ≡ true
rooted_claims names S [] few all h = refl
rooted_claims names S (c ∷ cs) few all h =
    let t = none_shown shows_unknown same_names names c cs h in
    rooted_fact names S c.fact (authors names cs) few all t.0 (rooted_claims names S cs few all t.1)

count_grows : (f : Fact) (count : ℕ) → count ≤ with_count count f
count_grows (Lies l) count = omega arith
count_grows _ count = omega arith

pub counts_grow : (claims : List Claim) (count : ℕ) → count ≤ fold with_count_of count claims
counts_grow [] count = omega arith
counts_grow (c ∷ cs) count = omega (arith, count_grows c.fact count, counts_grow cs (with_count count c.fact))

-- each kind of the author's lies under a root
pub authors_rooted : (claims : List Claim) → unknown_kind (kind_names claims) claims ≡ None → kind_cycle (kind_names claims) claims ≡ None → list_all (is_rooted (parents_of (kind_names claims) claims)) (authors (kind_names claims) claims) ≡ true
authors_rooted claims no_unknown no_cycle =
    let names = kind_names claims in
    let S = parents_of names claims in
    let few : length names ≤ length S = omega (arith, kind_names_counted claims, parents_are_kinds names claims) in
    let many : 10 ≤ length S = omega (arith, counts_grow claims 10, parents_are_kinds names claims) in
    rooted_claims names S claims few
    (rooted S (ends_claims names claims built_in_parents ends_built_in no_cycle) (roots_claims names claims built_in_parents roots_built_in)
    (below_claims names (length S) claims built_in_parents few no_unknown (below_built_in (length S) many)))
    no_unknown
