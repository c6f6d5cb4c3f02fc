-- The scans for kinds find the lowest lines, and kinds that are few have small numbers.
use Rattle.std.proofs.Common.{◌≡◌, ℕ, ◌+◌, ◌≤◌, Bool, false, not, List, [], ◌∷◌, ◌++◌, length, Option, refl, sym, ap, ◌∙◌, subst, arith, inl, inr}
use Rattle.std.specs.Prelude.{Some, None, Decides, fold, nat_le}
use Rattle.std.proofs.lemmas.Bool.{le-leb, leb-true, leb-false, not-true, not_from_false, cases_Bool}
use Rattle.std.proofs.lemmas.List.{length-append}
use Rattle.world_meaning.proofs.Climbs.{climbs_decide}
use Rattle.world_meaning.specs.Kinds.{built_in_parents}
use Rattle.object_words.specs.Mentions.{mention}
use Rattle.i7_kinds.specs.KindClaims.{AreSmallKinds, IsCycle, IsKindTooMany, IsUnknown, is_cycle, is_kind_too_many, is_unknown, kind_count, kind_cycle, kind_names, kind_too_many, parents_of, same_names, shows_cycle, shows_kind_too_many, shows_unknown, unknown_kind, with_count, with_count_of, with_kind, with_kind_of, with_parent, with_parent_of}
use Rattle.i7_claims.specs.Scans.{IsLowest, ShownBy, lowest}
use Rattle.i7_claims.specs.Sorts.{built_in_either_ors, built_in_kinds, claimed_as, is_too_many, most_names, names_as, shows_too_many, too_many_as, with_claimed, with_name}
use Rattle.i7_claims.specs.declared.sorts.Sort.{Sort}
use Rattle.i7_claims.specs.declared.sorts.Sort.TheVariants as sort
use Rattle.i7_claims.specs.Standings.{has_name}
use Rattle.i7_claims.specs.Statements.{number_in}
use Rattle.i7_claims.specs.declared.claim.Claim.{Claim}
use Rattle.i7_claims.specs.declared.claim.Fact.{Fact}
use Rattle.i7_claims.specs.declared.claim.Fact.TheVariants.{Lies, CanBe, HasNumber, HasValue, Demands, Usually, Unread}
use Rattle.i7_kinds.proofs.Bounds.{number-within}
use Rattle.i7_claims.proofs.Lowest.{lowest_is, none_shown}
use Rattle.i7_claims.proofs.NameScans.{never}

not_decides : (b : Bool) → Decides (not b) (b ≡ false)
not_decides b = (not-true b, not_from_false b)

unknown_decides : (names : List (List ℕ)) (f : Fact) → Decides (is_unknown names f) (IsUnknown names f)
unknown_decides names (Lies l) = not_decides (has_name names l.parent)
unknown_decides names (CanBe g) = not_decides (has_name names g.kind)
unknown_decides names (HasNumber g) = not_decides (has_name names g.kind)
unknown_decides names (HasValue g) = not_decides (has_name names g.kind)
unknown_decides names (Demands d) = not_decides (has_name names d.kind)
unknown_decides names (Usually u) = not_decides (has_name names u.kind)
unknown_decides names (Unread words) = (λ h. tt, λ h. refl)
unknown_decides names _ = never (λ h. h)

same_fold : (claims : List Claim) (names : List (List ℕ)) → fold same_names names claims ≡ names
same_fold [] names = refl
same_fold (c ∷ cs) names = same_fold cs names

pub unknown_lowest : (names : List (List ℕ)) (claims : List Claim) → IsLowest (ShownBy (λ before c. IsUnknown names c.fact) claims) (unknown_kind names claims)
unknown_lowest names claims = lowest_is (λ before c. IsUnknown names c.fact) shows_unknown same_names names claims (λ before c after split. subst (λ (s : List (List ℕ)). Decides (is_unknown s c.fact) (IsUnknown names c.fact)) (sym (same_fold before names)) (unknown_decides names c.fact))

cycle_decides : (names : List (List ℕ)) (before : List Claim) (f : Fact) → Decides (is_cycle names (parents_of names before) f) (IsCycle names before f)
cycle_decides names before (Lies l) = climbs_decide (parents_of names before) (number_in names l.parent) (length (parents_of names before))
cycle_decides names before _ = never (λ h. h)

pub cycle_lowest : (names : List (List ℕ)) (claims : List Claim) → IsLowest (ShownBy (λ before c. IsCycle names before c.fact) claims) (kind_cycle names claims)
cycle_lowest names claims = lowest_is (λ before c. IsCycle names before c.fact) (shows_cycle names) (with_parent_of names) built_in_parents claims (λ before c after split. cycle_decides names before c.fact)

count_decides : (before : List Claim) (f : Fact) → Decides (is_kind_too_many (kind_count before) f) (IsKindTooMany before f)
count_decides before (Lies l) = (leb-true 100 (kind_count before), le-leb 100 (kind_count before))
count_decides before _ = never (λ h. h)

pub kind_count_lowest : (claims : List Claim) → IsLowest (ShownBy (λ before c. IsKindTooMany before c.fact) claims) (kind_too_many claims)
kind_count_lowest claims = lowest_is (λ before c. IsKindTooMany before c.fact) shows_kind_too_many with_count_of 10 claims (λ before c after split. count_decides before c.fact)

-- ---- with no kind too many, numbers are small

count_step : (f : Fact) (count : ℕ) → count ≤ 100 → is_kind_too_many count f ≡ false → with_count count f ≤ 100
count_step (Lies l) count few h = omega (arith, leb-false 100 count h)
count_step _ count few h = few

count_few : (claims : List Claim) (count : ℕ) → count ≤ 100 → lowest shows_kind_too_many with_count_of count claims None ≡ None → fold with_count_of count claims ≤ 100
count_few [] count few h = few
count_few (c ∷ cs) count few h =
    let t = none_shown shows_kind_too_many with_count_of count c cs h in
    count_few cs (with_count count c.fact) (count_step c.fact count few t.0) t.1

-- with no kind too many there are 100 at most
pub kinds_few : (claims : List Claim) → kind_too_many claims ≡ None → kind_count claims ≤ 100
kinds_few claims h = count_few claims 10 (omega arith) h

mention_one : (names : List (List ℕ)) (name : List ℕ) → length (mention names name) ≤ length names + 1
mention_one names name =
    elim (cases_Bool (has_name names name)) [
      | inl is ↦ rw is (omega arith)
      | inr isnt ↦ rw isnt (omega (arith, length-append names (name ∷ [])))
    ]

kind_step : (f : Fact) (names : List (List ℕ)) (count : ℕ) → length names ≤ count → length (with_kind names f) ≤ with_count count f
kind_step (Lies l) names count few = omega (arith, few, mention_one names l.kind)
kind_step _ names count few = few

names_counted : (claims : List Claim) (names : List (List ℕ)) (count : ℕ) → length names ≤ count → length (fold with_kind_of names claims) ≤ fold with_count_of count claims
names_counted [] names count few = few
names_counted (c ∷ cs) names count few = names_counted cs (with_kind names c.fact) (with_count count c.fact) (kind_step c.fact names count few)

pub kind_names_counted : (claims : List Claim) → length (kind_names claims) ≤ kind_count claims
unfolding built_in_kinds
kind_names_counted claims = names_counted claims built_in_kinds 10 (omega arith)

parent_step : (names : List (List ℕ)) (f : Fact) (parents : List (Option ℕ)) → length (with_parent names parents f) ≡ with_count (length parents) f
parent_step names (Lies l) parents = length-append parents (Some (number_in names l.parent) ∷ [])
parent_step names _ parents = refl

parents_counted : (names : List (List ℕ)) (claims : List Claim) (parents : List (Option ℕ)) → length (fold (with_parent_of names) parents claims) ≡ fold with_count_of (length parents) claims
parents_counted names [] parents = refl
parents_counted names (c ∷ cs) parents = parents_counted names cs (with_parent names parents c.fact) ∙ ap (λ count. fold with_count_of count cs) (parent_step names c.fact parents)

pub parents_are_kinds : (names : List (List ℕ)) (claims : List Claim) → length (parents_of names claims) ≡ kind_count claims
unfolding built_in_parents
parents_are_kinds names claims = parents_counted names claims built_in_parents

pub parents_few : (claims : List Claim) → kind_too_many claims ≡ None → length (parents_of (kind_names claims) claims) ≤ 100
parents_few claims h = omega (arith, parents_are_kinds (kind_names claims) claims, kinds_few claims h)

small_append : (xs ys : List (Option ℕ)) → AreSmallKinds xs → AreSmallKinds ys → AreSmallKinds (xs ++ ys)
small_append [] ys h k = k
small_append (x ∷ xs) ys h k = (h.0, small_append xs ys h.1 k)

small_step : (names : List (List ℕ)) (f : Fact) (parents : List (Option ℕ)) → length names ≤ 100 → AreSmallKinds parents → AreSmallKinds (with_parent names parents f)
small_step names (Lies l) parents few h =
    let small : number_in names l.parent ≤ 100 = omega (arith, few, number-within names l.parent) in
    small_append parents (Some (number_in names l.parent) ∷ []) h (small, tt)
small_step names _ parents few h = h

small_parents : (names : List (List ℕ)) (claims : List Claim) (parents : List (Option ℕ)) → length names ≤ 100 → AreSmallKinds parents → AreSmallKinds (fold (with_parent_of names) parents claims)
small_parents names [] parents few h = h
small_parents names (c ∷ cs) parents few h = small_parents names cs (with_parent names parents c.fact) few (small_step names c.fact parents few h)

small_built_in : AreSmallKinds built_in_parents
unfolding built_in_parents
small_built_in = (tt, (tt, (tt, (omega arith, (omega arith, (omega arith, (omega arith, (omega arith, (omega arith, (omega arith, tt))))))))))

-- so a source with no kind too many has small numbers
pub kinds_small : (claims : List Claim) → kind_too_many claims ≡ None → AreSmallKinds (parents_of (kind_names claims) claims)
kinds_small claims h = small_parents (kind_names claims) claims built_in_parents (omega (arith, kind_names_counted claims, kinds_few claims h)) small_built_in

-- ---- with no name of a sort too many, they are few

name_step : (most : ℕ) (names : List (List ℕ)) (found : Option (List ℕ)) → length names ≤ most → is_too_many most names found ≡ false → length (with_name names found) ≤ most
name_step most names None few h = few
name_step most names (Some name) few h =
    elim (cases_Bool (has_name names name)) [
      | inl is ↦ rw is few
      | inr isnt ↦ let full : nat_le most (length names) ≡ false = rw isnt at h in rw isnt (omega (arith, leb-false most (length names) full, length-append names (name ∷ [])))
    ]

pub names_few : (s : Sort) (claims : List Claim) (names : List (List ℕ)) → length names ≤ most_names s → lowest (shows_too_many s) (with_claimed s) names claims None ≡ None → length (fold (with_claimed s) names claims) ≤ most_names s
names_few s [] names few h = few
names_few s (c ∷ cs) names few h =
    let t = none_shown (shows_too_many s) (with_claimed s) names c cs h in
    names_few s cs (with_claimed s names c) (name_step (most_names s) names (claimed_as s c.fact) few t.0) t.1

pub variables_few : (claims : List Claim) → too_many_as sort.Variable claims ≡ None → length (names_as sort.Variable claims) ≤ 100
variables_few claims h = names_few sort.Variable claims [] (omega arith) h

pub numbers_few : (claims : List Claim) → too_many_as sort.Number claims ≡ None → length (names_as sort.Number claims) ≤ 100
numbers_few claims h = names_few sort.Number claims [] (omega arith) h

pub value_kinds_few : (claims : List Claim) → too_many_as sort.ValueKind claims ≡ None → length (names_as sort.ValueKind claims) ≤ 100
value_kinds_few claims h = names_few sort.ValueKind claims [] (omega arith) h

pub either_ors_few : (claims : List Claim) → too_many_as sort.EitherOr claims ≡ None → length (names_as sort.EitherOr claims) ≤ 100
unfolding built_in_either_ors
either_ors_few claims h = names_few sort.EitherOr claims built_in_either_ors (omega arith) h
