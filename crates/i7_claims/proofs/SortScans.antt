-- The scan for a name that is one too many finds the lowest line of such a one.
use Rattle.std.proofs.Common.{◌≡◌, ℕ, ◌≤◌, false, not, List, length, Option, refl, ap, ◌∙◌}
use Rattle.std.specs.Prelude.{Some, None, Decides, nat_le}
use Rattle.std.proofs.lemmas.Bool.{le-leb, leb-true, lt-ltb, ltb-true, and_from, and_parts, not-true, not_from_false}
use Rattle.i7_claims.specs.Scans.{IsLowest, ShownBy}
use Rattle.i7_claims.specs.Sorts.{IsListTooLong, IsTooMany, built_in_names, claimed_as, is_too_many, most_names, names_as, is_list_too_long, list_too_long, shows_long_list, shows_too_many, too_many_as, with_claimed}
use Rattle.i7_claims.specs.Standings.{has_name}
use Rattle.i7_claims.specs.declared.claim.Claim.{Claim}
use Rattle.i7_claims.specs.declared.claim.Fact.{Fact}
use Rattle.i7_claims.specs.declared.claim.Fact.TheVariants.{Values}
use Rattle.i7_claims.specs.declared.sorts.Sort.{Sort}
use Rattle.i7_claims.proofs.Lowest.{lowest_is}
use Rattle.i7_claims.proofs.NameScans.{never}

too_many_decides : (most : ℕ) (names : List (List ℕ)) (found : Option (List ℕ)) → Decides (is_too_many most names found) ((name : List ℕ) × (found ≡ Some name) × (has_name names name ≡ false) × (most ≤ length names))
too_many_decides most names None = (λ h. absurd cc, λ r. absurd cc)
too_many_decides most names (Some n) = (
  λ h. let t = and_parts (not (has_name names n)) (nat_le most (length names)) h in (n, refl, not-true (has_name names n) t.0, leb-true most (length names) t.1),
  λ r. let same : n ≡ r.0 = cc in and_from (not (has_name names n)) (nat_le most (length names)) (not_from_false (has_name names n) (ap (has_name names) same ∙ r.2)) (le-leb most (length names) r.3),
)

pub too_many_lowest : (s : Sort) (claims : List Claim) → IsLowest (ShownBy (λ before c. IsTooMany s before c.fact) claims) (too_many_as s claims)
too_many_lowest s claims = lowest_is (λ before c. IsTooMany s before c.fact) (shows_too_many s) (with_claimed s) (built_in_names s) claims (λ before c after split. too_many_decides (most_names s) (names_as s before) (claimed_as s c.fact))

list_decides : (fact : Fact) → Decides (is_list_too_long fact) (IsListTooLong fact)
list_decides (Values listing) = (λ h. ltb-true 100 (length listing.values) h, λ r. lt-ltb 100 (length listing.values) r)
list_decides _ = never (λ h. h)

pub lists_lowest : (claims : List Claim) → IsLowest (ShownBy (λ before c. IsListTooLong c.fact) claims) (list_too_long claims)
lists_lowest claims = lowest_is (λ before c. IsListTooLong c.fact) shows_long_list (λ u c. u) tt claims (λ before c after split. list_decides c.fact)
