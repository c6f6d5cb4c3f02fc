-- The scan for names that are too long finds the lowest line.
use Rattle.std.proofs.Common.{ℕ, List, [], ◌∷◌, length, ◌≡◌, refl, sym, subst}
use Rattle.std.specs.Prelude.{Decides, fold}
use Rattle.std.proofs.lemmas.Bool.{lt-ltb, ltb-true}
use Rattle.i7_kinds.specs.LongNames.{IsLonger, is_longer, longer_name, same_most, shows_longer}
use Rattle.i7_claims.specs.Scans.{IsLowest, ShownBy}
use Rattle.i7_claims.specs.declared.claim.Claim.{Claim}
use Rattle.i7_claims.specs.declared.claim.Fact.{Fact}
use Rattle.i7_claims.specs.declared.claim.Fact.TheVariants.{Stands, Rulebook}
use Rattle.i7_claims.proofs.Lowest.{lowest_is}
use Rattle.i7_claims.proofs.NameScans.{never}

longer_decides : (most : ℕ) (f : Fact) → Decides (is_longer most f) (IsLonger most f)
longer_decides most (Stands n) = (ltb-true most (length n.name), lt-ltb most (length n.name))
longer_decides most (Rulebook name) = (ltb-true most (length name), lt-ltb most (length name))
longer_decides most _ = never (λ h. h)

same_fold : (claims : List Claim) (most : ℕ) → fold same_most most claims ≡ most
same_fold [] most = refl
same_fold (c ∷ cs) most = same_fold cs most

pub longer_lowest : (most : ℕ) (claims : List Claim) → IsLowest (ShownBy (λ before c. IsLonger most c.fact) claims) (longer_name most claims)
longer_lowest most claims = lowest_is (λ before c. IsLonger most c.fact) shows_longer same_most most claims (λ before c after split. subst (λ (m : ℕ). Decides (is_longer m c.fact) (IsLonger most c.fact)) (sym (same_fold before most)) (longer_decides most c.fact))
