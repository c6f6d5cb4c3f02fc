-- The scan for lists of values finds the lowest line at which a kind's values are listed again.
use Rattle.std.proofs.Common.{◌≡◌, ℕ, List, [], ◌∷◌, ◌++◌, sym, ap, ◌∙◌, subst, append-nil, append_assoc, Bool}
use Rattle.std.specs.Prelude.{fold, Decides}
use Rattle.i7_claims.specs.NameScans.{is_listed_twice, shows_list, list_twice, with_list, with_list_of}
use Rattle.i7_claims.specs.Scans.{IsLowest, ShownBy}
use Rattle.i7_claims.specs.Standings.{IsListedTwice, has_name, lists_in, lists_of}
use Rattle.i7_claims.specs.declared.claim.Claim.{Claim}
use Rattle.i7_claims.specs.declared.claim.Fact.{Fact}
use Rattle.i7_claims.specs.declared.claim.Fact.TheVariants.{Values}
use Rattle.i7_claims.proofs.BookScans.{has_more, mention_has, test_decides}
use Rattle.i7_claims.proofs.Lowest.{lowest_is}
use Rattle.i7_claims.proofs.NameScans.{never}

fact_has : (f : Fact) (kinds : List (List ℕ)) (other : List ℕ) → has_name (with_list kinds f) other ≡ has_name (kinds ++ lists_in f) other
fact_has (Values listing) kinds other = mention_has kinds listing.kind other
fact_has _ kinds other = ap (λ (s : List (List ℕ)). has_name s other) (sym (append-nil kinds))

fold_lists : (claims : List Claim) (kinds : List (List ℕ)) (other : List ℕ) → has_name (fold with_list_of kinds claims) other ≡ has_name (kinds ++ lists_of claims) other
fold_lists [] kinds other = ap (λ (s : List (List ℕ)). has_name s other) (sym (append-nil kinds))
fold_lists (c ∷ cs) kinds other =
    fold_lists cs (with_list kinds c.fact) other
    ∙ has_more (with_list kinds c.fact) (kinds ++ lists_in c.fact) (lists_of cs) other (fact_has c.fact kinds other)
    ∙ ap (λ (s : List (List ℕ)). has_name s other) (append_assoc kinds (lists_in c.fact) (lists_of cs))

list_decides : (before : List Claim) (f : Fact) → Decides (is_listed_twice (fold with_list_of [] before) f) (IsListedTwice before f)
list_decides before (Values listing) =
    subst (λ (b : Bool). Decides b (IsListedTwice before (Values listing))) (sym (fold_lists before [] listing.kind)) (test_decides (has_name (lists_of before) listing.kind))
list_decides before _ = never (λ h. h)

pub list_lowest : (claims : List Claim) → IsLowest (ShownBy (λ before c. IsListedTwice before c.fact) claims) (list_twice claims)
list_lowest claims = lowest_is (λ before c. IsListedTwice before c.fact) shows_list with_list_of [] claims (λ before c after split. list_decides before c.fact)
