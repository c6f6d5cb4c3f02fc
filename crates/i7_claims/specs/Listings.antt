-- The values of kinds of value: those of the first list of them.
use Rattle.std.specs.Prelude.{ℕ, List, [], ◌∷◌, bytes_eq, if◌then◌else◌}
use Rattle.i7_claims.specs.declared.claim.Claim.{Claim}
use Rattle.i7_claims.specs.declared.claim.Fact.{Fact}
use Rattle.i7_claims.specs.declared.claim.Fact.TheVariants.{Values}

abbrev pub listed_in : List ℕ → Fact → List (List ℕ) → List (List ℕ)
listed_in kind (Values listing) other = if bytes_eq kind listing.kind then listing.values else other
listed_in kind _ other = other

-- the values of the kind of value of this name
abbrev pub values_listed : List Claim → List ℕ → List (List ℕ)
values_listed [] kind = []
values_listed (c ∷ claims) kind = listed_in kind c.fact (values_listed claims kind)
