-- C12: a name, of whatever it stands for, of over 65,535 bytes.
use Rattle.std.specs.Prelude.{ℕ, ◌<◌, Bool, false, nat_lt, List, length, Option, None}
use Rattle.i7_claims.specs.Scans.{lowest}
use Rattle.i7_claims.specs.declared.claim.Claim.{Claim}
use Rattle.i7_claims.specs.declared.claim.Fact.{Fact}
use Rattle.i7_claims.specs.declared.claim.Fact.TheVariants.{Stands, Rulebook}

-- a name is told that has more bytes than this
abbrev pub IsLonger : ℕ → Fact → Type 0
IsLonger most (Stands n) = most < length n.name
IsLonger most (Rulebook name) = most < length name
IsLonger most _ = ⊥

abbrev pub is_longer : ℕ → Fact → Bool
is_longer most (Stands n) = nat_lt most (length n.name)
is_longer most (Rulebook name) = nat_lt most (length name)
is_longer most _ = false

abbrev pub shows_longer : ℕ → Claim → Bool
shows_longer most c = is_longer most c.fact

abbrev pub same_most : ℕ → Claim → ℕ
same_most most c = most

-- the lowest line of a name with more bytes than this
abbrev pub longer_name : ℕ → List Claim → Option ℕ
longer_name most claims = lowest shows_longer same_most most claims None
