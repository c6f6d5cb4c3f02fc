use Rattle.std.proofs.Common.{◌≡◌, length}
use Rattle.i7_claims.specs.NameScans.{shows_list, list_twice, with_list_of}
use Rattle.i7_claims.specs.Scans.{lowest}
use Rattle.i7_claims.proofs.standings.list_twice.Given as goal

abbrev pub invariant-loop-rest : goal.invariant-loop-rest
invariant-loop-rest l = lowest shows_list with_list_of l.kinds l.rest l.found ≡ list_twice l.claims

abbrev pub decreases-loop-rest : goal.decreases-loop-rest
decreases-loop-rest l = length l.rest
