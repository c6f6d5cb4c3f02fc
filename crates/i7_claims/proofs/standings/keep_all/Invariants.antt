use Rattle.std.proofs.Common.{◌≡◌, length}
use Rattle.std.specs.Prelude.{fold}
use Rattle.i7_claims.specs.NameScans.{standing_at, with_naming}
use Rattle.i7_claims.proofs.standings.keep_all.Given as goal

abbrev pub invariant-loop-rest : goal.invariant-loop-rest
invariant-loop-rest l = fold with_naming (standing_at l.known) l.rest ≡ fold with_naming (standing_at l.initial.known) l.namings

abbrev pub decreases-loop-rest : goal.decreases-loop-rest
decreases-loop-rest l = length l.rest
