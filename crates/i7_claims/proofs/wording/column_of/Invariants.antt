use Rattle.std.proofs.Common.{◌≡◌, ◌≤◌, length, drop}
use Rattle.i7_claims.specs.NameScans.{standing_at}
use Rattle.i7_claims.specs.Wording.{column_of}
use Rattle.i7_claims.proofs.wording.column_of.Given as goal

abbrev pub invariant-loop-place : goal.invariant-loop-place
invariant-loop-place l = record { within : l.place ≤ length l.words; same : l.column.items ≡ column_of (standing_at l.known) l.is_joined (drop l.place l.words) }

abbrev pub decreases-loop-place : goal.decreases-loop-place
decreases-loop-place l = l.place
