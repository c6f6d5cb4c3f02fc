use Rattle.std.proofs.Common.{◌≡◌, length}
use Rattle.std.specs.Prelude.{fold}
use Rattle.i7_kinds.specs.Knowns.{knowns_of, off_path, shows_off, with_known_of}
use Rattle.i7_claims.specs.Scans.{lowest}
use Rattle.i7_kinds.proofs.knowns.known_by.Given as goal

abbrev pub invariant-loop-rest : goal.invariant-loop-rest
invariant-loop-rest l =
    (fold (with_known_of l.scope) l.knowns.items l.rest ≡ knowns_of l.scope l.claims)
    × (lowest (shows_off l.scope) (with_known_of l.scope) l.knowns.items l.rest l.off_path ≡ off_path l.scope l.claims)

abbrev pub decreases-loop-rest : goal.decreases-loop-rest
decreases-loop-rest l = length l.rest
