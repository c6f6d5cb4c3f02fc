use Rattle.std.proofs.Common.{◌≡◌, length}
use Rattle.std.specs.Prelude.{fold}
use Rattle.i7_names.specs.Known.{known_of}
use Rattle.i7_names.specs.Meant.{with_claim}
use Rattle.i7_names.proofs.naming.add_claims.Given as goal

abbrev pub invariant-loop-rest : goal.invariant-loop-rest
invariant-loop-rest l = fold (with_claim l.numbering) (known_of l.names) l.rest ≡ fold (with_claim l.numbering) (known_of l.initial.names) l.claims

abbrev pub decreases-loop-rest : goal.decreases-loop-rest
decreases-loop-rest l = length l.rest
