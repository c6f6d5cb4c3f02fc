use Rattle.std.proofs.Common.{◌≡◌, length}
use Rattle.std.specs.Prelude.{fold}
use Rattle.i7_claims.specs.Statements.{named_by, with_names_of}
use Rattle.i7_claims.specs.Views.{names_of}
use Rattle.i7_claims.proofs.names.names_of.Given as goal

abbrev pub invariant-loop-rest : goal.invariant-loop-rest
invariant-loop-rest l = fold with_names_of (names_of l.names) l.rest ≡ named_by l.sentences

abbrev pub decreases-loop-rest : goal.decreases-loop-rest
decreases-loop-rest l = length l.rest
