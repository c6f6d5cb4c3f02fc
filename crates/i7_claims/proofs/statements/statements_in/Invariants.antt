use Rattle.std.proofs.Common.{◌≡◌, ◌++◌, length, map}
use Rattle.i7_claims.specs.Statements.{statement_in}
use Rattle.i7_claims.specs.Views.{names_of}
use Rattle.i7_claims.proofs.statements.statements_in.Given as goal

abbrev pub invariant-loop-rest : goal.invariant-loop-rest
invariant-loop-rest l = l.statements.items ++ map (statement_in (names_of l.names)) l.rest ≡ map (statement_in (names_of l.names)) l.sentences

abbrev pub decreases-loop-rest : goal.decreases-loop-rest
decreases-loop-rest l = length l.rest
