use Rattle.std.proofs.Common.{◌≡◌, length, map}
use Rattle.std.specs.Prelude.{fold}
use Rattle.i7_claims.specs.Statements.{with_name}
use Rattle.i7_claims.specs.Views.{names_of}
use Rattle.i7_claims.proofs.names.take_up_names.Given as goal

abbrev pub invariant-loop-rest : goal.invariant-loop-rest
invariant-loop-rest l =
    fold with_name (names_of l.names) (map (λ name. record { name = name; line = l.line }) l.rest)
    ≡ fold with_name (names_of l.initial.names) (map (λ name. record { name = name; line = l.line }) l.mentioned)

abbrev pub decreases-loop-rest : goal.decreases-loop-rest
decreases-loop-rest l = length l.rest
