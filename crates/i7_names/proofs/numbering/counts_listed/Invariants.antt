use Rattle.std.proofs.Common.{◌≡◌, ◌++◌, length, map}
use Rattle.i7_names.specs.Numbering.{counts_listed}
use Rattle.i7_names.proofs.numbering.counts_listed.Given as goal

abbrev pub invariant-loop-rest : goal.invariant-loop-rest
invariant-loop-rest l = l.counts.items ++ counts_listed l.claims (map (λ name. name.items) l.rest) ≡ counts_listed l.claims (map (λ name. name.items) l.names)

abbrev pub decreases-loop-rest : goal.decreases-loop-rest
decreases-loop-rest l = length l.rest
