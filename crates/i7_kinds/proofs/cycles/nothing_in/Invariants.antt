use Rattle.std.proofs.Common.{◌≡◌, [], replicate}
use Rattle.i7_kinds.proofs.cycles.nothing_in.Given as goal

abbrev pub invariant-loop : goal.invariant-loop
invariant-loop l = l.contents.items ≡ replicate l.counter []
