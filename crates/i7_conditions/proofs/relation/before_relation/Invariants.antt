use Rattle.std.proofs.Common.{◌≡◌, ◌+◌, ◌≤◌, length}
use Rattle.i7_conditions.specs.Relations.{before_relation}
use Rattle.i7_conditions.proofs.relation.before_relation.Given as goal

abbrev pub invariant-loop-rest : goal.invariant-loop-rest
invariant-loop-rest l = record {
  same : l.count + before_relation l.rest ≡ before_relation l.words;
  bound : l.count + length l.rest ≤ length l.words;
}

abbrev pub decreases-loop-rest : goal.decreases-loop-rest
decreases-loop-rest l = length l.rest
