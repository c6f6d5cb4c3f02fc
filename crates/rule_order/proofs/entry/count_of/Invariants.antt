-- The most so far, and what is left.
use Rattle.std.proofs.Common.{◌≡◌, ◌≤◌, length}
use Rattle.rule_order.specs.Entries.{count_from, count_of}
use Rattle.rule_order.proofs.entry.count_of.Given as goal

abbrev pub invariant-loop-rest : goal.invariant-loop-rest
invariant-loop-rest l = record {
  same : count_from l.count l.rest ≡ count_of l.entries;
  bound : l.count ≤ 65536;
}

abbrev pub decreases-loop-rest : goal.decreases-loop-rest
decreases-loop-rest l = length l.rest
