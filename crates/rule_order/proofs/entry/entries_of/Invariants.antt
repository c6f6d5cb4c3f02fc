-- Those so far, and those of what is left.
use Rattle.std.proofs.Common.{◌≡◌, ◌+◌, ◌≤◌, ◌++◌, length}
use Rattle.rule_order.specs.Entries.{entries_from}
use Rattle.rule_order.proofs.entry.entries_of.Given as goal

abbrev pub invariant-loop-rest : goal.invariant-loop-rest
invariant-loop-rest l = record {
  same : l.entries.items ++ entries_from l.kinds l.number l.rest ≡ entries_from l.kinds 0 l.headings;
  bound : l.number + length l.rest ≤ 65535;
}

abbrev pub decreases-loop-rest : goal.decreases-loop-rest
decreases-loop-rest l = length l.rest
