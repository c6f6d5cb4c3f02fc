-- None of the rules that were looked at admits what is asked.
use Rattle.std.proofs.Common.{◌≤◌}
use Rattle.rule_index.specs.Buckets.{rule_admits}
use Rattle.rule_index.specs.Walks.{NonePasses}
use Rattle.rule_index.proofs.walks.first_listed.Given as goal

abbrev pub invariant-loop-place : goal.invariant-loop-place
invariant-loop-place l = record {
  low : l.from ≤ l.place;
  none : NonePasses (rule_admits l.story l.asked.action l.asked.noun l.asked.room) l.listed l.from l.place;
}
