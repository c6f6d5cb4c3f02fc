use Rattle.std.proofs.Common.{◌≡◌, ◌+◌, length}
use Rattle.standard_rules.proofs.hosts.HostTable.standard.Given as goal

abbrev pub invariant-loop-id : goal.invariant-loop-id
invariant-loop-id g l = length l.table.rules.items + 1 ≡ l.id
