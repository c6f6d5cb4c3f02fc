-- How many rules stand in a table of stored rules.
use Rattle.std.specs.Prelude.{ℕ, length}
use Rattle.standard_rules.specs.declared.hosts.HostTable.{HostTable}

abbrev pub rule_count : {X : _} {F : _} {g : _} → HostTable X F g → ℕ
rule_count t = length t.rules.items
