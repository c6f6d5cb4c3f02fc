-- How it is told that a rule isn't taken into the table: the code and its name.
use Rattle.std.specs.Prelude.{ℕ, List, codes}
use Rattle.standard_rules.specs.declared.host_fault.HostFault.{HostFault}
use Rattle.standard_rules.specs.declared.host_fault.HostFault.TheVariants.{Full, Memory, OutOfOrder}

abbrev pub host_text : HostFault → List ℕ
host_text OutOfOrder = codes "H1 OutOfOrder"
host_text Full = codes "H2 Full"
host_text Memory = codes "H3 Memory"
