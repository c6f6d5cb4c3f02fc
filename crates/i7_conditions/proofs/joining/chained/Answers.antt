use Rattle.std.proofs.Common.{ap}
use Rattle.i7_conditions.specs.declared.found.Found.TheVariants.{Read}
use Rattle.i7_conditions.proofs.Chains.{joined_chain}
use Rattle.i7_conditions.proofs.joining.chained.Goals as goal

pub returns-in-Read-rest : goal.returns-in-Read-rest
returns-in-Read-rest c = rw (c.in-Read.is, c.in-Read-rest.is) (ap Read (joined_chain c.in-Read.first c.in-Read-rest.rest.items))
