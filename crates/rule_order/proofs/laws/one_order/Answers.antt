use Rattle.rule_order.proofs.Uniqueness as unique
use Rattle.rule_order.proofs.laws.one_order.Goals as goal

pub returns-clause-one : goal.returns-clause-one
returns-clause-one c = unique.one_order

pub returns-clause-consulted : goal.returns-clause-consulted
returns-clause-consulted c = unique.consulted
