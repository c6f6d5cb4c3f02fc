use Rattle.rule_order.proofs.AnyRules.{ruled}
use Rattle.rule_order.proofs.listing_laws.headings_are_of_rules.Goals as goal

pub returns : goal.returns
returns c = ruled
