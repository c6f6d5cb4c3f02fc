use Rattle.rule_order.proofs.ListedApart.{listed_apart}
use Rattle.rule_order.proofs.listing_laws.rules_are_listed_apart.Goals as goal

pub returns : goal.returns
returns c = listed_apart
