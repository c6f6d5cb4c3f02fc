use Rattle.i7_rules.specs.Knowns.{known_of}
use Rattle.i7_rules.specs.RuleList.{rules_lent}
use Rattle.i7_resolution.proofs.ReadListings.{none_named}
use Rattle.i7_resolution.proofs.listing.listing_of.Goals as goal

pub returns-in-None : goal.returns-in-None
returns-in-None c =
    none_named (known_of c.args.known.now) (rules_lent c.args.rules.now) c.args.said.now c.args.names.now c.as_slice.result.now c.in_ok-rule_named.field-0 c.requires.names c.as_slice.ensures c.in_ok-rule_named.ensures c.in-None.is
