use Rattle.rule_order.proofs.ListingLemmas.{listings_so}
use Rattle.rule_order.proofs.listing.listings.Goals as goal

pub returns : goal.returns
returns c =
    listings_so c.args.rules c.args.sentences.now c.loop-rest.listings.items c.loop-rest.number c.loop-rest.rest.now c.in_default.len_below c.loop-rest.invariant
