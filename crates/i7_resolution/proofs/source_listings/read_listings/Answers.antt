use Rattle.std.proofs.Common.{◌∷◌, subst, sym}
use Rattle.i7_rules.proofs.Looked.{goes_on}
use Rattle.i7_rules.specs.Knowns.{known_of}
use Rattle.i7_rules.specs.RuleList.{rules_lent}
use Rattle.i7_resolution.specs.ListingList.{listing_lent, listings_lent}
use Rattle.i7_resolution.specs.ListingScans.{IsSoFar, state_of}
use Rattle.i7_resolution.proofs.ReadListings.{listing_further}
use Rattle.i7_resolution.proofs.source_listings.read_listings.Goals as goal

pub loop-rest-preserved : goal.loop-rest-preserved
loop-rest-preserved c =
    let k = known_of c.args.known.now in
    let rules = rules_lent c.args.rules.now in
    let l = listing_lent c.listing-item.result in
    goes_on listing_lent (λ before. IsSoFar k rules before (state_of c.loop-rest.so_far)) (λ before. IsSoFar k rules before (state_of c.in_ok-so_far.so_far)) (listings_lent c.args.listings.now) c.loop-rest.rest.now
    c.listing-item.result c.in-len1-up.len_at_least c.listing-item.is c.loop-rest.invariant
    (λ before so. subst (IsSoFar k rules (l ∷ before)) (sym c.in_ok-so_far.ensures)
    (listing_further c.one_book_is_followed.ensures k rules l before c.in_ok-found.found (state_of c.loop-rest.so_far) c.in_ok-found.ensures so))
