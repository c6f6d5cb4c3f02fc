-- What the sentences so far say, and those that are left.
use Rattle.std.proofs.Common.{◌≡◌, length, replicate}
use Rattle.play_meaning.specs.declared.tree.pattern.Listing.TheVariants.{InOrder}
use Rattle.rule_order.specs.Listings.{listings_after}
use Rattle.rule_order.proofs.listing.listings.Given as goal

abbrev pub invariant-loop-rest : goal.invariant-loop-rest
invariant-loop-rest l = listings_after l.listings.items l.number l.rest ≡ listings_after (replicate l.rules InOrder) 0 l.sentences

abbrev pub decreases-loop-rest : goal.decreases-loop-rest
decreases-loop-rest l = length l.rest
