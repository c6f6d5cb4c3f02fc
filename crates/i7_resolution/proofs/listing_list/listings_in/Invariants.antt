use Rattle.std.proofs.Common.{◌≡◌, ◌++◌, length}
use Rattle.i7_resolution.specs.ListingList.{listings_in, listings_lent}
use Rattle.i7_resolution.proofs.listing_list.listings_in.Given as goal

abbrev pub invariant-loop-rest : goal.invariant-loop-rest
invariant-loop-rest l = listings_lent l.listings.items ++ listings_in l.rest ≡ listings_in l.sentences

abbrev pub decreases-loop-rest : goal.decreases-loop-rest
decreases-loop-rest l = length l.rest
