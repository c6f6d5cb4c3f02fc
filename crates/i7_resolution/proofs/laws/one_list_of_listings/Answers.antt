use Rattle.i7_resolution.proofs.OneListing.{listings_once}
use Rattle.i7_resolution.proofs.laws.one_list_of_listings.Goals as goal

pub returns : goal.returns
returns c = listings_once
