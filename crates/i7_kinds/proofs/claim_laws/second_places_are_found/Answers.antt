use Rattle.i7_kinds.proofs.PlaceScans.{second_lowest}
use Rattle.i7_kinds.proofs.claim_laws.second_places_are_found.Goals as goal

pub returns : goal.returns
returns c = second_lowest
