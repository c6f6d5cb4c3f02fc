use Rattle.world_meaning.proofs.Sights.{glass_keeps, glass_shows, opaque_hides, open_gives}
use Rattle.world_meaning.proofs.sight_laws.boxes_hide_and_keep.Goals as goal

pub returns : goal.returns
returns c = record { opaque = opaque_hides; glass = glass_shows; closed = glass_keeps; opened = open_gives }
