use Rattle.world_meaning.proofs.Sights.{dark_shut, dark_unlit, light_from_glass, light_from_open}
use Rattle.world_meaning.proofs.sight_laws.light_comes_from_inside.Goals as goal

pub returns : goal.returns
returns c = record { opened = light_from_open; glass = light_from_glass; opaque = dark_shut; unlit = dark_unlit }
