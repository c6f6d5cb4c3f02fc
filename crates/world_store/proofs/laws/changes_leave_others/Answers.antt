use Rattle.world_store.proofs.LawLemmas.{flags_left, numbers_left, places_left, values_left}
use Rattle.world_store.proofs.laws.changes_leave_others.Goals as goal

pub returns : goal.returns
returns c = record { places = places_left; flags = flags_left; numbers = numbers_left; values = values_left }
