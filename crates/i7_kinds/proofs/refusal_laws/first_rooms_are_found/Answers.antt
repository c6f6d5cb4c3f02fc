use Rattle.i7_kinds.proofs.LimitsShown.{room_found}
use Rattle.i7_kinds.proofs.refusal_laws.first_rooms_are_found.Goals as goal

pub returns : goal.returns
returns c = room_found
