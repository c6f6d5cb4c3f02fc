use Rattle.world_meaning.proofs.Placings.{doors_stay, not_in_itself, player_in_room}
use Rattle.world_meaning.proofs.placing_laws.placing_keeps_its_rules.Goals as goal

pub returns : goal.returns
returns c = record { player = player_in_room; doors = doors_stay; itself = not_in_itself }
