use Rattle.world_meaning.proofs.Sights.{box_in_dark, box_in_light, door_in_dark, door_in_light, knob_unseen, lamp_at_hand}
use Rattle.world_meaning.proofs.sight_laws.the_dark_hides.Goals as goal

pub returns : goal.returns
returns c = record {
  carried = lamp_at_hand;
  dark_box = box_in_dark;
  light_box = box_in_light;
  dark_door = door_in_dark;
  light_door = door_in_light;
  part_of_door = knob_unseen;
}
