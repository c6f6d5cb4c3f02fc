use Rattle.story_format.proofs.Beginnings.{holders_there, player_in_room, stories_few, stories_tree}
use Rattle.story_format.proofs.fact_laws.stories_begin_in_order.Goals as goal

pub returns : goal.returns
returns c = record { few = stories_few; tree = stories_tree; holders = holders_there; player = player_in_room }
