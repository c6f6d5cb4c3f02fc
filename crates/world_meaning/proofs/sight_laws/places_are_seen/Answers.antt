use Rattle.std.proofs.Common.{refl}
use Rattle.world_meaning.proofs.Sights.{direction_untouched, elsewhere_unseen, location_untouched, player_at_hand}
use Rattle.world_meaning.proofs.sight_laws.places_are_seen.Goals as goal

pub returns : goal.returns
returns c = record {
  player = player_at_hand;
  location = λ o t l d. refl;
  elsewhere = elsewhere_unseen;
  direction = λ o t l d. tt;
  untouched_location = location_untouched;
  untouched_direction = direction_untouched;
}
