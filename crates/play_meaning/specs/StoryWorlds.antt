-- A world of a story: chains end, the player is somewhere, and properties are true of objects that are there.
use Rattle.std.specs.Prelude.{◌≡◌, ℕ, ◌<◌, true, Some}
use Rattle.world_meaning.specs.Chains.{IsChain}
use Rattle.world_meaning.specs.declared.place.Place.{Place}
use Rattle.play_meaning.specs.Settings.{Setting}
use Rattle.play_meaning.specs.Worlds.{World, chain, is_true_of, place_of}

pub record IsWorldOf (s : Setting) (w : World) : Type 0 where
  pub chains : (o : ℕ) → IsChain (place_of w) o (chain w o)
  pub room : Place
  pub player : place_of w 0 ≡ Some room
  pub there : (property o : ℕ) → is_true_of w property o ≡ true → o < s.count
