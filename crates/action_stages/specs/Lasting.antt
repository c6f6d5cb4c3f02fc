-- How many lists a world has of what its story declares: no instruction makes them more or fewer.
use Rattle.std.specs.Prelude.{◌≡◌, length}
use Rattle.play_meaning.specs.Machines.{Abandons, Answers, Goes, Leaves, Step, Stuck}
use Rattle.play_meaning.specs.Worlds.{World}

-- as many properties of both sorts, kinds of value, variables and scenes
pub record IsAsLong (w v : World) : Type 0 where
  pub flags : length v.flags ≡ length w.flags
  pub numbers : length v.numbers ≡ length w.numbers
  pub values : length v.values ≡ length w.values
  pub variables : length v.variables ≡ length w.variables
  pub scenes : length v.scenes ≡ length w.scenes

-- the world to which a step leads is as long as this one
abbrev pub Lasts : World → Step → Type 0
Lasts w (Goes t) = IsAsLong w t.progress.world
Lasts w (Leaves flow q) = IsAsLong w q.world
Lasts w (Answers truth) = Unit {0}
Lasts w (Abandons reason) = Unit {0}
Lasts w Stuck = Unit {0}
