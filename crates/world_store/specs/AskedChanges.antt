-- Changes of a story in play that were asked for one after the other, refused ones among them.
use Rattle.std.specs.Prelude.{◌≡◌, List, [], ◌∷◌, Result, Err}
use Rattle.play_meaning.specs.Worlds.{World}
use Rattle.play_meaning.specs.declared.fault.WorldFault.{WorldFault}
use Rattle.play_meaning.specs.declared.fault.WorldFault.TheVariants.{Misplaced}
use Rattle.world_store.specs.StoryWorlds.{StoryWorld, changed}

-- one that was asked for: what was answered, and the world that it makes
pub record Asked : Type 0 where
  pub answer : Result (Unit {0}) WorldFault
  pub made : World

-- the story behind them
abbrev pub all_changed : List Asked → StoryWorld → StoryWorld
all_changed [] s = s
all_changed (asked ∷ rest) s = all_changed rest (changed asked.answer asked.made s)

-- one that isn't allowed makes the same world
abbrev pub AreSetters : List Asked → StoryWorld → Type 0
AreSetters [] s = Unit {0}
AreSetters (asked ∷ rest) s = (asked.answer ≡ Err Misplaced → asked.made ≡ s.world) × AreSetters rest (changed asked.answer asked.made s)
