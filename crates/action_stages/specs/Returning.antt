-- Where play may go back to: the worlds of a log up to the place at which it was taken up.
use Rattle.std.specs.Prelude.{◌≡◌, ◌≤◌, ℕ, suc, List, length, take}
use Rattle.play_meaning.specs.Worlds.{World}
use Rattle.story_format.specs.declared.tables.Tables.{Tables}
use Rattle.world_store.specs.StoryWorlds.{StoryWorld, worlds}

-- the worlds of a log up to a place
abbrev pub front_at : ℕ → StoryWorld → List World
front_at mark s = take (suc mark) (worlds s)

-- a place of a log, and the worlds up to it
pub record Back : Type 0 where
  pub since : ℕ
  pub front : List World

abbrev pub back_at : ℕ → StoryWorld → Back
back_at mark s = record { since = mark; front = front_at mark s }

-- back to a world, from its own place
abbrev pub back_to : StoryWorld → Back
back_to s = record { since = length s.past; front = worlds s }

-- the place is still there
abbrev pub IsThere : Back → Type 0
IsThere back = length back.front ≡ suc back.since

-- the second comes behind the first: nothing of the first's log is lost
abbrev pub ComesBehind : StoryWorld → StoryWorld → Type 0
ComesBehind s t = (mark : ℕ) → mark ≤ length s.past → (mark ≤ length t.past) × (front_at mark t ≡ front_at mark s)

-- what play leaves as it is: the story, and where it may go back to
pub record Loaded : Type 0 where
  pub story : Tables
  pub back : Back
