-- The world of a session with its log, and the places of the log to which turns are taken back.
use Rattle.std.specs.Prelude.{◌≡◌, ◌≤◌, ◌-◌, ℕ, Bool, true, ◌&&◌, nat_le, List, [], ◌∷◌, length, map, Option, None, Some, slice_get, slice_index_or, unwrap_or}
use Rattle.play_meaning.specs.Worlds.{World}
use Rattle.world_store.specs.StoryWorlds.{StoryWorld, worlds}
use Rattle.action_stages.specs.Returning.{ComesBehind}

-- the world at a place of a log
abbrev pub world_at : StoryWorld → ℕ → World
world_at s mark = slice_index_or (worlds s) mark s.world

-- no world at all
abbrev pub nowhere : World
nowhere = record { places = []; flags = []; numbers = []; values = []; variables = []; scenes = []; turns = 0; ended = None }

-- a session has a world but while an action is done on it
abbrev pub world_in : Option StoryWorld → World
world_in None = nowhere
world_in (Some s) = s.world

-- the worlds at these places of its log
abbrev pub kept_in : Option StoryWorld → List ℕ → List World
kept_in None marks = []
kept_in (Some s) marks = map (world_at s) marks

-- whether these are places up to this one, the latest in front
abbrev pub are_marks : ℕ → List ℕ → Bool
are_marks last [] = true
are_marks last (mark ∷ marks) = nat_le mark last && are_marks mark marks

-- what was done on the world has lost nothing of its log
abbrev pub HasGoneOn : Option StoryWorld → Option StoryWorld → Type 0
HasGoneOn before now = (s t : StoryWorld) → before ≡ Some s → now ≡ Some t → ComesBehind s t

-- the last of these places, or this one where there are none
abbrev pub oldest_of : List ℕ → ℕ → ℕ
oldest_of marks last = unwrap_or (slice_get marks (length marks - 1)) last

-- no more changes stand in front of the last of these places than behind it, and none at all where there are no places
abbrev pub IsShort : StoryWorld → List ℕ → Type 0
IsShort s marks = oldest_of marks (length s.past) ≤ length s.past - oldest_of marks (length s.past)

-- so is a session's log
abbrev pub IsShortIn : Option StoryWorld → List ℕ → Type 0
IsShortIn None marks = Unit {0}
IsShortIn (Some s) marks = IsShort s marks

-- what was let go of in front of a log changes neither the world nor those at the places, which may be told anew
pub record IsShortened (s : StoryWorld) (marks : List ℕ) (t : StoryWorld) (told : List ℕ) : Type 0 where
  pub tables : t.tables ≡ s.tables
  pub world : t.world ≡ s.world
  pub kept : kept_in (Some t) told ≡ kept_in (Some s) marks
  pub places : are_marks (length t.past) told ≡ true
  pub few : IsShort t told
