-- A story in play: its tables, the world of the moment, whose lists have the lengths that the story gives, and the worlds before it.
use Rattle.std.specs.Prelude.{◌≡◌, ◌<◌, ◌≤◌, ◌-◌, ℕ, true, drop, List, [], ◌∷◌, ◌++◌, length, slice_get, slice_index_or, take, Some, Result}
use Rattle.object_tree.specs.Places.{holder_of}
use Rattle.play_meaning.specs.Changes.{behind, remembered}
use Rattle.play_meaning.specs.Settings.{room_kind}
use Rattle.play_meaning.specs.Turns.{most_turns}
use Rattle.play_meaning.specs.Worlds.{World, place_of, value_of}
use Rattle.play_meaning.specs.declared.fault.WorldFault.{WorldFault}
use Rattle.story_format.specs.InPlay.{has_value, is_of, value_names}
use Rattle.story_format.specs.Spells.{IsStory}
use Rattle.story_format.specs.declared.tables.Tables.{Tables}
use Rattle.world_meaning.specs.Chains.{IsTree}
use Rattle.world_meaning.specs.declared.place.Rel.TheVariants.{In}
use Rattle.world_store.specs.Rows.{AreColumns}

pub record StoryWorld : Type 0 where
  pub tables : Tables
  pub world : World
  -- the worlds before each change since the story began or was copied, the oldest in front
  pub past : List World

-- those at the places of the log, the present one last
abbrev pub worlds : StoryWorld → List World
worlds s = s.past ++ s.world ∷ []

-- what stands behind a change that was asked for
abbrev pub changed : {A : Type 0} → Result A WorldFault → World → StoryWorld → StoryWorld
changed result made s = record s { world = behind result made s.world; past = remembered result s.world s.past }

-- the world at a place of the log, and those before it
abbrev pub reverted : ℕ → StoryWorld → StoryWorld
reverted mark s = record s { world = slice_index_or (worlds s) mark s.world; past = take mark s.past }

-- the worlds in front of a place of the log are let go of: the first that is left is that at the place
abbrev pub let_go : ℕ → StoryWorld → StoryWorld
let_go mark s = record s { past = drop mark s.past }

-- more changes stand in front of a place of the log than between it and a later one
abbrev pub IsPastHalf : (mark last : ℕ) → Type 0
IsPastHalf mark last = last - mark < mark

-- each object has one of the values of each kind of value that its kind has
abbrev pub HasChoices : Tables → World → Type 0
HasChoices t w = (kind o : ℕ) → has_value t o kind ≡ true → value_of w kind o < length (value_names t kind)

-- a world of a story: it says of each object where it is, whether each either-or property is true of it, its number in each
-- number property, and its value of each kind of value, one of those that this has; of each variable and each scene where it stands; the
-- player is directly in a room; turns are counted no further than numbers go; and objects hold each other, no chain of holders being
-- endless
pub record IsKept (t : Tables) (w : World) : Type 0 where
  pub story : IsStory t
  pub objects : length w.places ≡ length t.objects
  pub flags : AreColumns w.flags (length t.world.flags) (length t.objects)
  pub numbers : AreColumns w.numbers (length t.world.numbers) (length t.objects)
  pub values : AreColumns w.values (length t.values.kinds) (length t.objects)
  pub choices : HasChoices t w
  pub variables : length w.variables ≡ length t.world.variables
  pub scenes : length w.scenes ≡ length t.rules.scenes
  pub here : ℕ
  pub room : is_of t here room_kind ≡ true
  pub player : place_of w 0 ≡ Some (record { relation = In; holder = here })
  pub turns : w.turns ≤ most_turns
  pub tree : IsTree (place_of w)
  pub holders : (thing holder : ℕ) → holder_of w.places thing ≡ Some holder → holder < length w.places

-- all of them are
abbrev pub AreKept : Tables → List World → Type 0
AreKept t ws = (i : ℕ) (w : World) → slice_get ws i ≡ Some w → IsKept t w

-- the present world and those before it
pub record IsStoryWorld (s : StoryWorld) : Type 0 where
  pub now : IsKept s.tables s.world
  pub before : AreKept s.tables s.past
