-- The worlds before the changes that a log tells.
use Rattle.std.specs.Prelude.{List, [], ◌∷◌}
use Rattle.play_meaning.specs.Worlds.{World, set_flag, set_number, set_place, set_scene, set_value, set_variable}
use Rattle.story_format.specs.declared.tables.Tables.{Tables}
use Rattle.world_store.specs.StoryWorlds.{StoryWorld}
use Rattle.world_store.specs.declared.remembering.Was.{Was}
use Rattle.world_store.specs.declared.remembering.Was.TheVariants.{Flag, Number, Valued, Variable, Scene, Placed, Turns, Ended}
use Rattle.world_store.specs.declared.state.State.{State}

-- the lists of a state are those of a world
abbrev pub world_of : State → World
world_of s = record {
  places = s.tree;
  flags = s.flags;
  numbers = s.numbers;
  values = s.values;
  variables = s.variables.items;
  scenes = s.scenes.items;
  turns = s.turns;
  ended = s.ended;
}

-- what a change replaced is there again
abbrev pub undone : Was → World → World
undone (Flag property object value) w = set_flag property object value w
undone (Number property object value) w = set_number property object value w
undone (Valued kind object value) w = set_value kind object value w
undone (Variable variable value) w = set_variable variable value w
undone (Scene scene now) w = set_scene scene now w
undone (Placed object place) w = set_place object place w
undone (Turns turns) w = record w { turns = turns }
undone (Ended text) w = record w { ended = text }

-- the world before all the changes of a log, of which the last led to this world
abbrev pub all_undone : List Was → World → World
all_undone [] w = w
all_undone (was ∷ log) w = undone was (all_undone log w)

-- the worlds before each change of a log, the oldest in front
abbrev pub past_of : List Was → World → List World
past_of [] w = []
past_of (was ∷ log) w = all_undone (was ∷ log) w ∷ past_of log w

-- a story of these tables in this world, with these changes behind it
abbrev pub story_world : Tables → World → List Was → StoryWorld
story_world t w log = record { tables = t; world = w; past = past_of log w }
