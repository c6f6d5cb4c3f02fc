-- What a stage holds: the story, the tables that its world is of, where play has come to, and where it may go back to.
use Rattle.play_meaning.specs.Progress.{Progress}
use Rattle.story_format.specs.declared.tables.Tables.{Tables}
use Rattle.action_stages.specs.Returning.{Back, back_at}
use Rattle.action_stages.specs.declared.going.Stage.{Stage}

abbrev pub story_of : {X : _} {F : _} {g : _} → Stage X F g → Tables
story_of s = s.story.now

abbrev pub tables_of : {X : _} {F : _} {g : _} → Stage X F g → Tables
tables_of s = s.world.tables

abbrev pub progress_of : {X : _} {F : _} {g : _} → Stage X F g → Progress
progress_of s = record { world = s.world.world; text = s.text.items; work = s.work }

abbrev pub back_of : {X : _} {F : _} {g : _} → Stage X F g → Back
back_of s = back_at s.since s.world
