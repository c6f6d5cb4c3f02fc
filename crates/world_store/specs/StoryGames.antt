-- The game of a story that was loaded: it is told by what the tables say of the objects.
use Rattle.std.specs.Prelude.{◌≡◌, ℕ, List, Some}
use Rattle.play_meaning.specs.Attempts.{Attempt}
use Rattle.play_meaning.specs.Grounds.{telling_by}
use Rattle.play_meaning.specs.Commands.{read}
use Rattle.play_meaning.specs.PlainStories.{PlainStory, plain_telling}
use Rattle.play_meaning.specs.Saying.{description_in}
use Rattle.play_meaning.specs.declared.action.ActionNow.{ActionNow}
use Rattle.story_format.specs.Codes.{codes_told}
use Rattle.story_format.specs.Facts.{description_code_of}
use Rattle.story_format.specs.declared.tables.Tables.{Tables}
use Rattle.world_store.specs.StartWorlds.{start_world}
use Rattle.world_store.specs.StoryGrammars.{grammar_of}
use Rattle.world_store.specs.StorySettings.{setting_of}
use Rattle.world_store.specs.StoryWorlds.{StoryWorld}

-- each object is described by its code
unfoldable pub plain_story : Tables → PlainStory
plain_story t = record {
  setting = setting_of t;
  start = start_world t;
  describes = (telling_by (codes_told t) (setting_of t) (description_code_of t)).describes;
  reads = read (grammar_of t);
}

-- what the description of an object says in an action
abbrev pub DescriptionIs : StoryWorld → ActionNow → ℕ → Attempt (List ℕ) → Type 0
DescriptionIs w now object answer = description_in (plain_telling (plain_story w.tables)) now w.world (Some object) ≡ answer
