-- What contracts see of a session: its story's game, and its state.
use Rattle.command_parser.specs.Readings.{told}
use Rattle.command_parser.specs.declared.reading.Reading.{Reading as Read}
use Rattle.play_meaning.specs.Games.{Game, Reading}
use Rattle.play_meaning.specs.Sessions.{State, meant_among}
use Rattle.story_format.specs.declared.tables.Tables.{Tables}
use Rattle.world_store.specs.StoryGrammars.{grammar_of}
use Rattle.world_store.specs.StoryPlay.{game_in_play}
use Rattle.world_store.specs.StorySettings.{setting_of}
use Rattle.story_player.specs.KeptWorlds.{IsShortIn, kept_in, world_in}
use Rattle.story_player.specs.declared.session.Session.{Session}

-- the story that is played, by its tables
abbrev pub story_of : {X : _} {F : _} {g : _} → Session X F g → Tables
story_of session = session.story.value

abbrev pub game_of : {X : _} {F : _} {g : _} → Session X F g → Game
game_of session = game_in_play (story_of session)

abbrev pub state_of : {X : _} {F : _} {g : _} → Session X F g → State
state_of session = record { world = world_in session.world; kept = kept_in session.world session.kept; question = session.question; ending = session.ending }

-- no more changes stand in its log in front of the oldest turn that can be taken back than behind it
abbrev pub HasShortLog : {X : _} {F : _} {g : _} → Session X F g → Type 0
HasShortLog session = IsShortIn session.world session.kept

-- what the parser's reading of a command means to a session
abbrev pub meant_by : {X : _} {F : _} {g : _} → Session X F g → Read → Reading
meant_by session reading = meant_among (setting_of (story_of session)) (state_of session).world (told (grammar_of (story_of session)) reading)
