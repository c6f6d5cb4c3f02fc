-- What playing a source or a story file does to its reader and its writer.
use Rattle.std.specs.Prelude.{◌≡◌, ℕ, Bool, true, false, List, [], Some}
use Rattle.world_meaning.specs.declared.session.Ending.{Ending}
use Rattle.world_meaning.specs.declared.tale.Tale.{Tale}
use Rattle.play_meaning.specs.Games.{Game}
use Rattle.play_meaning.specs.Sessions.{State, opened}
use Rattle.story_format.specs.Contents.{Contents}
use Rattle.story_format.specs.Holding.{AreHeld}
use Rattle.story_format.specs.Refusals.{IsRefused as IsNoStory}
use Rattle.story_format.specs.Spells.{Spells}
use Rattle.story_format.specs.declared.tables.Tables.{Tables}
use Rattle.story_format.specs.declared.fault.LoadFault.TheVariants as load
use Rattle.story_file.specs.Compilations.{IsRefused, Means, game_meant}
use Rattle.story_player.specs.Begun.{IsUnbegun}
use Rattle.story_player.specs.Breaks.{Blames}
use Rattle.story_player.specs.Runs.{BrokeOff, Played, Streams, streams_of, most_input}
use Rattle.world_store.specs.StoryPlay.{game_in_play}
use Rattle.story_player.specs.declared.fault.RunFault.{RunFault}
use Rattle.source_player.specs.declared.source_run.SourceRunFault.{SourceRunFault}
use Rattle.source_player.specs.declared.source_run.SourceRunFault.TheVariants.{Source, Story, Start, Run}

-- A game was played from its beginning: the play of the reader's commands was written, and so the session
-- ended.
pub record PlayedGame (g : Game) (echo : Bool) (before after : Streams) (ending : Ending) : Type 0 where
  pub last : State
  pub played : Played g echo before after (opened g).state last
  pub ended : last.ending ≡ Some ending

-- The play of a game from its beginning broke off.
pub record BrokeOffGame (fault : RunFault) (g : Game) (echo : Bool) (before after : Streams) : Type 0 where
  pub last : State
  pub broke : BrokeOff fault g echo (opened g).text most_input before after (opened g).state last

-- Bytes that spell a story were played: its own game.
pub record PlayedStory (bytes : List ℕ) (echo : Bool) (before after : Streams) (ending : Ending) : Type 0 where
  pub story : Tables
  pub spells : Spells bytes story
  pub played : PlayedGame (game_in_play story) echo before after ending

pub record BrokeOffStory (fault : RunFault) (bytes : List ℕ) (echo : Bool) (before after : Streams) : Type 0 where
  pub story : Tables
  pub spells : Spells bytes story
  pub broke : BrokeOffGame fault (game_in_play story) echo before after

-- The headline: a source of which there is a story file was played, in the game of the tale that its sentences mean, of what its
-- descriptions say, of its rules, each consulted in its place, and of its scenes.
pub record PlayedSource (source : List ℕ) (echo : Bool) (before after : Streams) (ending : Ending) : Type 0 where
  pub tale : Tale
  pub said : Contents
  pub means : Means source tale said
  pub held : AreHeld tale said
  pub played : PlayedGame (game_meant tale said) echo before after ending

pub record BrokeOffSource (fault : RunFault) (source : List ℕ) (echo : Bool) (before after : Streams) : Type 0 where
  pub tale : Tale
  pub said : Contents
  pub means : Means source tale said
  pub held : AreHeld tale said
  pub broke : BrokeOffGame fault (game_meant tale said) echo before after

-- whether play had begun
abbrev pub is_of_run : SourceRunFault → Bool
is_of_run (Source fault) = false
is_of_run (Story fault) = false
is_of_run (Start fault) = false
is_of_run (Run fault) = true

-- Which of a reader and a writer has failed: before the story is played neither is touched.
abbrev pub FaultsWith : SourceRunFault → Bool → Bool → Type 0
FaultsWith (Source fault) reader writer = (reader ≡ false) × (writer ≡ false)
FaultsWith (Story fault) reader writer = (reader ≡ false) × (writer ≡ false)
FaultsWith (Start fault) reader writer = (reader ≡ false) × (writer ≡ false)
FaultsWith (Run fault) reader writer = Blames fault reader writer

-- bytes that spell a story
pub record IsSpelled (bytes : List ℕ) : Type 0 where
  pub story : Tables
  pub spells : Spells bytes story

-- a source whose sentences mean a tale, of which a story file says the descriptions and rules
pub record IsMeant (source : List ℕ) : Type 0 where
  pub tale : Tale
  pub said : Contents
  pub means : Means source tale said
  pub held : AreHeld tale said

-- Why bytes aren't played to their end as a story, where there are so many stored rules: they are none, the story that they are
-- isn't begun, for want of stored rules or of memory, or the run broke off.
abbrev pub LeavesStory : SourceRunFault → ℕ → List ℕ → Bool → Streams → Streams → Type 0
LeavesStory (Source fault) stored bytes echo before after = ⊥
LeavesStory (Story fault) stored bytes echo before after = IsNoStory fault bytes
LeavesStory (Start fault) stored bytes echo before after = IsUnbegun fault stored × IsSpelled bytes
LeavesStory (Run fault) stored bytes echo before after = (stored ≡ 61) × BrokeOffStory fault bytes echo before after

-- Why a source isn't played to its end: a refusal of it stands, it means a tale and memory is refused where its story is
-- loaded (what was compiled is a story), or it isn't begun, or the run broke off.
abbrev pub LeavesSource : SourceRunFault → ℕ → List ℕ → Bool → Streams → Streams → Type 0
LeavesSource (Source fault) stored source echo before after = IsRefused source fault
LeavesSource (Story fault) stored source echo before after = (fault ≡ load.Memory) × IsMeant source
LeavesSource (Start fault) stored source echo before after = IsUnbegun fault stored × IsMeant source
LeavesSource (Run fault) stored source echo before after = (stored ≡ 61) × BrokeOffSource fault source echo before after

-- A source was played over bytes of commands, as over a reader of them and a writer that holds nothing at first: the transcript is the
-- play of all of them.
pub record PlayedBytes (source commands : List ℕ) (echo : Bool) (transcript : List ℕ) (ending : Ending) : Type 0 where
  pub after : Streams
  pub written : after.held ≡ Some transcript
  pub played : PlayedSource source echo (streams_of (Some commands) (Some [])) after ending

-- Why a source isn't played over bytes of commands, where there are so many stored rules: what playing it leaves, where the
-- commands are read into a transcript that is empty at first.
pub record IsUnplayed (fault : SourceRunFault) (stored : ℕ) (source commands : List ℕ) (echo : Bool) : Type 0 where
  pub after : Streams
  pub left : LeavesSource fault stored source echo (streams_of (Some commands) (Some [])) after
