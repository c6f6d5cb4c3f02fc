-- The transcript of a story's commands, and what is left of a text that is read from its front.
use Rattle.std.specs.Prelude.{◌≡◌, ◌++◌, ℕ, true, List}
use Rattle.play_meaning.specs.Sessions.{State, opened}
use Rattle.play_meaning.specs.Transcripts.{IsPlay}
use Rattle.story_format.specs.Refusals.{IsRefused}
use Rattle.story_format.specs.Spells.{Spells}
use Rattle.story_format.specs.declared.tables.Tables.{Tables}
use Rattle.world_store.specs.StoryPlay.{game_in_play}
use Rattle.golden_transcripts.specs.declared.fault.TrialFault.{TrialFault}
use Rattle.golden_transcripts.specs.declared.fault.TrialFault.TheVariants.{InputTooLong, Memory, Story}

-- The bytes spell a story, and the transcript is the play of the commands in its game, each of them echoed.
pub record IsTranscript (story commands transcript : List ℕ) : Type 0 where
  pub tables : Tables
  pub spells : Spells story tables
  pub last : State
  pub play : IsPlay (game_in_play tables) true (opened (game_in_play tables)).state commands transcript last

-- Why no transcript is tried: the bytes are no story, memory was refused, or there is more to be typed than is read.
abbrev pub IsUntried : List ℕ → TrialFault → Type 0
IsUntried story (Story fault) = IsRefused fault story
IsUntried story Memory = Unit {0}
IsUntried story InputTooLong = Unit {0}

-- a text is what is left of another, behind what stands in front
pub record IsBehind (before after : List ℕ) : Type 0 where
  pub front : List ℕ
  pub parts : before ≡ front ++ after
