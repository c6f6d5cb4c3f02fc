-- A story behind its opening, and why none is begun.
use Rattle.std.specs.Prelude.{◌≡◌, ◌≢◌, ℕ, List, [], ◌∷◌, None}
use Rattle.play_meaning.specs.Attempts.{Attempt}
use Rattle.play_meaning.specs.Consulting.{play_begins_book}
use Rattle.play_meaning.specs.Games.{Game}
use Rattle.play_meaning.specs.Progress.{Progress}
use Rattle.play_meaning.specs.Turns.{follow, look_round, parts, perform}
use Rattle.world_store.specs.StoryPlay.{game_in_play}
use Rattle.play_meaning.specs.Sessions.{opened}
use Rattle.story_format.specs.declared.tables.Tables.{Tables}
use Rattle.story_player.specs.Turns.{ending_told}
use Rattle.story_player.specs.declared.fault.StartFault.{StartFault}
use Rattle.story_player.specs.declared.fault.StartFault.TheVariants.{IncompleteHosts, Memory}
use Rattle.world_store.specs.StoryWorlds.{StoryWorld}

-- its world, and what was said
pub record IsBegun (t : Tables) (now : StoryWorld) (opening : List ℕ) : Type 0 where
  pub tables : now.tables ≡ t
  pub text : opening ≡ (opened (game_in_play t)).text
  pub state : record { world = now.world; kept = []; question = None; ending = ending_told now.world.ended } ≡ (opened (game_in_play t)).state

-- the parts of the opening behind its scene pass
abbrev pub begin_play : Game → Progress → Attempt Progress
begin_play g p = parts (follow g play_begins_book ∷ perform g look_round ∷ []) p

-- of so many stored rules not all are there, else memory lacked
abbrev pub IsUnbegun : StartFault → ℕ → Type 0
IsUnbegun IncompleteHosts count = count ≢ 61
IsUnbegun Memory count = count ≡ 61
