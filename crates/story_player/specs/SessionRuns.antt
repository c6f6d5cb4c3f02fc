-- What a run does to its session, and what one line of it does: a session's state is what the play of its game leads to.
use Rattle.std.specs.Prelude.{ℕ, Bool, []}
use Rattle.play_meaning.specs.Sessions.{opened}
use Rattle.story_player.specs.Runs.{BrokeOff, Played, Streams, most_input}
use Rattle.story_player.specs.Sessions.{game_of, state_of}
use Rattle.story_player.specs.Steps.{PlayedLast, PlayedLine}
use Rattle.story_player.specs.declared.fault.RunFault.{RunFault}
use Rattle.story_player.specs.declared.session.Session.{Session}

-- the session was played to its end
abbrev pub IsPlayed : {X : _} {F : _} {g : _} → Bool → Session X F g → Session X F g → Streams → Streams → Type 0
IsPlayed echo from to before after = Played (game_of from) echo before after (state_of from) (state_of to)

-- its run broke off, behind the opening
abbrev pub IsBrokenOff : {X : _} {F : _} {g : _} → RunFault → Bool → Session X F g → Session X F g → Streams → Streams → Type 0
IsBrokenOff fault echo from to before after = BrokeOff fault (game_of from) echo (opened (game_of from)).text most_input before after (state_of from) (state_of to)

-- a whole line was played, where so many bytes might be read, and so many are left
abbrev pub IsLinePlayed : {X : _} {F : _} {g : _} → Bool → ℕ → ℕ → Session X F g → Session X F g → Streams → Streams → Type 0
IsLinePlayed echo limit left from to before after = PlayedLine (game_of from) echo limit left before after (state_of from) (state_of to)

-- the last line was played
abbrev pub IsLastPlayed : {X : _} {F : _} {g : _} → Bool → ℕ → ℕ → Session X F g → Session X F g → Streams → Streams → Type 0
IsLastPlayed echo limit left from to before after = PlayedLast (game_of from) echo limit left before after (state_of from) (state_of to)

-- a line broke off
abbrev pub IsLineBrokenOff : {X : _} {F : _} {g : _} → RunFault → Bool → ℕ → Session X F g → Session X F g → Streams → Streams → Type 0
IsLineBrokenOff fault echo limit from to before after = BrokeOff fault (game_of from) echo [] limit before after (state_of from) (state_of to)
