-- What a run does to its reader, its writer and its session: it comes to its end, or it breaks off.
use Rattle.std.specs.Prelude.{◌≡◌, ◌≢◌, ◌⊎◌, ◌==◌, ℕ, ◌<◌, ◌≤◌, suc, Bool, true, false, List, [], ◌∷◌, ◌++◌, length, Option, Some, None, is_some}
use Rattle.std.specs.List.{list_any}
use Rattle.std.specs.Io.KnownBytes.{Appends, Consumes, IsAtEnd}
use Rattle.std.specs.Str.Lines.{lines}
use Rattle.play_meaning.specs.Games.{Game}
use Rattle.play_meaning.specs.Sessions.{State}
use Rattle.play_meaning.specs.Transcripts.{IsPlay, behind_lines, exchanges, played, told}
use Rattle.world_meaning.specs.Texts.{prompt}
use Rattle.story_player.specs.Watches.{watched_inner}
use Rattle.story_player.specs.declared.fault.RunFault.{RunFault}
use Rattle.story_player.specs.declared.fault.RunFault.TheVariants.{Write, InputTooLong}
use Rattle.story_player.specs.declared.watched.Watched.{Watched}

-- the bytes that a reader has left and that a writer holds, as far as they are known
pub record Streams : Type 0 where
  pub unread : Option (List ℕ)
  pub held : Option (List ℕ)

abbrev pub streams_of : Option (List ℕ) → Option (List ℕ) → Streams
streams_of unread held = record { unread = unread; held = held }

-- those of a watched reader and a watched writer
abbrev pub streams : {R W : Type 0} → (R → Option (List ℕ)) → (W → Option (List ℕ)) → Watched R → Watched W → Streams
streams remaining contents reader writer = streams_of (remaining (watched_inner reader)) (contents (watched_inner writer))

-- the most bytes of commands that are read
abbrev pub most_input : ℕ
most_input = 16777216

-- the whole begins with these bytes
abbrev pub IsFront : List ℕ → List ℕ → Type 0
IsFront front whole = (more : List ℕ) × (whole ≡ front ++ more)

-- these are the bytes, where they are known
abbrev pub AreKnown : Option (List ℕ) → List ℕ → Type 0
AreKnown None bytes = Unit {0}
AreKnown (Some known) bytes = known ≡ bytes

-- whole lines: no byte, or a line break is the last one
abbrev pub AreWholeLines : List ℕ → Type 0
AreWholeLines bytes = (bytes ≡ []) ⊎ ((front : List ℕ) × (bytes ≡ front ++ 10 ∷ []))

-- each of these lines is answered: none stands behind one that ended the session
abbrev pub AreAnswered : Game → List (Option ℕ) → State → List (List ℕ) → Type 0
AreAnswered g refusals from lines = length (exchanges g refusals from lines) ≡ length lines

-- A run that came to its end: the play of all the commands that the reader has was written, and the
-- session is in the state behind them. At most so many bytes of them were read, and each line of these
-- was answered; fewer than all were read only where they are whole lines that ended the session.
pub record Played (g : Game) (echo : Bool) (before after : Streams) (from last : State) : Type 0 where
  pub commands : List ℕ
  pub are_commands : AreKnown before.unread commands
  pub transcript : List ℕ
  pub writes : Appends before.held after.held transcript
  pub play : IsPlay g echo from commands transcript last
  pub read : List ℕ
  pub reads : Consumes before.unread after.unread read
  pub front : IsFront read commands
  pub few : length read ≤ most_input
  pub answered : AreAnswered g play.refusals from (lines read)
  pub stops : (commands ≡ read) ⊎ (AreWholeLines read × (is_some (behind_lines g play.refusals from (lines read)).ending ≡ true))

abbrev pub has_break : List ℕ → Bool
has_break bytes = list_any (λ b. b == 10) bytes

-- the prompt in front of a line, if there is one
abbrev pub asked : List (List ℕ) → List ℕ
asked [] = []
asked (line ∷ more) = prompt

-- Behind a write that fails nothing more is read, and so nothing answered: where any byte was read, the opening was written whole, and so
-- was the answer of each line that was read but one at most, the last, with the prompt in front of that one.
pub record IsTimely (g : Game) (echo : Bool) (opening : List ℕ) (refusals : List (Option ℕ)) (from : State) (read written : List ℕ) : Type 0 where
  pub first : List (List ℕ)
  pub last : List (List ℕ)
  pub parts : lines read ≡ first ++ last
  pub one : length last ≤ 1
  pub told_first : 0 < length read → IsFront (opening ++ (told echo (exchanges g refusals from first) ++ asked last)) written

-- A run that broke off, behind this opening. The bytes that were read are lines that are answered, a
-- line that was being typed, and, where there is too much input, the byte past the limit. An answered
-- line is whole, unless the input has ended and writing its answer failed. What was written is a front
-- of what the bytes that were read would give as a whole input, and the session is where the answered
-- lines left it; unless writing failed, all that those lines give was written, and nothing has ended.
pub record BrokeOff (fault : RunFault) (g : Game) (echo : Bool) (opening : List ℕ) (limit : ℕ) (before after : Streams) (from to : State) : Type 0 where
  pub read : List ℕ
  pub reads : Consumes before.unread after.unread read
  pub whole : List ℕ
  pub typed : List ℕ
  pub past : List ℕ
  pub bytes : read ≡ whole ++ (typed ++ past)
  pub parts : lines read ≡ lines whole ++ lines (typed ++ past)
  pub ends : AreWholeLines whole ⊎ ((fault ≡ Write) × IsAtEnd after.unread)
  pub unbroken : has_break typed ≡ false
  pub within : fault ≢ InputTooLong → past ≡ []
  pub few : fault ≢ InputTooLong → length read ≤ limit
  pub full : fault ≡ InputTooLong → (length past ≡ 1) × (length read ≡ suc limit)
  pub refusals : List (Option ℕ)
  pub answered : AreAnswered g refusals from (lines whole)
  pub state : to ≡ behind_lines g refusals from (lines whole)
  pub written : List ℕ
  pub writes : Appends before.held after.held written
  pub front : IsFront written (opening ++ played g echo refusals from (lines read))
  pub begins : fault ≢ Write → IsFront (opening ++ played g echo refusals from (lines whole)) written
  pub going : fault ≢ Write → to.ending ≡ None
  pub typing : 0 < length typed → to.ending ≡ None
  pub timely : IsTimely g echo opening refusals from read written
