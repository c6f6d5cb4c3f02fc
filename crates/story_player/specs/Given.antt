-- What a session gives to the commands of a line, one behind the other.
use Rattle.std.specs.Prelude.{◌≡◌, ℕ, ◌≤◌, ◌&&◌, List, Option, None, Some, is_some}
use Rattle.play_meaning.specs.CommandLines.{Parts}
use Rattle.play_meaning.specs.Games.{Game, Reading}
use Rattle.play_meaning.specs.Sessions.{Answer, State, answer_to, commands_answer, goes_on_behind, leads_on, parted_by_break, read_answer}
use Rattle.world_meaning.specs.declared.session.ReplyKind.{ReplyKind}
use Rattle.story_player.specs.Sessions.{answer_with, is_refusal}
use Rattle.story_player.specs.Spoken.{Spoken}
use Rattle.story_player.specs.declared.commands.Given.{Given}

-- an answer behind what was said so far
abbrev pub said_behind : List ℕ → Answer → Answer
said_behind so_far answer = record answer { text = parted_by_break so_far answer.text }

-- what is said so far, what became of the last command, and the state behind it
abbrev pub so_far : List ℕ → ReplyKind → State → Answer
so_far text kind state = record { text = text; kind = kind; state = state }

-- A reading was answered: this is said behind what was said before, and the commands behind it are done or not.
pub record IsGiven (g : Game) (reading : Reading) (from to : State) (before after : List ℕ) (given : Given) : Type 0 where
  pub answer : so_far after given.kind to ≡ said_behind before (read_answer g (is_refusal given.kind) from reading)
  pub goes_on : given.goes_on ≡ (leads_on reading && goes_on_behind given.kind)

-- the place of a refusal, if there is one, is this one or a later one
abbrev pub IsFrom : ℕ → Option ℕ → Type 0
IsFrom place None = Unit {0}
IsFrom place (Some refused) = place ≤ refused

-- Commands were answered, from the one at this place on; memory was refused to the last of them, or to none.
pub record AreGiven (g : Game) (place : ℕ) (words : List (List ℕ)) (more : List (List (List ℕ))) (from to : State) (before after : List ℕ) (kind : ReplyKind) : Type 0 where
  pub refused : Option ℕ
  pub from_here : IsFrom place refused
  pub told : is_some refused ≡ is_refusal kind
  pub answer : so_far after kind to ≡ said_behind before (commands_answer g refused place from words more)

-- A line was answered; where memory was refused to a command, the answer tells it.
pub record IsAnswered (g : Game) (parts : Parts) (from to : State) (reply : Spoken) : Type 0 where
  pub refused : Option ℕ
  pub told : is_some refused ≡ is_refusal reply.kind
  pub answer : answer_with reply to ≡ answer_to g refused from parts

-- The parts of a line were answered.
pub record IsLineGiven (g : Game) (parts : Parts) (from to : State) (before after : List ℕ) (kind : ReplyKind) : Type 0 where
  pub refused : Option ℕ
  pub told : is_some refused ≡ is_refusal kind
  pub answer : so_far after kind to ≡ said_behind before (answer_to g refused from parts)
