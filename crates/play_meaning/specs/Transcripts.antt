-- The transcript of a session: the opening, and a prompt, an echo and a text for each line.
use Rattle.std.specs.Prelude.{◌≡◌, ℕ, Bool, true, false, List, [], ◌∷◌, ◌++◌, Option, None, Some}
use Rattle.std.specs.Str.Lines.{lines}
use Rattle.world_meaning.specs.Texts.{prompt, said}
use Rattle.world_meaning.specs.declared.session.Ending.{Ending}
use Rattle.world_meaning.specs.declared.session.Ending.TheVariants.{EndOfInput}
use Rattle.play_meaning.specs.Games.{Game}
use Rattle.play_meaning.specs.Sessions.{Answer, State, answer_of, opened}

-- a line and its answer
pub record Exchange : Type 0 where
  pub line : List ℕ
  pub answer : Answer

-- where memory was refused in each line; in none behind the list's end
abbrev pub first_refusal : List (Option ℕ) → Option ℕ
first_refusal [] = None
first_refusal (refused ∷ refusals) = refused

abbrev pub later_refusals : List (Option ℕ) → List (Option ℕ)
later_refusals [] = []
later_refusals (refused ∷ refusals) = refusals

-- while nothing has ended
abbrev pub while_going {ℓ} : {A : Type ℓ} → Option Ending → List A → List A
while_going None xs = xs
while_going (Some ending) xs = []

-- the session: these lines and their answers, one behind the other, up to the session's end
abbrev pub exchanges : Game → List (Option ℕ) → State → List (List ℕ) → List Exchange
exchanges g refusals s [] = []
exchanges g refusals s (line ∷ lines) =
    let answer = answer_of g (first_refusal refusals) s line
    in while_going s.ending (record { line = line; answer = answer } ∷ exchanges g (later_refusals refusals) answer.state lines)

-- the state behind exchanges
abbrev pub behind : State → List Exchange → State
behind s [] = s
behind s (exchange ∷ more) = behind exchange.answer.state more

abbrev pub echoed : Bool → List ℕ → List ℕ
echoed true line = said line
echoed false line = []

-- what is written for exchanges, each with a prompt in front of it
abbrev pub told : Bool → List Exchange → List ℕ
told echo [] = []
told echo (exchange ∷ more) = (prompt ++ echoed echo exchange.line ++ exchange.answer.text) ++ told echo more

-- where the lines run out a prompt waits, unless the session is over
abbrev pub told_out : Bool → State → List Exchange → List ℕ
told_out echo s all = told echo all ++ while_going (behind s all).ending prompt

-- the state behind lines
abbrev pub behind_lines : Game → List (Option ℕ) → State → List (List ℕ) → State
behind_lines g refusals s lines = behind s (exchanges g refusals s lines)

-- what is written from a state on for lines, when none follows them
abbrev pub played : Game → Bool → List (Option ℕ) → State → List (List ℕ) → List ℕ
played g echo refusals s lines = told_out echo s (exchanges g refusals s lines)

-- the ending where the lines run out
abbrev pub ending_at_end : Option Ending → Option Ending
ending_at_end None = Some EndOfInput
ending_at_end (Some ending) = Some ending

abbrev pub ended_at_end : State → State
ended_at_end s = record s { ending = ending_at_end s.ending }

-- the last state; where the lines run out the input ended
abbrev pub last_state : Game → List (Option ℕ) → State → List (List ℕ) → State
last_state g refusals s lines = ended_at_end (behind_lines g refusals s lines)

-- what a session writes for lines: its opening, and what is played from there
abbrev pub transcript : Game → Bool → List (Option ℕ) → List (List ℕ) → List ℕ
transcript g echo refusals lines = (opened g).text ++ played g echo refusals (opened g).state lines

-- The headline: what is written for these bytes of commands, and the state in which the session ends, where it begins in
-- this state. For some refusals of memory, the transcript is the opening and each line's part, and the last world and the
-- ending are those behind the last line.
pub record IsPlay (g : Game) (echo : Bool) (from : State) (commands transcript : List ℕ) (last : State) : Type 0 where
  pub refusals : List (Option ℕ)
  pub transcript_is : transcript ≡ (opened g).text ++ played g echo refusals from (lines commands)
  pub last_is : last ≡ last_state g refusals from (lines commands)
