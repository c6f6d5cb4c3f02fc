-- What the parts of a run do, each by itself: a write, a line that is typed, a line that is answered.
use Rattle.std.specs.Prelude.{◌≡◌, ◌≢◌, ℕ, ◌+◌, ◌<◌, ◌≤◌, suc, Bool, true, false, List, [], ◌∷◌, ◌++◌, length, Option, Some, None, if◌then◌else◌}
use Rattle.std.specs.Io.KnownBytes.{Appends, Consumes, IsAtEnd}
use Rattle.std.specs.Str.Lines.{lines, strip_carriage_return}
use Rattle.play_meaning.specs.Sessions.{State, answer_of, answer_to}
use Rattle.world_meaning.specs.Texts.{prompt}
use Rattle.play_meaning.specs.Transcripts.{behind_lines, echoed, played, while_going}
use Rattle.play_meaning.specs.Games.{Game}
use Rattle.story_player.specs.Runs.{AreAnswered, IsFront, Streams, has_break}
use Rattle.story_player.specs.Typed.{IsGone, Typing, is_untyped, typed_parts}
use Rattle.story_player.specs.declared.fault.RunFault.{RunFault}
use Rattle.story_player.specs.declared.fault.RunFault.TheVariants.{InputTooLong}

-- of these bytes some in front were written
pub record WroteFront (held now : Option (List ℕ)) (bytes : List ℕ) : Type 0 where
  pub written : List ℕ
  pub writes : Appends held now written
  pub front : IsFront written bytes

-- one byte was read, or none, which is the end
abbrev pub ReadsByte : Option (List ℕ) → Option (List ℕ) → Option ℕ → Type 0
ReadsByte unread rest None = Consumes unread rest [] × IsAtEnd rest
ReadsByte unread rest (Some byte) = Consumes unread rest (byte ∷ [])

-- what is shown of bytes, if commands are echoed
abbrev pub shown : Bool → List ℕ → List ℕ
shown true bytes = bytes
shown false bytes = []

-- A line was typed so far, and these bytes behind it: the bytes that are kept no more were shown.
pub record IsTyping (echo : Bool) (limit left : ℕ) (before after : Streams) (t : Typing) (tail : List ℕ) : Type 0 where
  pub front : List ℕ
  pub gone : IsGone t.gone front
  pub keeps : 0 < length front → 0 < length t.kept
  pub unbroken : has_break (front ++ t.kept) ≡ false
  pub reads : Consumes before.unread after.unread ((front ++ t.kept) ++ tail)
  pub writes : Appends before.held after.held (shown echo front)
  pub counts : length ((front ++ t.kept) ++ tail) + left ≡ limit

-- Typing a line broke off, perhaps at a byte past the limit: what was written is a front of what any
-- play shows for these bytes behind the prompt.
pub record BrokeTyping (fault : RunFault) (echo : Bool) (limit : ℕ) (before after : Streams) : Type 0 where
  pub typed : List ℕ
  pub past : List ℕ
  pub reads : Consumes before.unread after.unread (typed ++ past)
  pub unbroken : has_break typed ≡ false
  pub within : fault ≢ InputTooLong → past ≡ []
  pub few : fault ≢ InputTooLong → length (typed ++ past) ≤ limit
  pub full : fault ≡ InputTooLong → (length past ≡ 1) × (length (typed ++ past) ≡ suc limit)
  pub written : List ℕ
  pub writes : Appends before.held after.held written
  pub front : (g : Game) (refusals : List (Option ℕ)) (state : State) → state.ending ≡ None → IsFront (prompt ++ written) (played g echo refusals state (lines (typed ++ past)))

-- the part of the transcript that is written for a typed line behind what was shown of it
abbrev pub typed_part : Game → Bool → Option ℕ → State → Typing → List ℕ
typed_part g echo refused state t = shown echo (t.kept ++ 10 ∷ []) ++ (answer_to g refused state (typed_parts t)).text

-- that part and the prompt behind it, where the input has ended; no byte is no line
abbrev pub last_part : Game → Bool → Option ℕ → State → Typing → List ℕ
last_part g echo refused state t =
    if is_untyped t then [] else typed_part g echo refused state t ++ while_going (answer_to g refused state (typed_parts t)).state.ending prompt

abbrev pub last_state : Game → Option ℕ → State → Typing → State
last_state g refused state t = if is_untyped t then state else (answer_to g refused state (typed_parts t)).state

-- A line was answered: these bytes were written, and the session is in the state behind the line.
pub record Answered (part : Option ℕ → List ℕ) (state : Option ℕ → State) (held now : Option (List ℕ)) (to : State) : Type 0 where
  pub refused : Option ℕ
  pub writes : Appends held now (part refused)
  pub behind : to ≡ state refused

-- The same, but that writing failed.
pub record BrokeAnswer (part : Option ℕ → List ℕ) (state : Option ℕ → State) (held now : Option (List ℕ)) (to : State) : Type 0 where
  pub refused : Option ℕ
  pub writes : WroteFront held now (part refused)
  pub behind : to ≡ state refused

-- a typed line was answered, or writing its answer failed
abbrev pub AnsweredTyped : Game → Bool → State → Typing → Option (List ℕ) → Option (List ℕ) → State → Type 0
AnsweredTyped g echo from t = Answered (λ refused. typed_part g echo refused from t) (λ refused. (answer_to g refused from (typed_parts t)).state)

abbrev pub BrokeTyped : Game → Bool → State → Typing → Option (List ℕ) → Option (List ℕ) → State → Type 0
BrokeTyped g echo from t = BrokeAnswer (λ refused. typed_part g echo refused from t) (λ refused. (answer_to g refused from (typed_parts t)).state)

-- the last line was answered, if there is one, or writing its answer failed
abbrev pub AnsweredLast : Game → Bool → State → Typing → Option (List ℕ) → Option (List ℕ) → State → Type 0
AnsweredLast g echo from t = Answered (λ refused. last_part g echo refused from t) (λ refused. last_state g refused from t)

abbrev pub BrokeLast : Game → Bool → State → Typing → Option (List ℕ) → Option (List ℕ) → State → Type 0
BrokeLast g echo from t = BrokeAnswer (λ refused. last_part g echo refused from t) (λ refused. last_state g refused from t)

-- A whole line was played.
pub record PlayedLine (g : Game) (echo : Bool) (limit left : ℕ) (before after : Streams) (from to : State) : Type 0 where
  pub line : List ℕ
  pub unbroken : has_break line ≡ false
  pub reads : Consumes before.unread after.unread (line ++ 10 ∷ [])
  pub refused : Option ℕ
  pub writes : Appends before.held after.held (prompt ++ echoed echo (strip_carriage_return line) ++ (answer_of g refused from (strip_carriage_return line)).text)
  pub behind : to ≡ (answer_of g refused from (strip_carriage_return line)).state
  pub counts : length (line ++ 10 ∷ []) + left ≡ limit

-- The last line was played, which has no break and may be empty.
pub record PlayedLast (g : Game) (echo : Bool) (limit left : ℕ) (before after : Streams) (from to : State) : Type 0 where
  pub line : List ℕ
  pub reads : Consumes before.unread after.unread line
  pub ends : IsAtEnd after.unread
  pub refusals : List (Option ℕ)
  pub writes : Appends before.held after.held (played g echo refusals from (lines line))
  pub answered : AreAnswered g refusals from (lines line)
  pub state_is : to ≡ behind_lines g refusals from (lines line)
  pub counts : length line + left ≡ limit
