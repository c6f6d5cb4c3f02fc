-- What a command gives, and a line of commands, and how a session begins.
use Rattle.std.specs.Prelude.{◌≡◌, ℕ, ◌+◌, ◌==◌, Bool, true, false, ◌&&◌, List, [], ◌∷◌, ◌++◌, take, Option, None, Some, Ok, Err, codes, if◌then◌else◌}
use Rattle.play_meaning.specs.Attempts.{Attempt}
use Rattle.world_meaning.specs.Texts.{closing_text, empty_text, memory_text, none_of_all_text, out_of_range_text, said, too_deep_text, too_long_text, too_much_work_text}
use Rattle.world_meaning.specs.declared.session.Abandon.{Abandon}
use Rattle.world_meaning.specs.declared.session.Abandon.TheVariants.{Memory, NestedTooDeep, NumberOutOfRange, TooMuchWork}
use Rattle.world_meaning.specs.declared.session.Ending.{Ending}
use Rattle.world_meaning.specs.declared.session.Ending.TheVariants.{Quit as Quitting, Story}
use Rattle.world_meaning.specs.declared.session.ReplyKind.{ReplyKind}
use Rattle.world_meaning.specs.declared.session.ReplyKind.TheVariants.{Kept, Free, Abandoned, Ended, Over}
use Rattle.play_meaning.specs.AllThings.{all_things}
use Rattle.play_meaning.specs.CommandLines.{Blank, Commands, Overlong, Parts, parts_of}
use Rattle.play_meaning.specs.Games.{Acts, ActsAll, Asks, Game, Question, Quit, Reading, Says, Undo}
use Rattle.play_meaning.specs.Progress.{Progress, fresh}
use Rattle.play_meaning.specs.Seeing.{is_visible}
use Rattle.play_meaning.specs.Settings.{Setting}
use Rattle.play_meaning.specs.Turns.{completed, opening, perform, turn, turn_upon}
use Rattle.play_meaning.specs.Worlds.{World}
use Rattle.play_meaning.specs.declared.action.ActionNow.{ActionNow}

-- what a session keeps from line to line
pub record State : Type 0 where
  pub world : World
  -- the worlds before the last kept turns, the latest in front
  pub kept : List World
  pub question : Option Question
  pub ending : Option Ending

-- what is said to a command, or to a line of commands, what became of it, and the state behind it
pub record Answer : Type 0 where
  pub text : List ℕ
  pub kind : ReplyKind
  pub state : State

-- a kept turn puts the world before it in front of eight
abbrev pub keep : World → List World → List World
keep w kept = take 8 (w ∷ kept)

-- it cost no turn; the question that it asks is open now, and no other
abbrev pub free : List ℕ → Option Question → State → Answer
free text question s = record { text = text; kind = Free; state = record s { question = question } }

abbrev pub abandon_text : Abandon → List ℕ
abandon_text NestedTooDeep = too_deep_text
abandon_text Memory = memory_text
abandon_text TooMuchWork = too_much_work_text
abandon_text NumberOutOfRange = out_of_range_text

-- play that is abandoned gives one line, and the world is as it was
abbrev pub abandoned : Abandon → State → Answer
abandoned reason s = record { text = abandon_text reason; kind = Abandoned reason; state = record s { question = None } }

-- where the story ended, a closing line is the last part of the text
abbrev pub closed : ReplyKind → List World → Progress → Option (List ℕ) → Answer
closed kind kept p None = record { text = completed p.text; kind = kind; state = record { world = p.world; kept = kept; question = None; ending = None } }
closed kind kept p (Some ending) = record { text = completed p.text ++ closing_text ending; kind = Ended; state = record { world = p.world; kept = kept; question = None; ending = Some Story } }

-- what play gives, of this kind where the story goes on, with these worlds kept
abbrev pub played : ReplyKind → List World → State → Attempt Progress → Answer
played kind kept s (Ok p) = closed kind kept p p.world.ended
played kind kept s (Err reason) = abandoned reason s

-- an action out of world is no turn
abbrev pub acted : Bool → Game → ActionNow → State → Answer
acted true g now s = played Free s.kept s (perform g now (fresh s.world))
acted false g now s = played Kept (keep s.world s.kept) s (turn g now (fresh s.world))

abbrev pub undone : List World → State → Answer
undone [] s = free (said (codes "You can't undo any further.")) None s
undone (w ∷ kept) s = free (said (codes "Previous turn undone.")) None (record s { world = w; kept = kept })

-- ---- a command

-- an action on all things that has nothing to be done to is none
abbrev pub unless_none : ℕ → List ℕ → Reading
unless_none action [] = Says none_of_all_text
unless_none action (o ∷ objects) = ActsAll action

abbrev pub meant_among : Setting → World → Reading → Reading
meant_among setting w (ActsAll action) = unless_none action (all_things setting w action)
meant_among setting w reading = reading

-- what a command means in a state
abbrev pub meant : Game → State → List (List ℕ) → Reading
meant g s words = meant_among g.telling.setting s.world (g.reads s.question (is_visible g.telling.setting s.world) words)

-- in a state a command means that a turn is to be undone
abbrev pub MeansUndo : Game → State → List (List ℕ) → Type 0
MeansUndo g s words = meant g s words ≡ Undo

-- an action on all things is one turn
abbrev pub acted_upon_all : Game → ℕ → State → Answer
acted_upon_all g action s = played Kept (keep s.world s.kept) s (turn_upon g action (all_things g.telling.setting s.world action) (fresh s.world))

-- what a reading gives; memory may have been refused
abbrev pub read_answer : Game → Bool → State → Reading → Answer
read_answer g refused s (Says text) = free text None s
read_answer g refused s (Asks question text) = if refused then abandoned Memory s else free text (Some question) s
read_answer g refused s (Acts now) = if refused then abandoned Memory s else acted (g.needs now.action).out_of_world g now s
read_answer g refused s (ActsAll action) = if refused then abandoned Memory s else acted_upon_all g action s
read_answer g refused s Undo = undone s.kept s
read_answer g refused s Quit = record { text = []; kind = Ended; state = record s { question = None; ending = Some Quitting } }

-- what a command gives
abbrev pub command_answer : Game → Bool → State → List (List ℕ) → Answer
command_answer g refused s words = read_answer g refused s (meant g s words)

-- ---- a line

-- Where memory was refused in a line, if it was: by the place of the command that was refused, the first being 0.
abbrev pub refuses : Option ℕ → ℕ → Bool
refuses None place = false
refuses (Some refused) place = refused == place

-- behind what does nothing, and behind a question, the rest of a line is dropped
abbrev pub leads_on : Reading → Bool
leads_on (Says text) = false
leads_on (Asks question text) = false
leads_on (Acts now) = true
leads_on (ActsAll action) = true
leads_on Undo = true
leads_on Quit = false

-- and behind play that was abandoned or has ended
abbrev pub goes_on_behind : ReplyKind → Bool
goes_on_behind Kept = true
goes_on_behind Free = true
goes_on_behind (Abandoned reason) = false
goes_on_behind Ended = false
goes_on_behind Over = false

-- a line break stands between two texts that both say something
abbrev pub parted_by_break : List ℕ → List ℕ → List ℕ
parted_by_break [] more = more
parted_by_break (byte ∷ bytes) [] = byte ∷ bytes
parted_by_break (byte ∷ bytes) (next ∷ more) = (byte ∷ bytes) ++ 10 ∷ next ∷ more

-- what the commands behind one give, if they are done
abbrev pub followed : Bool → Answer → (State → Answer) → Answer
followed false first later = first
followed true first later = let last = later first.state in record last { text = parted_by_break first.text last.text }

-- commands one behind the other, each in the state behind the one before
unfoldable pub commands_answer : Game → Option ℕ → ℕ → State → List (List ℕ) → List (List (List ℕ)) → Answer
commands_answer g refused place s words [] = command_answer g (refuses refused place) s words
commands_answer g refused place s words (next ∷ more) =
    let first = command_answer g (refuses refused place) s words in
    followed (leads_on (meant g s words) && goes_on_behind first.kind) first (λ behind. commands_answer g refused (place + 1) behind next more)

abbrev pub parts_answer : Game → Option ℕ → State → Parts → Answer
parts_answer g refused s Blank = free empty_text None s
parts_answer g refused s Overlong = free too_long_text None s
parts_answer g refused s (Commands words more) = commands_answer g refused 0 s words more

-- after the end a line gives nothing
abbrev pub unless_ended : Option Ending → State → Answer → Answer
unless_ended None s answer = answer
unless_ended (Some ending) s answer = record { text = []; kind = Over; state = s }

-- what a line gives by its parts
abbrev pub answer_to : Game → Option ℕ → State → Parts → Answer
answer_to g refused s parts = unless_ended s.ending s (parts_answer g refused s parts)

-- what a line gives
abbrev pub answer_of : Game → Option ℕ → State → List ℕ → Answer
answer_of g refused s line = answer_to g refused s (parts_of line)

-- the story begins; an abandoned opening leaves the start world
unfoldable pub opened : Game → Answer
opened g = played Free [] (record { world = g.start; kept = []; question = None; ending = None }) (opening g (fresh g.start))
