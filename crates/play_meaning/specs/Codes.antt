-- What the codes of a story mean: what a test answers, what a description says, what a body does.
use Rattle.std.specs.Prelude.{◌≡◌, ℕ, zero, suc, ◌+◌, ◌*◌, Bool, false, List, [], length, Option, Ok, Err, slice_index_or}
use Rattle.play_meaning.specs.Attempts.{Attempt}
use Rattle.world_meaning.specs.declared.session.Abandon.TheVariants.{NestedTooDeep}
use Rattle.play_meaning.specs.Doing.{Inner}
use Rattle.play_meaning.specs.Instructions.{Instruction, sizes}
use Rattle.play_meaning.specs.Machines.{Abandons, Answers, Frame, Goes, Leaves, State, Step, Stuck, run}
use Rattle.play_meaning.specs.Progress.{Done, Progress, fresh, goes_on, most_work}
use Rattle.play_meaning.specs.Saying.{Telling}
use Rattle.play_meaning.specs.Worlds.{World}
use Rattle.play_meaning.specs.declared.action.ActionNow.{ActionNow}

pub record Codes : Type 0 where
  pub strings : List (List ℕ)
  pub codes : List (List Instruction)

abbrev pub code_of : Codes → ℕ → List Instruction
code_of c n = slice_index_or c.codes n []

-- a run begins at the first instruction, without operands
abbrev pub start_at : List (Option ℕ) → Progress → State
start_at loops p = record { place = 0; operands = []; loops = loops; progress = p }

-- in a test or a description nothing is tried or followed
abbrev pub no_inner : Inner
no_inner = record { tries = λ now p. Err NestedTooDeep; follows = λ book now p. Err NestedTooDeep }

abbrev pub frame_of : Codes → Telling → Inner → (ℕ → List (Option ℕ) → World → Attempt Bool) → ActionNow → Frame
frame_of c t inner tests now = record { telling = t; strings = λ n. slice_index_or c.strings n []; tests = tests; inner = inner; now = now }

-- ---- tests

-- what a test that comes to no answer answers is of no use: sound ones do
abbrev pub answered : Step → Attempt Bool
answered (Answers truth) = Ok truth
answered (Abandons reason) = Err reason
answered (Goes s) = Ok false
answered (Leaves flow p) = Ok false
answered Stuck = Ok false

-- a code that a code names has a greater number, so none is deeper than the codes are many; a test has no way back
unfoldable pub test_within : ℕ → Codes → Telling → ActionNow → ℕ → List (Option ℕ) → World → Attempt Bool
test_within zero c t now n loops w = Ok false
test_within (suc left) c t now n loops w =
    answered (run (frame_of c t no_inner (test_within left c t now) now) (code_of c n) (sizes (code_of c n)) (start_at loops (fresh w)))

abbrev pub test_of : Codes → Telling → ActionNow → ℕ → List (Option ℕ) → World → Attempt Bool
test_of c t now = test_within (length c.codes) c t now

-- ---- bodies

abbrev pub left_off : Step → Progress → Attempt Done
left_off (Leaves flow q) p = Ok (record { progress = q; flow = flow })
left_off (Abandons reason) p = Err reason
left_off (Goes s) p = Ok (goes_on p)
left_off (Answers truth) p = Ok (goes_on p)
left_off Stuck p = Ok (goes_on p)

-- between two turns of loops no place is come to twice but a loop's own, and each turn is work
abbrev pub most_steps : List Instruction → ℕ
most_steps code = sizes code * (most_work + 1)

unfoldable pub body_done : Codes → Telling → Inner → ℕ → ActionNow → Progress → Attempt Done
body_done c t inner n now p = left_off (run (frame_of c t inner (test_of c t now) now) (code_of c n) (most_steps (code_of c n)) (start_at [] p)) p

-- what a run comes to that leaves off so
abbrev pub leaves_so : Attempt Done → Step
leaves_so (Ok done) = Leaves done.flow done.progress
leaves_so (Err reason) = Abandons reason

-- a run of a body's code, after some number of instructions, leaves off so
abbrev pub RunsTo : Codes → Telling → Inner → ℕ → ActionNow → Progress → Attempt Done → Type 0
RunsTo c t inner n now p attempt = (steps : ℕ) × (run (frame_of c t inner (test_of c t now) now) (code_of c n) steps (start_at [] p) ≡ leaves_so attempt)

-- ---- descriptions

abbrev pub text_said : Step → Attempt (List ℕ)
text_said (Leaves flow p) = Ok p.text
text_said (Abandons reason) = Err reason
text_said (Goes s) = Ok []
text_said (Answers truth) = Ok []
text_said Stuck = Ok []

unfoldable pub description_said : Codes → Telling → ℕ → ActionNow → World → Attempt (List ℕ)
description_said c t n now w = text_said (run (frame_of c t no_inner (test_of c t now) now) (code_of c n) (sizes (code_of c n)) (start_at [] (fresh w)))
