-- How many steps a run of a body's code has left at the most, and what it comes to with so many.
use Rattle.std.specs.Prelude.{ℕ, suc, ◌+◌, ◌-◌, ◌*◌, ◌≤◌, List, Option, None, Some, Ok, Err}
use Rattle.play_meaning.specs.Attempts.{Attempt}
use Rattle.play_meaning.specs.Doing.{Inner}
use Rattle.play_meaning.specs.Instructions.{at_place, sizes}
use Rattle.play_meaning.specs.Machines.{Abandons, Answers, Frame, Goes, Leaves, State, Step, Stuck, run}
use Rattle.play_meaning.specs.Progress.{Progress, most_work}
use Rattle.play_meaning.specs.SoundCodes.{way_of}
use Rattle.play_meaning.specs.declared.action.ActionNow.{ActionNow}
use Rattle.play_meaning.specs.declared.instruction.Instruction.{Instruction}
use Rattle.play_meaning.specs.declared.way.Way.{Way}
use Rattle.play_meaning.specs.declared.way.Way.TheVariants.{Turns}

-- ---- steps

-- how far it is to the code's end; from a loop's next turn, to which ways lead back, as far as from the loop's exit, and one
abbrev pub far_by : ℕ → ℕ → Way → ℕ
far_by size place (Turns exit) = suc (size - exit)
far_by size place way = size - place

abbrev pub far_at : ℕ → ℕ → Option Instruction → ℕ
far_at size place None = 0
far_at size place (Some i) = far_by size place (way_of i)

abbrev pub far_from : List Instruction → ℕ → ℕ
far_from code place = far_at (sizes code) place (at_place code place)

-- with each unit of work that is left the code may be gone through once more
abbrev pub steps_left : List Instruction → State → ℕ
steps_left code s = (most_work - s.progress.work) * sizes code + far_from code s.place

-- what a run comes to from here on, with as many steps as it may take
unfoldable pub outcome_from : Frame → List Instruction → State → Step
outcome_from f code s = run f code (steps_left code s) s

-- ---- work

-- no less work than this was done, and no more than the most
abbrev pub IsBetween : ℕ → Progress → Type 0
IsBetween least p = (least ≤ p.work) × (p.work ≤ most_work)

-- what an attempt gives is so, if it gives anything
abbrev pub Gives : {A : Type 0} → (A → Type 0) → Attempt A → Type 0
Gives Is (Ok a) = Is a
Gives Is (Err reason) = Unit {0}

-- what trying and following give has no less work than they were handed, and no more than the most
pub record LowersNoWork (inner : Inner) : Type 0 where
  pub tries : (now : ActionNow) (p : Progress) → p.work ≤ most_work → Gives (IsBetween p.work) (inner.tries now p)
  pub follows : (book : ℕ) (now : ActionNow) (p : Progress) → p.work ≤ most_work → Gives (IsBetween p.work) (inner.follows book now p)

-- a body's run has ended, with no less work than this and no more than the most, or play is abandoned
abbrev pub HasEnded : ℕ → Step → Type 0
HasEnded least (Leaves flow q) = IsBetween least q
HasEnded least (Abandons reason) = Unit {0}
HasEnded least (Goes s) = ⊥
HasEnded least (Answers truth) = ⊥
HasEnded least Stuck = ⊥

-- a run has left off
abbrev pub IsOver : Step → Type 0
IsOver (Goes s) = ⊥
IsOver step = Unit {0}
