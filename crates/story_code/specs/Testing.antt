-- How a run of a test goes on: what the code that runs tests keeps.
use Rattle.std.specs.Prelude.{◌≡◌, ◌≢◌, ◌⊎◌, ℕ, suc, ◌+◌, ◌≤◌, Bool, true, List, [], MatchResult, Option, Result, length}
use Rattle.play_meaning.specs.Codes.{no_inner}
use Rattle.play_meaning.specs.Grounds.{Fixed}
use Rattle.play_meaning.specs.Instructions.{sizes}
use Rattle.play_meaning.specs.Machines.{Abandons, Answers, Frame, Goes, Leaves, State, Step, run}
use Rattle.play_meaning.specs.Worlds.{World}
use Rattle.play_meaning.specs.declared.action.ActionNow.{ActionNow}
use Rattle.play_meaning.specs.declared.instruction.Instruction.{Instruction}
use Rattle.play_meaning.specs.declared.outcome.Flow.TheVariants.{GoesOn}
use Rattle.world_meaning.specs.declared.session.Abandon.{Abandon}
use Rattle.world_meaning.specs.declared.session.Abandon.TheVariants.{Memory}
use Rattle.story_code.specs.Runs.{Describes, MayRead, Standing, code_at, frame_in, state_in}
use Rattle.story_code.specs.Soundness.{Judged}

-- a run comes from one state to another, with no more instructions than bytes lie between them
abbrev pub ComesTo : Frame → List Instruction → State → State → Type 0
ComesTo f code a b = (k : ℕ) × ((k + a.place ≤ b.place) × ((n : ℕ) → run f code (k + n) a ≡ run f code n b))

abbrev pub begun : ℕ → List (Option ℕ) → Standing
begun number loops = record { code = number; place = 0; operands = []; loops = loops; work = 0 }

-- a run of a test or a description has come so far, from where it stood and behind what it said then
pub record IsRunning (fixed : Fixed) (judged : List Judged) (now : ActionNow) (w : World) (start : Standing) (from : List ℕ) (s : Standing) (text : List ℕ) : Type 0 where
  pub stands : MayRead judged s
  pub same : s.code ≡ start.code
  pub comes : (depth : ℕ) (describes : Describes) → length judged ≤ start.code + suc depth
      → ComesTo (frame_in fixed judged now depth describes no_inner) (code_at judged start.code) (state_in start w from) (state_in s w text)

abbrev pub IsLast : Step → Type 0
IsLast (Goes s) = ⊥
IsLast st = Unit {0}

-- a run ends so, within as many instructions as there are bytes from where it stood
abbrev pub EndsSo : Fixed → List Judged → ActionNow → World → Standing → List ℕ → Step → Type 0
EndsSo fixed judged now w start from end = (depth : ℕ) (describes : Describes) → length judged ≤ start.code + suc depth → (steps : ℕ) → sizes (code_at judged start.code) ≤ start.place + steps
    → run (frame_in fixed judged now depth describes no_inner) (code_at judged start.code) steps (state_in start w from) ≡ end

-- a run of a test or a description comes to its end: a test answers, a description has said this and done so much work, or play
-- is abandoned, unless memory lacked
abbrev pub IsReadFrom : Fixed → List Judged → ActionNow → World → Standing → List ℕ → ℕ → List ℕ → Result Bool Abandon → Type 0
IsReadFrom fixed judged now w start from work said result = MatchResult result
    (λ truth. EndsSo fixed judged now w start from (Answers truth)
    ⊎ ((truth ≡ true) × EndsSo fixed judged now w start from (Leaves GoesOn (record { world = w; text = said; work = work }))))
    (λ reason. reason ≢ Memory → EndsSo fixed judged now w start from (Abandons reason))
