-- What a step of a body comes to: the run goes on or ends, or its caller does an action or follows a rulebook first.
use Rattle.std.specs.Prelude.{◌≡◌, ◌≢◌, ◌⊎◌, ℕ, Bool, true, false, List, [], ◌∷◌, ◌++◌, MatchResult, Option, Result}
use Rattle.play_meaning.specs.Attempts.{Attempt}
use Rattle.play_meaning.specs.Codes.{description_said, frame_of, test_of}
use Rattle.play_meaning.specs.Doing.{Inner}
use Rattle.play_meaning.specs.Grounds.{Fixed, said_by_code, telling_by}
use Rattle.play_meaning.specs.Machines.{Abandons, Frame, Goes, Leaves, State, Step as Coming, does, step, unless_abandoned}
use Rattle.play_meaning.specs.Progress.{Progress}
use Rattle.play_meaning.specs.Saying.{Telling, description_in}
use Rattle.play_meaning.specs.Scripts.{undescribed}
use Rattle.play_meaning.specs.Worlds.{World}
use Rattle.play_meaning.specs.declared.action.ActionNow.{ActionNow}
use Rattle.play_meaning.specs.declared.instruction.Instruction.{Instruction}
use Rattle.play_meaning.specs.declared.outcome.Flow.TheVariants.{Decides, GoesOn as Ends, NoDecision as Undecided}
use Rattle.play_meaning.specs.declared.outcome.Outcome.TheVariants.{Failure as Fails, Success as Succeeds}
use Rattle.world_meaning.specs.declared.session.Abandon.{Abandon}
use Rattle.world_meaning.specs.declared.session.Abandon.TheVariants.{Memory}
use Rattle.story_code.specs.Runs.{Standing, code_at, codes_of, state_in}
use Rattle.story_code.specs.Soundness.{Judged}
use Rattle.story_code.specs.declared.step.Step.{Step}
use Rattle.story_code.specs.declared.step.Step.TheVariants.{Done, Failure, Follow, GoesOn, NoDecision, Success, Try}

-- ---- frames

-- objects are described by their codes
abbrev pub told_by : Fixed → List Judged → Telling
told_by fixed judged = telling_by (codes_of fixed judged) fixed.setting fixed.descriptions

abbrev pub body_frame : Fixed → List Judged → ActionNow → Inner → Frame
body_frame fixed judged now inner = frame_of (codes_of fixed judged) (told_by fixed judged) inner (test_of (codes_of fixed judged) (told_by fixed judged) now) now

-- ---- descriptions

-- what the code of this number says
abbrev pub DescriptionIs : Fixed → List Judged → ActionNow → World → ℕ → Attempt (List ℕ) → Type 0
DescriptionIs fixed judged now w number answer = description_said (codes_of fixed judged) (undescribed fixed.setting) number now w ≡ answer

-- what the code of this object's description says, if it is described
abbrev pub SaidByCodeIs : Fixed → List Judged → ActionNow → World → ℕ → Attempt (List ℕ) → Type 0
SaidByCodeIs fixed judged now w object answer = said_by_code (codes_of fixed judged) fixed.setting now w (fixed.descriptions object) ≡ answer

-- what is said where this object's description is asked for
abbrev pub SaidOfIs : Fixed → List Judged → ActionNow → World → Option ℕ → Attempt (List ℕ) → Type 0
SaidOfIs fixed judged now w object answer = description_in (told_by fixed judged) now w object ≡ answer

-- ---- steps

-- the run goes on from where its caller has come to
abbrev pub goes_from : State → Attempt Progress → Coming
goes_from s attempt = unless_abandoned attempt (λ p. Goes (record s { progress = p }))

-- what a step means, with what trying and following do
abbrev pub stepped : Inner → ActionNow → Step → State → Coming
stepped inner now GoesOn s = Goes s
stepped inner now Done s = Leaves Ends s.progress
stepped inner now NoDecision s = Leaves Undecided s.progress
stepped inner now Success s = Leaves (Decides Succeeds) s.progress
stepped inner now Failure s = Leaves (Decides Fails) s.progress
stepped inner now (Try action) s = goes_from s (inner.tries action s.progress)
stepped inner now (Follow book) s = goes_from s (inner.follows book now s.progress)

-- whether the run goes on, at once or behind what its caller does
abbrev pub leads_on : Step → Bool
leads_on GoesOn = true
leads_on (Try action) = true
leads_on (Follow book) = true
leads_on _ = false

-- a step of a body's run is so, whatever trying and following do; where it breaks play off, it does so too, unless memory
-- lacked
abbrev pub StepsSo : Fixed → List Judged → ActionNow → World → Standing → List ℕ → Result Step Abandon → World → Standing → List ℕ → Type 0
StepsSo fixed judged now w s text result v t said = MatchResult result
    (λ came. (inner : Inner) → step (body_frame fixed judged now inner) (code_at judged s.code) (state_in s w text) ≡ stepped inner now came (state_in t v said))
    (λ reason. reason ≢ Memory → (inner : Inner) → step (body_frame fixed judged now inner) (code_at judged s.code) (state_in s w text) ≡ Abandons reason)

-- ---- instructions

-- from the world behind an instruction one can go back to that before it: they are the same, and nothing more is remembered, or
-- that before it is
abbrev pub LeadsBack : World → List World → World → List World → Type 0
LeadsBack w past v now = ((v ≡ w) × (now ≡ past)) ⊎ (now ≡ past ++ w ∷ [])

-- an instruction of a body does so
abbrev pub DoneSo : Fixed → List Judged → ActionNow → World → Instruction → Standing → List ℕ → Result Step Abandon → World → Standing → List ℕ → Type 0
DoneSo fixed judged now w i s text result v t said = MatchResult result
    (λ came. (inner : Inner) → does (body_frame fixed judged now inner) (state_in s w text) i ≡ stepped inner now came (state_in t v said))
    (λ reason. reason ≢ Memory → (inner : Inner) → does (body_frame fixed judged now inner) (state_in s w text) i ≡ Abandons reason)

-- an instruction of a body does so, and the run goes on
abbrev pub CarriesOn : {A : Type 0} → Fixed → List Judged → ActionNow → World → Instruction → Standing → List ℕ → Result A Abandon → World → Standing → List ℕ → Type 0
CarriesOn fixed judged now w i s text result v t said = MatchResult result
    (λ done. (inner : Inner) → does (body_frame fixed judged now inner) (state_in s w text) i ≡ Goes (state_in t v said))
    (λ reason. reason ≢ Memory → (inner : Inner) → does (body_frame fixed judged now inner) (state_in s w text) i ≡ Abandons reason)
