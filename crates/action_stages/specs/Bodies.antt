-- The bodies of a story's rules as code runs them: step by step, or as what is owed behind a standard rule.
use Rattle.std.specs.Prelude.{◌≡◌, ◌≢◌, ◌≤◌, ◌-◌, ℕ, List, [], map, MatchResult, Option, None, Some, Result, Ok, Err, slice_get}
use Rattle.play_meaning.specs.Attempts.{Attempt, next}
use Rattle.play_meaning.specs.CodedStories.{Coded, CodedRule, CodedStory, RuleBody, Standard, telling_by_codes}
use Rattle.play_meaning.specs.Codes.{body_done, code_of, frame_of, start_at, test_of}
use Rattle.play_meaning.specs.Doing.{Inner}
use Rattle.play_meaning.specs.Effects.{tried_if}
use Rattle.play_meaning.specs.Machines.{Abandons, Frame, Goes, Leaves, State, Step as Coming, step}
use Rattle.play_meaning.specs.Progress.{Done, Progress, most_work}
use Rattle.play_meaning.specs.Scripts.{rule_body}
use Rattle.play_meaning.specs.StandardRules.{standard_rules}
use Rattle.play_meaning.specs.declared.action.ActionNow.{ActionNow}
use Rattle.play_meaning.specs.declared.outcome.Flow.{Flow}
use Rattle.story_code.specs.Runs.{AreSoundTogether, IsBody, IsDescription, IsTestAt, MayDo, Standing, code_told}
use Rattle.story_code.specs.Soundness.{Judged}
use Rattle.story_code.specs.Steps.{stepped}
use Rattle.story_code.specs.declared.step.Step.{Step}
use Rattle.world_meaning.specs.declared.session.Abandon.{Abandon}
use Rattle.world_meaning.specs.declared.session.Abandon.TheVariants.{Memory}
use Rattle.world_store.specs.StoryWorlds.{StoryWorld}
use Rattle.action_stages.specs.Answering.{ends_so}
use Rattle.action_stages.specs.Measures.{outcome_from, steps_left}
use Rattle.action_stages.specs.declared.playing.Does.{Does}
use Rattle.action_stages.specs.declared.playing.Does.TheVariants as does
use Rattle.action_stages.specs.declared.playing.Owed.{Owed}

-- ---- what a rule does

abbrev pub body_in : Option CodedRule → Option RuleBody
body_in None = None
body_in (Some rule) = Some rule.body

abbrev pub condition_in : Option CodedRule → Option ℕ
condition_in None = None
condition_in (Some rule) = rule.condition

abbrev pub does_told : Option Does → Option RuleBody
does_told None = None
does_told (Some (does.Coded code)) = Some (Coded code)
does_told (Some (does.Standard rule)) = Some (Standard rule)

-- ---- codes

-- the codes of a story, each sound for what it is named for
pub record AreCodesIn (judged : List Judged) (k : CodedStory) : Type 0 where
  pub codes : map code_told judged ≡ k.codes.codes
  pub sound : AreSoundTogether judged
  pub described : (o n : ℕ) → k.descriptions o ≡ Some n → IsDescription judged n
  pub asked : (rule n : ℕ) → condition_in (slice_get k.rules rule) ≡ Some n → IsTestAt judged n 0
  pub does : (rule n : ℕ) → body_in (slice_get k.rules rule) ≡ Some (Coded n) → IsBody judged n

abbrev pub frame_in : CodedStory → ActionNow → Inner → Frame
frame_in k now inner = frame_of k.codes (telling_by_codes k) inner (test_of k.codes (telling_by_codes k) now) now

-- where a run has come to, and play
abbrev pub at : Standing → Progress → State
at s p = record { place = s.place; operands = s.operands; loops = s.loops; progress = p }

-- the run of the code of this number, from its beginning
abbrev pub code_done : CodedStory → Inner → ℕ → ActionNow → Progress → Attempt Done
code_done k inner code now p = body_done k.codes (telling_by_codes k) inner code now p

-- play in a world, with what is said and the work that is done so far
abbrev pub playing_in : StoryWorld → List ℕ → ℕ → Progress
playing_in world text work = record { world = world.world; text = text; work = work }

-- one instruction of the code in which a run stands
abbrev pub step_at : CodedStory → ActionNow → Inner → Standing → Progress → Coming
step_at k now inner s p = step (frame_in k now inner) (code_of k.codes s.code) (at s p)

-- a step of a body's run comes to this, whatever trying and following do
abbrev pub StepsSo : CodedStory → ActionNow → Standing → Progress → Result Step Abandon → Standing → Progress → Type 0
StepsSo k now s p result t q = MatchResult result
    (λ came. (inner : Inner) → step_at k now inner s p ≡ stepped inner now came (at t q))
    (λ reason. reason ≢ Memory → (inner : Inner) → step_at k now inner s p ≡ Abandons reason)

-- a step, with all that it tries and follows, has come to this: the run goes on there, or the body has ended so
abbrev pub CameTo : Coming → Result (Option Flow) Abandon → State → Type 0
CameTo coming (Ok None) t = coming ≡ Goes t
CameTo coming (Ok (Some flow)) t = coming ≡ Leaves flow t.progress
CameTo coming (Err reason) t = reason ≢ Memory → coming ≡ Abandons reason

-- a body's run from its beginning, of the code of this number and from where play stood, has come so far: it comes to the same
-- from here on
pub record IsRunning (k : CodedStory) (judged : List Judged) (now : ActionNow) (inner : Inner) (code : ℕ) (start : Progress) (s : Standing) (p : Progress) : Type 0 where
  pub stands : MayDo judged s
  pub same : s.code ≡ code
  pub within : p.work ≤ most_work
  pub comes : outcome_from (frame_in k now inner) (code_of k.codes code) (start_at [] start) ≡ outcome_from (frame_in k now inner) (code_of k.codes code) (at s p)

-- how many steps it has left at the most
abbrev pub left_at : CodedStory → Standing → Progress → ℕ
left_at k s p = steps_left (code_of k.codes s.code) (at s p)

-- ---- standard rules

-- what the rest of a standard rule's body comes to behind its changes and its text
abbrev pub rest_of : Inner → Owed → Progress → Attempt Done
rest_of inner owed p = next (tried_if inner owed.tries p) (ends_so owed.ends)

-- the body of the standard rule of this number, counted from 1
abbrev pub standard_body : CodedStory → Inner → ℕ → ActionNow → Progress → Attempt Done
standard_body k inner rule now p = rule_body (telling_by_codes k) inner now p (slice_get standard_rules (rule - 1))
