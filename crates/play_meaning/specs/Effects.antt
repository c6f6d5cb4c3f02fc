-- What a rule that is computed answers: changes, a text, an action to try and how the rule ends; and when that is the effect
-- of a standard rule, which is what the body of the rule's own sentence does.
use Rattle.std.specs.Prelude.{◌≡◌, ℕ, ◌-◌, List, [], ◌∷◌, Option, None, Some, Ok, Err, fold, slice_get}
use Rattle.world_meaning.specs.declared.session.Abandon.TheVariants.{NumberOutOfRange}
use Rattle.play_meaning.specs.Attempts.{Attempt, next}
use Rattle.play_meaning.specs.Changes.{make_number, make_so, make_value, put_at, take_away}
use Rattle.play_meaning.specs.Doing.{Inner}
use Rattle.play_meaning.specs.Progress.{Done, Progress, change, leaves, say}
use Rattle.play_meaning.specs.Saying.{Telling}
use Rattle.play_meaning.specs.Scripts.{rule_body}
use Rattle.play_meaning.specs.Settings.{Setting}
use Rattle.play_meaning.specs.StandardRules.{standard_rules}
use Rattle.play_meaning.specs.Worlds.{World, end_with, set_scene, set_variable}
use Rattle.play_meaning.specs.declared.action.ActionNow.{ActionNow}
use Rattle.play_meaning.specs.declared.change.Change.{Change}
use Rattle.play_meaning.specs.declared.change.Change.TheVariants.{SetFlag, SetNumber, SetValue, SetVariable, Put, TakeOut, SetScene, EndStory}
use Rattle.play_meaning.specs.declared.outcome.Flow.TheVariants.{GoesOn, Decides}
use Rattle.play_meaning.specs.declared.outcome.Outcome.TheVariants.{Failure, Success}

-- how the rule ends: by itself, with a decision, or because a number is out of range
pub data Ends : Type 0 where
  ByItself : Ends
  Succeeds : Ends
  Fails : Ends
  OutOfRange : Ends

pub record Answer : Type 0 where
  pub changes : List Change
  pub text : List ℕ
  pub tries : Option ActionNow
  pub ends : Ends

-- a change that isn't allowed does nothing
abbrev pub made : Setting → World → Change → World
made s w (SetFlag o property value) = make_so s (Some o) property value w
made s w (SetNumber o property value) = make_number s (Some o) property value w
made s w (SetValue o q value) = make_value s (Some o) q value w
made s w (SetVariable v value) = set_variable v value w
made s w (Put o relation holder) = put_at s o (record { relation = relation; holder = holder }) w
made s w (TakeOut o) = take_away s (Some o) w
made s w (SetScene scene now) = set_scene scene now w
made s w (EndStory text) = end_with text w

abbrev pub all_made : Setting → List Change → World → World
all_made s changes w = fold (made s) w changes

-- what is tried is one level deeper
abbrev pub tried_if : Inner → Option ActionNow → Progress → Attempt Progress
tried_if inner None p = Ok p
tried_if inner (Some now) p = inner.tries now p

abbrev pub ended : Ends → Progress → Attempt Done
ended ByItself p = leaves GoesOn p
ended Succeeds p = leaves (Decides Success) p
ended Fails p = leaves (Decides Failure) p
ended OutOfRange p = Err NumberOutOfRange

-- its changes in order, then its text, then what it tries
abbrev pub effect : Setting → Inner → Answer → Progress → Attempt Done
effect s inner answer p = next (tried_if inner answer.tries (say answer.text (change (all_made s answer.changes) p))) (ended answer.ends)

-- in this world and action the answer does what the standard rule of this number does, counted from 1, whatever was said and
-- done before it and whatever comes of what is tried
abbrev pub HasEffectOf : ℕ → Telling → World → ActionNow → Answer → Type 0
HasEffectOf number t w now answer =
    (inner : Inner) (text : List ℕ) (work : ℕ)
    → effect t.setting inner answer (record { world = w; text = text; work = work })
    ≡ rule_body t inner now (record { world = w; text = text; work = work }) (slice_get standard_rules (number - 1))

-- ---- answers

abbrev pub silence : Answer
silence = record { changes = []; text = []; tries = None; ends = ByItself }

abbrev pub refusing : List ℕ → Answer
refusing text = record silence { text = text; ends = Fails }

abbrev pub saying : List ℕ → Answer
saying text = record silence { text = text }

abbrev pub changing : Change → Answer
changing change = record silence { changes = change ∷ [] }

abbrev pub trying : ActionNow → Answer
trying now = record silence { tries = Some now }
