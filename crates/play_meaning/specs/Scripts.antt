-- The game of a tale: its rules, scenes and descriptions are trees, and each rulebook stands in its order.
use Rattle.std.specs.Prelude.{ℕ, Bool, true, false, List, [], map, Option, None, Some, Ok, slice_get}
use Rattle.play_meaning.specs.Attempts.{Attempt}
use Rattle.play_meaning.specs.Doing.{Inner, do_body}
use Rattle.play_meaning.specs.Games.{Game, Question, Reading}
use Rattle.play_meaning.specs.Order.{book_of}
use Rattle.play_meaning.specs.Progress.{Done, Progress, goes_on}
use Rattle.play_meaning.specs.Rules.{Rule, is_about}
use Rattle.play_meaning.specs.Saying.{Telling, said_in}
use Rattle.play_meaning.specs.Settings.{Setting}
use Rattle.play_meaning.specs.Trees.{Condition, Text}
use Rattle.play_meaning.specs.Truth.{truth_in}
use Rattle.play_meaning.specs.Turns.{no_action}
use Rattle.play_meaning.specs.Values.{Scope}
use Rattle.play_meaning.specs.Worlds.{World}
use Rattle.play_meaning.specs.declared.action.ActionNow.{ActionNow}
use Rattle.world_meaning.specs.declared.needs.Needs.{Needs}

-- a scene without a condition never begins, or never ends
pub record Scene : Type 0 where
  pub recurs : Bool
  pub begins : Option Condition
  pub ends : Option Condition

pub record Script : Type 0 where
  pub setting : Setting
  pub start : World
  pub needs : ℕ → Needs
  -- what is said of an object, where it is described
  pub descriptions : ℕ → Option Text
  -- by number: the standard rules, then the author's in the order of the source
  pub rules : List Rule
  pub scenes : List Scene
  pub reads : Option Question → (ℕ → Bool) → List (List ℕ) → Reading

abbrev pub scope_of : ActionNow → Scope
scope_of now = record { now = now; turning = [] }

abbrev pub says : Telling → ActionNow → World → Option Text → Attempt (List ℕ)
says t now w None = Ok []
says t now w (Some text) = said_in t (scope_of now) w text

-- a description says no other
abbrev pub undescribed : Setting → Telling
undescribed s = record { setting = s; describes = λ o now w. Ok [] }

abbrev pub telling_of : Script → Telling
telling_of script = record {
  setting = script.setting;
  describes = λ o now w. says (undescribed script.setting) now w (script.descriptions o);
}

-- what isn't there holds never
abbrev pub condition_holds : Setting → ActionNow → World → Option Condition → Attempt Bool
condition_holds s now w None = Ok false
condition_holds s now w (Some condition) = truth_in s (scope_of now) w condition

-- a rule without a condition applies at once
abbrev pub rule_holds : Setting → ActionNow → World → Option Condition → Attempt Bool
rule_holds s now w None = Ok true
rule_holds s now w (Some condition) = truth_in s (scope_of now) w condition

abbrev pub rule_is_about : Setting → ActionNow → World → Option Rule → Bool
rule_is_about s now w None = false
rule_is_about s now w (Some rule) = is_about s w now rule

abbrev pub rule_condition : Setting → ActionNow → World → Option Rule → Attempt Bool
rule_condition s now w None = Ok false
rule_condition s now w (Some rule) = rule_holds s now w rule.condition

abbrev pub rule_body : Telling → Inner → ActionNow → Progress → Option Rule → Attempt Done
rule_body t inner now p None = Ok (goes_on p)
rule_body t inner now p (Some rule) = do_body t inner rule.body (scope_of now) p

abbrev pub begins_in : Option Scene → Option Condition
begins_in None = None
begins_in (Some scene) = scene.begins

abbrev pub ends_in : Option Scene → Option Condition
ends_in None = None
ends_in (Some scene) = scene.ends

unfoldable pub game_of : Script → Game
game_of script = record {
  start = script.start;
  telling = telling_of script;
  books = book_of script.setting script.rules;
  needs = script.needs;
  is_about = λ rule now w. rule_is_about script.setting now w (slice_get script.rules rule);
  holds = λ rule now w. rule_condition script.setting now w (slice_get script.rules rule);
  body = λ rule inner now p. rule_body (telling_of script) inner now p (slice_get script.rules rule);
  scenes = map (λ scene. scene.recurs) script.scenes;
  begins = λ scene w. condition_holds script.setting no_action w (begins_in (slice_get script.scenes scene));
  ends = λ scene w. condition_holds script.setting no_action w (ends_in (slice_get script.scenes scene));
  reads = script.reads;
}
