-- The game of a story file: its rules, scenes and descriptions are codes, and its rulebooks are stored in their order.
use Rattle.std.specs.Prelude.{ℕ, ◌-◌, Bool, true, false, List, [], map, Option, None, Some, Ok, slice_get, slice_index_or}
use Rattle.play_meaning.specs.Attempts.{Attempt}
use Rattle.play_meaning.specs.Codes.{Codes, body_done, test_of}
use Rattle.play_meaning.specs.Doing.{Inner}
use Rattle.play_meaning.specs.Games.{Game, Question, Reading}
use Rattle.play_meaning.specs.Grounds.{telling_by}
use Rattle.play_meaning.specs.Progress.{Done, Progress, goes_on}
use Rattle.play_meaning.specs.Rules.{Aspect, InOrder, Rule, is_about}
use Rattle.play_meaning.specs.Saying.{Telling}
use Rattle.play_meaning.specs.Scripts.{rule_body, undescribed}
use Rattle.play_meaning.specs.Settings.{Setting}
use Rattle.play_meaning.specs.StandardRules.{standard_rules}
use Rattle.play_meaning.specs.Trees.{End}
use Rattle.play_meaning.specs.Turns.{no_action}
use Rattle.play_meaning.specs.Worlds.{World}
use Rattle.play_meaning.specs.declared.action.ActionNow.{ActionNow}
use Rattle.world_meaning.specs.declared.needs.Needs.{Needs}

-- what a rule does: as one of the standard rules, numbered from 1, or by a code
pub data RuleBody : Type 0 where
  Standard : ℕ → RuleBody
  Coded : ℕ → RuleBody

pub record CodedRule : Type 0 where
  pub book : ℕ
  pub action : Option ℕ
  pub noun : Aspect
  pub second : Aspect
  pub place : Aspect
  pub scene : Option ℕ
  -- a test
  pub condition : Option ℕ
  pub body : RuleBody

-- a scene without a test never begins, or never ends
pub record CodedScene : Type 0 where
  pub recurs : Bool
  pub begins : Option ℕ
  pub ends : Option ℕ

pub record CodedStory : Type 0 where
  pub setting : Setting
  pub start : World
  pub needs : ℕ → Needs
  -- the code of an object's description, where it is described
  pub descriptions : ℕ → Option ℕ
  pub codes : Codes
  pub rules : List CodedRule
  pub books : List (List ℕ)
  pub scenes : List CodedScene
  pub reads : Option Question → (ℕ → Bool) → List (List ℕ) → Reading

abbrev pub telling_by_codes : CodedStory → Telling
telling_by_codes k = telling_by k.codes k.setting k.descriptions

-- the answer of a test; this, where there is none
abbrev pub answer_or : Bool → Codes → Setting → ActionNow → World → Option ℕ → Attempt Bool
answer_or otherwise c s now w None = Ok otherwise
answer_or otherwise c s now w (Some n) = test_of c (undescribed s) now n [] w

-- what a rule is about is read as in a tale
abbrev pub head_of : CodedRule → Rule
head_of rule = record {
  book = rule.book;
  action = rule.action;
  noun = rule.noun;
  second = rule.second;
  place = rule.place;
  scene = rule.scene;
  condition = None;
  body = End;
  listed = InOrder;
}

abbrev pub coded_is_about : Setting → ActionNow → World → Option CodedRule → Bool
coded_is_about s now w None = false
coded_is_about s now w (Some rule) = is_about s w now (head_of rule)

-- a rule without a condition applies at once
abbrev pub coded_condition : Codes → Setting → ActionNow → World → Option CodedRule → Attempt Bool
coded_condition c s now w None = Ok false
coded_condition c s now w (Some rule) = answer_or true c s now w rule.condition

abbrev pub done_by : Codes → Telling → Inner → ActionNow → Progress → RuleBody → Attempt Done
done_by c t inner now p (Standard n) = rule_body t inner now p (slice_get standard_rules (n - 1))
done_by c t inner now p (Coded n) = body_done c t inner n now p

abbrev pub coded_body : Codes → Telling → Inner → ActionNow → Progress → Option CodedRule → Attempt Done
coded_body c t inner now p None = Ok (goes_on p)
coded_body c t inner now p (Some rule) = done_by c t inner now p rule.body

abbrev pub begins_by : Option CodedScene → Option ℕ
begins_by None = None
begins_by (Some scene) = scene.begins

abbrev pub ends_by : Option CodedScene → Option ℕ
ends_by None = None
ends_by (Some scene) = scene.ends

unfoldable pub game_of_codes : CodedStory → Game
game_of_codes k = record {
  start = k.start;
  telling = telling_by_codes k;
  books = λ book. slice_index_or k.books book [];
  needs = k.needs;
  is_about = λ rule now w. coded_is_about k.setting now w (slice_get k.rules rule);
  holds = λ rule now w. coded_condition k.codes k.setting now w (slice_get k.rules rule);
  body = λ rule inner now p. coded_body k.codes (telling_by_codes k) inner now p (slice_get k.rules rule);
  scenes = map (λ scene. scene.recurs) k.scenes;
  begins = λ scene w. answer_or false k.codes k.setting no_action w (begins_by (slice_get k.scenes scene));
  ends = λ scene w. answer_or false k.codes k.setting no_action w (ends_by (slice_get k.scenes scene));
  reads = k.reads;
}
