-- What the rules of wearing things and taking them off do, told as answers.
use Rattle.std.proofs.Common.{◌≡◌, ◌++◌, not, Some, refl, codes}
use Rattle.play_meaning.specs.Effects.{saying}
use Rattle.play_meaning.specs.Saying.{Telling, name_in, said_in}
use Rattle.play_meaning.specs.Settings.{Setting, wearable_flag}
use Rattle.play_meaning.specs.StandardRules.{rules_of_closing, rules_of_dropping, rules_of_examining, rules_of_going, rules_of_inserting, rules_of_looking, rules_of_opening, rules_of_putting, rules_of_taking, rules_of_wearing, standard_rules}
use Rattle.play_meaning.specs.Trees.{First, Noun}
use Rattle.play_meaning.specs.Truth.{of_some, truth_in}
use Rattle.play_meaning.specs.Values.{has_quality, is_held, is_one, object_in}
use Rattle.play_meaning.specs.declared.action.ActionNow.{ActionNow}
use Rattle.play_meaning.specs.declared.naming.Naming.TheVariants.{Definite}
use Rattle.world_meaning.specs.Texts.{said}
use Rattle.world_meaning.specs.declared.place.Rel.TheVariants.{Carried, Worn}
use Rattle.world_store.specs.StoryGames.{plain_story}
use Rattle.world_store.specs.StorySettings.{setting_of}
use Rattle.world_store.specs.StoryWorlds.{StoryWorld}
use Rattle.standard_rules.specs.Answers.{HasEffect, answer_of, putting, refused_if, telling_in}
use Rattle.standard_rules.specs.declared.answer.HostAnswer.{HostAnswer}
use Rattle.standard_rules.proofs.Shapes.{as_told, puts, refuses, says, tells_name}

module _ (s : StoryWorld) (now : ActionNow) (answer : HostAnswer) where
  abbrev setting : Setting
  setting = setting_of s.tables

  abbrev telling : Telling
  telling = telling_in s.tables

  pub rule_43 : answer_of answer ≡ refused_if (not (of_some now.noun (has_quality setting s.world wearable_flag First))) (said (codes "You can't wear that.")) → HasEffect 43 s now answer
  unfolding plain_story object_in truth_in is_one said_in rules_of_looking rules_of_examining rules_of_taking rules_of_dropping rules_of_putting rules_of_inserting rules_of_opening rules_of_closing rules_of_going rules_of_wearing standard_rules
  rule_43 told = as_told 43 s now answer told (refuses telling s.world now _ _ _ _ refl refl)

  pub rule_44 : answer_of answer ≡ refused_if (of_some now.noun (is_held s.world Worn (Some 0))) (said (codes "You are already wearing that.")) → HasEffect 44 s now answer
  unfolding plain_story object_in truth_in is_one said_in rules_of_looking rules_of_examining rules_of_taking rules_of_dropping rules_of_putting rules_of_inserting rules_of_opening rules_of_closing rules_of_going rules_of_wearing standard_rules
  rule_44 told = as_told 44 s now answer told (refuses telling s.world now _ _ _ _ refl refl)

  pub rule_45 : answer_of answer ≡ putting now.noun Worn (Some 0) → HasEffect 45 s now answer
  unfolding plain_story object_in truth_in is_one said_in rules_of_looking rules_of_examining rules_of_taking rules_of_dropping rules_of_putting rules_of_inserting rules_of_opening rules_of_closing rules_of_going rules_of_wearing standard_rules
  rule_45 told = as_told 45 s now answer told (puts telling s.world now _ _ _ _ _ refl refl)

  pub rule_46 : answer_of answer ≡ saying (codes "You put on " ++ (name_in setting Definite now.noun ++ said (codes "."))) → HasEffect 46 s now answer
  unfolding plain_story object_in truth_in is_one said_in rules_of_looking rules_of_examining rules_of_taking rules_of_dropping rules_of_putting rules_of_inserting rules_of_opening rules_of_closing rules_of_going rules_of_wearing standard_rules
  rule_46 told = as_told 46 s now answer told (says telling s.world now _ _ (tells_name telling s.world now (codes "You put on ") Definite Noun (codes ".") _ refl))

  pub rule_47 : answer_of answer ≡ refused_if (not (of_some now.noun (is_held s.world Worn (Some 0)))) (said (codes "You aren't wearing that.")) → HasEffect 47 s now answer
  unfolding plain_story object_in truth_in is_one said_in rules_of_looking rules_of_examining rules_of_taking rules_of_dropping rules_of_putting rules_of_inserting rules_of_opening rules_of_closing rules_of_going rules_of_wearing standard_rules
  rule_47 told = as_told 47 s now answer told (refuses telling s.world now _ _ _ _ refl refl)

  pub rule_48 : answer_of answer ≡ putting now.noun Carried (Some 0) → HasEffect 48 s now answer
  unfolding plain_story object_in truth_in is_one said_in rules_of_looking rules_of_examining rules_of_taking rules_of_dropping rules_of_putting rules_of_inserting rules_of_opening rules_of_closing rules_of_going rules_of_wearing standard_rules
  rule_48 told = as_told 48 s now answer told (puts telling s.world now _ _ _ _ _ refl refl)

  pub rule_49 : answer_of answer ≡ saying (codes "You take off " ++ (name_in setting Definite now.noun ++ said (codes "."))) → HasEffect 49 s now answer
  unfolding plain_story object_in truth_in is_one said_in rules_of_looking rules_of_examining rules_of_taking rules_of_dropping rules_of_putting rules_of_inserting rules_of_opening rules_of_closing rules_of_going rules_of_wearing standard_rules
  rule_49 told = as_told 49 s now answer told (says telling s.world now _ _ (tells_name telling s.world now (codes "You take off ") Definite Noun (codes ".") _ refl))
