-- What the rules of switching devices do, told as answers.
use Rattle.std.proofs.Common.{◌≡◌, ◌++◌, true, false, not, [], Some, refl, codes}
use Rattle.play_meaning.specs.Effects.{saying}
use Rattle.play_meaning.specs.Saying.{Telling, name_in, said_in}
use Rattle.play_meaning.specs.Settings.{Setting, device_kind, switched_on_flag}
use Rattle.play_meaning.specs.StandardRules.{rules_of_closing, rules_of_dropping, rules_of_examining, rules_of_going, rules_of_inserting, rules_of_inventory, rules_of_looking, rules_of_opening, rules_of_putting, rules_of_switching, rules_of_taking, rules_of_wearing, standard_rules}
use Rattle.play_meaning.specs.Trees.{First, Noun, Second}
use Rattle.play_meaning.specs.Truth.{of_some, truth_in}
use Rattle.play_meaning.specs.Values.{has_quality, is_among, is_one, object_in}
use Rattle.play_meaning.specs.declared.action.ActionNow.{ActionNow}
use Rattle.play_meaning.specs.declared.naming.Naming.TheVariants.{Definite}
use Rattle.world_meaning.specs.Texts.{said}
use Rattle.world_store.specs.StoryGames.{plain_story}
use Rattle.world_store.specs.StorySettings.{setting_of}
use Rattle.world_store.specs.StoryWorlds.{StoryWorld}
use Rattle.standard_rules.specs.Answers.{HasEffect, answer_of, making, refused_if, telling_in}
use Rattle.standard_rules.specs.declared.answer.HostAnswer.{HostAnswer}
use Rattle.standard_rules.proofs.Shapes.{as_told, makes, refuses, says, tells_name}

module _ (s : StoryWorld) (now : ActionNow) (answer : HostAnswer) where
  abbrev setting : Setting
  setting = setting_of s.tables

  abbrev telling : Telling
  telling = telling_in s.tables

  pub rule_54 : answer_of answer ≡ refused_if (not (of_some now.noun (is_among setting s.world [] (Some device_kind)))) (said (codes "You can't switch that.")) → HasEffect 54 s now answer
  unfolding plain_story object_in truth_in is_one said_in rules_of_looking rules_of_examining rules_of_taking rules_of_dropping rules_of_putting rules_of_inserting rules_of_opening rules_of_closing rules_of_going rules_of_wearing rules_of_inventory rules_of_switching standard_rules
  rule_54 told = as_told 54 s now answer told (refuses telling s.world now _ _ _ _ refl refl)

  pub rule_55 : answer_of answer ≡ refused_if (of_some now.noun (has_quality setting s.world switched_on_flag First)) (said (codes "That is already on.")) → HasEffect 55 s now answer
  unfolding plain_story object_in truth_in is_one said_in rules_of_looking rules_of_examining rules_of_taking rules_of_dropping rules_of_putting rules_of_inserting rules_of_opening rules_of_closing rules_of_going rules_of_wearing rules_of_inventory rules_of_switching standard_rules
  rule_55 told = as_told 55 s now answer told (refuses telling s.world now _ _ _ _ refl refl)

  pub rule_56 : answer_of answer ≡ making now.noun switched_on_flag true → HasEffect 56 s now answer
  unfolding plain_story object_in truth_in is_one said_in rules_of_looking rules_of_examining rules_of_taking rules_of_dropping rules_of_putting rules_of_inserting rules_of_opening rules_of_closing rules_of_going rules_of_wearing rules_of_inventory rules_of_switching standard_rules
  rule_56 told = as_told 56 s now answer told (makes telling s.world now _ _ _ _ refl)

  pub rule_57 : answer_of answer ≡ saying (codes "You switch " ++ (name_in setting Definite now.noun ++ said (codes " on."))) → HasEffect 57 s now answer
  unfolding plain_story object_in truth_in is_one said_in rules_of_looking rules_of_examining rules_of_taking rules_of_dropping rules_of_putting rules_of_inserting rules_of_opening rules_of_closing rules_of_going rules_of_wearing rules_of_inventory rules_of_switching standard_rules
  rule_57 told = as_told 57 s now answer told (says telling s.world now _ _ (tells_name telling s.world now (codes "You switch ") Definite Noun (codes " on.") _ refl))

  pub rule_58 : answer_of answer ≡ refused_if (not (of_some now.noun (is_among setting s.world [] (Some device_kind)))) (said (codes "You can't switch that.")) → HasEffect 58 s now answer
  unfolding plain_story object_in truth_in is_one said_in rules_of_looking rules_of_examining rules_of_taking rules_of_dropping rules_of_putting rules_of_inserting rules_of_opening rules_of_closing rules_of_going rules_of_wearing rules_of_inventory rules_of_switching standard_rules
  rule_58 told = as_told 58 s now answer told (refuses telling s.world now _ _ _ _ refl refl)

  pub rule_59 : answer_of answer ≡ refused_if (of_some now.noun (has_quality setting s.world switched_on_flag Second)) (said (codes "That is already off.")) → HasEffect 59 s now answer
  unfolding plain_story object_in truth_in is_one said_in rules_of_looking rules_of_examining rules_of_taking rules_of_dropping rules_of_putting rules_of_inserting rules_of_opening rules_of_closing rules_of_going rules_of_wearing rules_of_inventory rules_of_switching standard_rules
  rule_59 told = as_told 59 s now answer told (refuses telling s.world now _ _ _ _ refl refl)

  pub rule_60 : answer_of answer ≡ making now.noun switched_on_flag false → HasEffect 60 s now answer
  unfolding plain_story object_in truth_in is_one said_in rules_of_looking rules_of_examining rules_of_taking rules_of_dropping rules_of_putting rules_of_inserting rules_of_opening rules_of_closing rules_of_going rules_of_wearing rules_of_inventory rules_of_switching standard_rules
  rule_60 told = as_told 60 s now answer told (makes telling s.world now _ _ _ _ refl)

  pub rule_61 : answer_of answer ≡ saying (codes "You switch " ++ (name_in setting Definite now.noun ++ said (codes " off."))) → HasEffect 61 s now answer
  unfolding plain_story object_in truth_in is_one said_in rules_of_looking rules_of_examining rules_of_taking rules_of_dropping rules_of_putting rules_of_inserting rules_of_opening rules_of_closing rules_of_going rules_of_wearing rules_of_inventory rules_of_switching standard_rules
  rule_61 told = as_told 61 s now answer told (says telling s.world now _ _ (tells_name telling s.world now (codes "You switch ") Definite Noun (codes " off.") _ refl))
