-- What the rules of opening and closing things do, told as answers.
use Rattle.std.proofs.Common.{◌≡◌, ◌++◌, true, false, not, refl, codes}
use Rattle.play_meaning.specs.Effects.{saying}
use Rattle.play_meaning.specs.Saying.{Telling, name_in, said_in}
use Rattle.play_meaning.specs.Settings.{Setting, open_flag, openable_flag}
use Rattle.play_meaning.specs.StandardRules.{rules_of_closing, rules_of_dropping, rules_of_examining, rules_of_inserting, rules_of_looking, rules_of_opening, rules_of_putting, rules_of_taking, standard_rules}
use Rattle.play_meaning.specs.Trees.{First, Noun, Second}
use Rattle.play_meaning.specs.Truth.{of_some, truth_in}
use Rattle.play_meaning.specs.Values.{has_quality, is_one, object_in}
use Rattle.play_meaning.specs.declared.action.ActionNow.{ActionNow}
use Rattle.play_meaning.specs.declared.naming.Naming.TheVariants.{Definite}
use Rattle.world_meaning.specs.Texts.{said}
use Rattle.world_store.specs.StoryGames.{plain_story}
use Rattle.world_store.specs.StorySettings.{setting_of}
use Rattle.world_store.specs.StoryWorlds.{StoryWorld}
use Rattle.standard_rules.specs.Answers.{HasEffect, answer_of, making, refused_if, telling_in}
use Rattle.standard_rules.specs.declared.answer.HostAnswer.{HostAnswer}
use Rattle.standard_rules.proofs.Shapes.{as_told, makes, refuses, says, tells_name}

module _ (s : StoryWorld) (now : ActionNow) (answer : HostAnswer) where
  abbrev setting : Setting
  setting = setting_of s.tables

  abbrev telling : Telling
  telling = telling_in s.tables

  pub rule_31 : answer_of answer ≡ refused_if (not (of_some now.noun (has_quality setting s.world openable_flag First))) (said (codes "You can't open that.")) → HasEffect 31 s now answer
  unfolding plain_story object_in truth_in is_one said_in rules_of_looking rules_of_examining rules_of_taking rules_of_dropping rules_of_putting rules_of_inserting rules_of_opening standard_rules
  rule_31 told = as_told 31 s now answer told (refuses telling s.world now _ _ _ _ refl refl)

  pub rule_32 : answer_of answer ≡ refused_if (of_some now.noun (has_quality setting s.world open_flag First)) (said (codes "That is already open.")) → HasEffect 32 s now answer
  unfolding plain_story object_in truth_in is_one said_in rules_of_looking rules_of_examining rules_of_taking rules_of_dropping rules_of_putting rules_of_inserting rules_of_opening standard_rules
  rule_32 told = as_told 32 s now answer told (refuses telling s.world now _ _ _ _ refl refl)

  pub rule_33 : answer_of answer ≡ making now.noun open_flag true → HasEffect 33 s now answer
  unfolding plain_story object_in truth_in is_one said_in rules_of_looking rules_of_examining rules_of_taking rules_of_dropping rules_of_putting rules_of_inserting rules_of_opening standard_rules
  rule_33 told = as_told 33 s now answer told (makes telling s.world now _ _ _ _ refl)

  pub rule_34 : answer_of answer ≡ saying (codes "You open " ++ (name_in setting Definite now.noun ++ said (codes "."))) → HasEffect 34 s now answer
  unfolding plain_story object_in truth_in is_one said_in rules_of_looking rules_of_examining rules_of_taking rules_of_dropping rules_of_putting rules_of_inserting rules_of_opening standard_rules
  rule_34 told = as_told 34 s now answer told (says telling s.world now _ _ (tells_name telling s.world now (codes "You open ") Definite Noun (codes ".") _ refl))

  pub rule_35 : answer_of answer ≡ refused_if (not (of_some now.noun (has_quality setting s.world openable_flag First))) (said (codes "You can't close that.")) → HasEffect 35 s now answer
  unfolding plain_story object_in truth_in is_one said_in rules_of_looking rules_of_examining rules_of_taking rules_of_dropping rules_of_putting rules_of_inserting rules_of_opening rules_of_closing standard_rules
  rule_35 told = as_told 35 s now answer told (refuses telling s.world now _ _ _ _ refl refl)

  pub rule_36 : answer_of answer ≡ refused_if (of_some now.noun (has_quality setting s.world open_flag Second)) (said (codes "That is already closed.")) → HasEffect 36 s now answer
  unfolding plain_story object_in truth_in is_one said_in rules_of_looking rules_of_examining rules_of_taking rules_of_dropping rules_of_putting rules_of_inserting rules_of_opening rules_of_closing standard_rules
  rule_36 told = as_told 36 s now answer told (refuses telling s.world now _ _ _ _ refl refl)

  pub rule_37 : answer_of answer ≡ making now.noun open_flag false → HasEffect 37 s now answer
  unfolding plain_story object_in truth_in is_one said_in rules_of_looking rules_of_examining rules_of_taking rules_of_dropping rules_of_putting rules_of_inserting rules_of_opening rules_of_closing standard_rules
  rule_37 told = as_told 37 s now answer told (makes telling s.world now _ _ _ _ refl)

  pub rule_38 : answer_of answer ≡ saying (codes "You close " ++ (name_in setting Definite now.noun ++ said (codes "."))) → HasEffect 38 s now answer
  unfolding plain_story object_in truth_in is_one said_in rules_of_looking rules_of_examining rules_of_taking rules_of_dropping rules_of_putting rules_of_inserting rules_of_opening rules_of_closing standard_rules
  rule_38 told = as_told 38 s now answer told (says telling s.world now _ _ (tells_name telling s.world now (codes "You close ") Definite Noun (codes ".") _ refl))
