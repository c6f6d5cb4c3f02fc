-- What the rules of putting things on others and inserting them into others do, told as answers.
use Rattle.std.proofs.Common.{◌≡◌, ◌++◌, not, [], Some, refl, codes}
use Rattle.play_meaning.specs.Effects.{saying}
use Rattle.play_meaning.specs.Saying.{Telling, name_in, said_in}
use Rattle.play_meaning.specs.Seeing.{encloses, is_same}
use Rattle.play_meaning.specs.Settings.{Setting, container_kind, open_flag, supporter_kind}
use Rattle.play_meaning.specs.StandardRules.{rules_of_dropping, rules_of_examining, rules_of_inserting, rules_of_looking, rules_of_putting, rules_of_taking, standard_rules}
use Rattle.play_meaning.specs.Trees.{Noun, Second, SecondNoun}
use Rattle.play_meaning.specs.Truth.{of_both, of_some, truth_in}
use Rattle.play_meaning.specs.Values.{has_quality, is_among, is_one, object_in}
use Rattle.play_meaning.specs.declared.action.ActionNow.{ActionNow}
use Rattle.play_meaning.specs.declared.naming.Naming.TheVariants.{CapitalDefinite, Definite}
use Rattle.world_meaning.specs.Texts.{said}
use Rattle.world_meaning.specs.declared.place.Rel.TheVariants.{In, On}
use Rattle.world_store.specs.StoryGames.{plain_story}
use Rattle.world_store.specs.StorySettings.{setting_of}
use Rattle.world_store.specs.StoryWorlds.{StoryWorld}
use Rattle.standard_rules.specs.Answers.{HasEffect, answer_of, putting, refused_if, stop, telling_in}
use Rattle.standard_rules.specs.declared.answer.HostAnswer.{HostAnswer}
use Rattle.standard_rules.proofs.Shapes.{as_told, puts, refuses, says, tells_name, tells_names}

module _ (s : StoryWorld) (now : ActionNow) (answer : HostAnswer) where
  abbrev setting : Setting
  setting = setting_of s.tables

  abbrev telling : Telling
  telling = telling_in s.tables

  pub rule_20 : answer_of answer ≡ refused_if (is_same now.noun now.second) (said (codes "You can't put something on itself.")) → HasEffect 20 s now answer
  unfolding plain_story object_in truth_in is_one said_in rules_of_looking rules_of_examining rules_of_taking rules_of_dropping rules_of_putting standard_rules
  rule_20 told = as_told 20 s now answer told (refuses telling s.world now _ _ _ _ refl refl)

  pub rule_21 : answer_of answer ≡ refused_if (not (of_some now.second (is_among setting s.world [] (Some supporter_kind)))) (codes "You can't put things on " ++ (name_in setting Definite now.second ++ said (codes "."))) → HasEffect 21 s now answer
  unfolding plain_story object_in truth_in is_one said_in rules_of_looking rules_of_examining rules_of_taking rules_of_dropping rules_of_putting standard_rules
  rule_21 told = as_told 21 s now answer told (refuses telling s.world now _ _ _ _ refl (tells_name telling s.world now (codes "You can't put things on ") Definite SecondNoun (codes ".") _ refl))

  pub rule_22 : answer_of answer ≡ refused_if (of_both now.noun now.second (encloses s.world)) (said (codes "You can't put something on what it holds.")) → HasEffect 22 s now answer
  unfolding plain_story object_in truth_in is_one said_in rules_of_looking rules_of_examining rules_of_taking rules_of_dropping rules_of_putting standard_rules
  rule_22 told = as_told 22 s now answer told (refuses telling s.world now _ _ _ _ refl refl)

  pub rule_23 : answer_of answer ≡ putting now.noun On now.second → HasEffect 23 s now answer
  unfolding plain_story object_in truth_in is_one said_in rules_of_looking rules_of_examining rules_of_taking rules_of_dropping rules_of_putting standard_rules
  rule_23 told = as_told 23 s now answer told (puts telling s.world now _ _ _ _ _ refl refl)

  pub rule_24 : answer_of answer ≡ saying (codes "You put " ++ (name_in setting Definite now.noun ++ (codes " on " ++ (name_in setting Definite now.second ++ stop)))) → HasEffect 24 s now answer
  unfolding plain_story object_in truth_in is_one said_in rules_of_looking rules_of_examining rules_of_taking rules_of_dropping rules_of_putting standard_rules
  rule_24 told = as_told 24 s now answer told (says telling s.world now _ _ (tells_names telling s.world now (codes "You put ") Noun (codes " on ") SecondNoun (codes ".") _ _ refl refl))

  pub rule_25 : answer_of answer ≡ refused_if (is_same now.noun now.second) (said (codes "You can't put something into itself.")) → HasEffect 25 s now answer
  unfolding plain_story object_in truth_in is_one said_in rules_of_looking rules_of_examining rules_of_taking rules_of_dropping rules_of_putting rules_of_inserting standard_rules
  rule_25 told = as_told 25 s now answer told (refuses telling s.world now _ _ _ _ refl refl)

  pub rule_26 : answer_of answer ≡ refused_if (not (of_some now.second (is_among setting s.world [] (Some container_kind)))) (codes "You can't put things into " ++ (name_in setting Definite now.second ++ said (codes "."))) → HasEffect 26 s now answer
  unfolding plain_story object_in truth_in is_one said_in rules_of_looking rules_of_examining rules_of_taking rules_of_dropping rules_of_putting rules_of_inserting standard_rules
  rule_26 told = as_told 26 s now answer told (refuses telling s.world now _ _ _ _ refl (tells_name telling s.world now (codes "You can't put things into ") Definite SecondNoun (codes ".") _ refl))

  pub rule_27 : answer_of answer ≡ refused_if (of_both now.noun now.second (encloses s.world)) (said (codes "You can't put something into what it holds.")) → HasEffect 27 s now answer
  unfolding plain_story object_in truth_in is_one said_in rules_of_looking rules_of_examining rules_of_taking rules_of_dropping rules_of_putting rules_of_inserting standard_rules
  rule_27 told = as_told 27 s now answer told (refuses telling s.world now _ _ _ _ refl refl)

  pub rule_28 : answer_of answer ≡ refused_if (of_some now.second (has_quality setting s.world open_flag Second)) ((name_in setting CapitalDefinite now.second ++ said (codes " is closed."))) → HasEffect 28 s now answer
  unfolding plain_story object_in truth_in is_one said_in rules_of_looking rules_of_examining rules_of_taking rules_of_dropping rules_of_putting rules_of_inserting standard_rules
  rule_28 told = as_told 28 s now answer told (refuses telling s.world now _ _ _ _ refl (tells_name telling s.world now [] CapitalDefinite SecondNoun (codes " is closed.") _ refl))

  pub rule_29 : answer_of answer ≡ putting now.noun In now.second → HasEffect 29 s now answer
  unfolding plain_story object_in truth_in is_one said_in rules_of_looking rules_of_examining rules_of_taking rules_of_dropping rules_of_putting rules_of_inserting standard_rules
  rule_29 told = as_told 29 s now answer told (puts telling s.world now _ _ _ _ _ refl refl)

  pub rule_30 : answer_of answer ≡ saying (codes "You put " ++ (name_in setting Definite now.noun ++ (codes " into " ++ (name_in setting Definite now.second ++ stop)))) → HasEffect 30 s now answer
  unfolding plain_story object_in truth_in is_one said_in rules_of_looking rules_of_examining rules_of_taking rules_of_dropping rules_of_putting rules_of_inserting standard_rules
  rule_30 told = as_told 30 s now answer told (says telling s.world now _ _ (tells_names telling s.world now (codes "You put ") Noun (codes " into ") SecondNoun (codes ".") _ _ refl refl))
