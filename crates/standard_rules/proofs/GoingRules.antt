-- What the rules of going do, told as answers.
use Rattle.std.proofs.Common.{◌≡◌, ◌++◌, [], None, Some, refl, codes}
use Rattle.play_meaning.specs.Effects.{trying}
use Rattle.play_meaning.specs.Saying.{Telling, name_in, said_in}
use Rattle.play_meaning.specs.Seeing.{is_same}
use Rattle.play_meaning.specs.Settings.{Setting, open_flag}
use Rattle.play_meaning.specs.StandardRules.{door_there, rules_of_closing, rules_of_dropping, rules_of_examining, rules_of_going, rules_of_inserting, rules_of_looking, rules_of_opening, rules_of_putting, rules_of_taking, standard_rules}
use Rattle.play_meaning.specs.Trees.{Second}
use Rattle.play_meaning.specs.Truth.{of_some, truth_in}
use Rattle.play_meaning.specs.Turns.{look_round}
use Rattle.play_meaning.specs.Values.{beyond, has_quality, is_one, object_in}
use Rattle.play_meaning.specs.Worlds.{location_of}
use Rattle.play_meaning.specs.declared.action.ActionNow.{ActionNow}
use Rattle.play_meaning.specs.declared.naming.Naming.TheVariants.{CapitalDefinite}
use Rattle.world_meaning.specs.Texts.{said}
use Rattle.world_meaning.specs.declared.place.Rel.TheVariants.{In}
use Rattle.world_store.specs.StoryGames.{plain_story}
use Rattle.world_store.specs.StorySettings.{setting_of}
use Rattle.world_store.specs.StoryWorlds.{StoryWorld}
use Rattle.standard_rules.specs.Answers.{HasEffect, answer_of, putting, refused_if, telling_in}
use Rattle.standard_rules.specs.declared.answer.HostAnswer.{HostAnswer}
use Rattle.standard_rules.proofs.Shapes.{as_told, puts, refuses, tells_name, tries}

module _ (s : StoryWorld) (now : ActionNow) (answer : HostAnswer) where
  abbrev setting : Setting
  setting = setting_of s.tables

  abbrev telling : Telling
  telling = telling_in s.tables

  pub rule_39 : answer_of answer ≡ refused_if (of_some (beyond setting setting.door_beyond now.noun (location_of s.world)) (has_quality setting s.world open_flag Second)) ((name_in setting CapitalDefinite (beyond setting setting.door_beyond now.noun (location_of s.world)) ++ said (codes " is closed."))) → HasEffect 39 s now answer
  unfolding plain_story object_in truth_in is_one said_in rules_of_looking rules_of_examining rules_of_taking rules_of_dropping rules_of_putting rules_of_inserting rules_of_opening rules_of_closing rules_of_going standard_rules
  rule_39 told = as_told 39 s now answer told (refuses telling s.world now _ _ _ _ refl (tells_name telling s.world now [] CapitalDefinite door_there (codes " is closed.") _ refl))

  pub rule_40 : answer_of answer ≡ refused_if (is_same (beyond setting setting.room_beyond now.noun (location_of s.world)) None) (said (codes "You can't go that way.")) → HasEffect 40 s now answer
  unfolding plain_story object_in truth_in is_one said_in rules_of_looking rules_of_examining rules_of_taking rules_of_dropping rules_of_putting rules_of_inserting rules_of_opening rules_of_closing rules_of_going standard_rules
  rule_40 told = as_told 40 s now answer told (refuses telling s.world now _ _ _ _ refl refl)

  pub rule_41 : answer_of answer ≡ putting (Some 0) In (beyond setting setting.room_beyond now.noun (location_of s.world)) → HasEffect 41 s now answer
  unfolding plain_story object_in truth_in is_one said_in rules_of_looking rules_of_examining rules_of_taking rules_of_dropping rules_of_putting rules_of_inserting rules_of_opening rules_of_closing rules_of_going standard_rules
  rule_41 told = as_told 41 s now answer told (puts telling s.world now _ _ _ _ _ refl refl)

  pub rule_42 : answer_of answer ≡ trying look_round → HasEffect 42 s now answer
  unfolding plain_story object_in truth_in is_one said_in rules_of_looking rules_of_examining rules_of_taking rules_of_dropping rules_of_putting rules_of_inserting rules_of_opening rules_of_closing rules_of_going standard_rules
  rule_42 told = as_told 42 s now answer told (tries telling s.world now _ _ _ _ _ _ refl refl)
