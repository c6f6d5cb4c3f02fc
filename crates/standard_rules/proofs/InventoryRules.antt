-- What the rules of taking inventory, waiting and jumping do, told as answers.
use Rattle.std.proofs.Common.{◌≡◌, ◌++◌, codes, refl}
use Rattle.play_meaning.specs.Effects.{saying}
use Rattle.play_meaning.specs.Saying.{Telling, listed, said_in}
use Rattle.play_meaning.specs.Scripts.{scope_of}
use Rattle.play_meaning.specs.Settings.{Setting}
use Rattle.play_meaning.specs.StandardRules.{rules_of_closing, rules_of_dropping, rules_of_examining, rules_of_going, rules_of_inserting, rules_of_inventory, rules_of_looking, rules_of_opening, rules_of_putting, rules_of_taking, rules_of_wearing, standard_rules, things_with_player}
use Rattle.play_meaning.specs.Values.{those}
use Rattle.play_meaning.specs.declared.naming.Naming.TheVariants.{Indefinite}
use Rattle.world_meaning.specs.declared.place.Rel.TheVariants.{Carried, Worn}
use Rattle.play_meaning.specs.declared.action.ActionNow.{ActionNow}
use Rattle.world_meaning.specs.Texts.{said}
use Rattle.world_store.specs.StoryGames.{plain_story}
use Rattle.world_store.specs.StorySettings.{setting_of}
use Rattle.world_store.specs.StoryWorlds.{StoryWorld}
use Rattle.standard_rules.specs.Answers.{HasEffect, answer_of, are_any, said_if, stop, telling_in}
use Rattle.standard_rules.specs.declared.answer.HostAnswer.{HostAnswer}
use Rattle.standard_rules.proofs.Shapes.{are_some, as_told, says, says_if, tells_list}

module _ (s : StoryWorld) (now : ActionNow) (answer : HostAnswer) where
  abbrev setting : Setting
  setting = setting_of s.tables

  abbrev telling : Telling
  telling = telling_in s.tables

  pub rule_50 : answer_of answer ≡ saying (codes "You are carrying " ++ (listed setting Indefinite (those setting (scope_of now) s.world (things_with_player Carried)) ++ stop)) → HasEffect 50 s now answer
  unfolding plain_story rules_of_looking rules_of_examining rules_of_taking rules_of_dropping rules_of_putting rules_of_inserting rules_of_opening rules_of_closing rules_of_going rules_of_wearing rules_of_inventory standard_rules
  rule_50 told = as_told 50 s now answer told (says telling s.world now _ _ (tells_list telling s.world now (codes "You are carrying ") (things_with_player Carried) (codes ".")))

  pub rule_51 : answer_of answer ≡ said_if (are_any (those setting (scope_of now) s.world (things_with_player Worn))) (codes "You are wearing " ++ (listed setting Indefinite (those setting (scope_of now) s.world (things_with_player Worn)) ++ stop)) → HasEffect 51 s now answer
  unfolding plain_story rules_of_looking rules_of_examining rules_of_taking rules_of_dropping rules_of_putting rules_of_inserting rules_of_opening rules_of_closing rules_of_going rules_of_wearing rules_of_inventory standard_rules
  rule_51 told = as_told 51 s now answer told (says_if telling s.world now _ _ _ _ (are_some telling s.world now (things_with_player Worn)) (tells_list telling s.world now (codes "You are wearing ") (things_with_player Worn) (codes ".")))

  pub rule_52 : answer_of answer ≡ saying (said (codes "Time passes.")) → HasEffect 52 s now answer
  unfolding said_in rules_of_looking rules_of_examining rules_of_taking rules_of_dropping rules_of_putting rules_of_inserting rules_of_opening rules_of_closing rules_of_going rules_of_wearing rules_of_inventory standard_rules
  rule_52 told = as_told 52 s now answer told (says telling s.world now _ _ refl)

  pub rule_53 : answer_of answer ≡ saying (said (codes "You jump on the spot.")) → HasEffect 53 s now answer
  unfolding said_in rules_of_looking rules_of_examining rules_of_taking rules_of_dropping rules_of_putting rules_of_inserting rules_of_opening rules_of_closing rules_of_going rules_of_wearing rules_of_inventory standard_rules
  rule_53 told = as_told 53 s now answer told (says telling s.world now _ _ refl)
