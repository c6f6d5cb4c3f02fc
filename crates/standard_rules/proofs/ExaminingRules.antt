-- What the rules of examining do, told as answers.
use Rattle.std.proofs.Common.{◌≡◌, ◌++◌, ◌∙◌, ap, Bool, true, false, [], ℕ, Some, Ok, codes, refl}
use Rattle.play_meaning.specs.Doing.{do_body, do_phrase}
use Rattle.play_meaning.specs.Effects.{saying}
use Rattle.play_meaning.specs.Saying.{Telling, chosen, description_in, listed, name_in, said_in}
use Rattle.play_meaning.specs.Scripts.{scope_of}
use Rattle.play_meaning.specs.Settings.{Setting, device_kind, switched_on_flag}
use Rattle.play_meaning.specs.StandardRules.{device_text, rules_of_examining, rules_of_looking, standard_rules, visible_things}
use Rattle.play_meaning.specs.Trees.{First, Noun}
use Rattle.play_meaning.specs.Truth.{of_some, truth_in}
use Rattle.play_meaning.specs.Values.{has_quality, is_among, is_one, object_in, those}
use Rattle.play_meaning.specs.declared.naming.Naming.TheVariants.{CapitalDefinite, Definite, Indefinite}
use Rattle.world_meaning.specs.declared.place.Rel.TheVariants.{In, On}
use Rattle.play_meaning.specs.declared.action.ActionNow.{ActionNow}
use Rattle.world_meaning.specs.Texts.{said}
use Rattle.world_store.specs.StoryGames.{plain_story}
use Rattle.world_store.specs.StorySettings.{setting_of}
use Rattle.world_store.specs.StoryWorlds.{StoryWorld}
use Rattle.standard_rules.specs.Answers.{HasEffect, IsTold, answer_of, are_any, said_if, stop, telling_in}
use Rattle.standard_rules.specs.declared.answer.HostAnswer.{HostAnswer}
use Rattle.standard_rules.proofs.Shapes.{IsSaid, are_some, as_told, describes_if, says_if, tells_two}

module _ (s : StoryWorld) (now : ActionNow) (answer : HostAnswer) where
  abbrev setting : Setting
  setting = setting_of s.tables

  abbrev telling : Telling
  telling = telling_in s.tables

  pub rule_5_described : (noun : ℕ) → now.noun ≡ Some noun → setting.has_description noun ≡ true
      → IsTold (description_in telling now s.world (Some noun)) (answer_of answer) → HasEffect 5 s now answer
  unfolding plain_story truth_in object_in rules_of_looking rules_of_examining standard_rules
  rule_5_described noun is has told =
      as_told 5 s now answer refl
      (describes_if telling s.world now _ _ _ (Some noun) (answer_of answer) (ap (λ n. Ok (of_some n setting.has_description)) is ∙ ap Ok has) is told)

  pub rule_5_plain : of_some now.noun setting.has_description ≡ false
      → answer_of answer ≡ saying (codes "You see nothing special about " ++ (name_in setting Definite now.noun ++ stop)) → HasEffect 5 s now answer
  unfolding plain_story truth_in said_in object_in do_body do_phrase rules_of_looking rules_of_examining standard_rules
  rule_5_plain isnt told = as_told 5 s now answer told (λ inner text work. rw isnt refl)

  pub rule_6 : answer_of answer ≡ said_if (are_any (those setting (scope_of now) s.world (visible_things In)))
      (codes "In " ++ (name_in setting Definite now.noun ++ (codes " is " ++ (listed setting Indefinite (those setting (scope_of now) s.world (visible_things In)) ++ stop)))) → HasEffect 6 s now answer
  unfolding plain_story object_in rules_of_looking rules_of_examining standard_rules
  rule_6 told = as_told 6 s now answer told (says_if telling s.world now _ _ _ _ (are_some telling s.world now (visible_things In)) (tells_two telling s.world now (codes "In ") Noun (codes " is ") (visible_things In) now.noun refl))

  pub rule_7 : answer_of answer ≡ said_if (are_any (those setting (scope_of now) s.world (visible_things On)))
      (codes "On " ++ (name_in setting Definite now.noun ++ (codes " is " ++ (listed setting Indefinite (those setting (scope_of now) s.world (visible_things On)) ++ stop)))) → HasEffect 7 s now answer
  unfolding plain_story object_in rules_of_looking rules_of_examining standard_rules
  rule_7 told = as_told 7 s now answer told (says_if telling s.world now _ _ _ _ (are_some telling s.world now (visible_things On)) (tells_two telling s.world now (codes "On ") Noun (codes " is ") (visible_things On) now.noun refl))

  tells_device : (is_on : Bool) → of_some now.noun (has_quality setting s.world switched_on_flag First) ≡ is_on
      → IsSaid telling s.world now device_text (name_in setting CapitalDefinite now.noun ++ chosen is_on (said (codes " is switched on.")) (said (codes " is switched off.")))
  unfolding plain_story object_in truth_in said_in
  tells_device true is = rw is refl
  tells_device false is = rw is refl

  pub rule_8 : answer_of answer ≡ said_if (of_some now.noun (is_among setting s.world [] (Some device_kind)))
      (name_in setting CapitalDefinite now.noun ++ chosen (of_some now.noun (has_quality setting s.world switched_on_flag First)) (said (codes " is switched on.")) (said (codes " is switched off."))) → HasEffect 8 s now answer
  unfolding plain_story object_in truth_in is_one rules_of_looking rules_of_examining standard_rules
  rule_8 told = as_told 8 s now answer told (says_if telling s.world now _ _ _ _ refl (tells_device _ refl))
