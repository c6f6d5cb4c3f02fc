-- What the rules of taking and dropping things do, told as answers.
use Rattle.std.proofs.Common.{◌≡◌, ◌++◌, not, [], Some, refl, codes}
use Rattle.std.specs.Prelude.{◌&&◌}
use Rattle.std.specs.List.{list_any}
use Rattle.play_meaning.specs.Effects.{saying}
use Rattle.play_meaning.specs.Saying.{Telling, name_in, said_in}
use Rattle.play_meaning.specs.Scripts.{scope_of}
use Rattle.play_meaning.specs.Seeing.{is_same}
use Rattle.play_meaning.specs.Settings.{Setting, fixed_in_place_flag, person_kind, scenery_flag, thing_kind}
use Rattle.play_meaning.specs.StandardRules.{rules_of_dropping, rules_of_examining, rules_of_looking, rules_of_taking, standard_rules}
use Rattle.play_meaning.specs.Trees.{First, Noun, Those}
use Rattle.play_meaning.specs.Truth.{has_thing, of_some, truth_in}
use Rattle.play_meaning.specs.Values.{has_quality, is_among, is_held, is_one, object_in, those}
use Rattle.play_meaning.specs.Worlds.{location_of}
use Rattle.play_meaning.specs.declared.action.ActionNow.{ActionNow}
use Rattle.play_meaning.specs.declared.naming.Naming.TheVariants.{CapitalDefinite}
use Rattle.world_meaning.specs.Texts.{said}
use Rattle.world_meaning.specs.declared.place.Rel.TheVariants.{Carried, In, Part, Worn}
use Rattle.world_store.specs.StoryGames.{plain_story}
use Rattle.world_store.specs.StorySettings.{setting_of}
use Rattle.world_store.specs.StoryWorlds.{StoryWorld}
use Rattle.standard_rules.specs.Answers.{HasEffect, answer_of, putting, refused_if, telling_in}
use Rattle.standard_rules.specs.declared.answer.HostAnswer.{HostAnswer}
use Rattle.standard_rules.proofs.Shapes.{as_told, puts, refuses, says, tells_name}

module _ (s : StoryWorld) (now : ActionNow) (answer : HostAnswer) where
  abbrev setting : Setting
  setting = setting_of s.tables

  abbrev telling : Telling
  telling = telling_in s.tables

  pub rule_9 : answer_of answer ≡ refused_if (is_same now.noun (Some 0)) (said (codes "You can't take yourself.")) → HasEffect 9 s now answer
  unfolding plain_story object_in truth_in is_one said_in rules_of_looking rules_of_examining rules_of_taking standard_rules
  rule_9 told = as_told 9 s now answer told (refuses telling s.world now _ _ _ _ refl refl)

  pub rule_10 : answer_of answer ≡ refused_if (of_some now.noun (is_among setting s.world [] (Some person_kind))) ((name_in setting CapitalDefinite now.noun ++ said (codes " wouldn't like that."))) → HasEffect 10 s now answer
  unfolding plain_story object_in truth_in is_one said_in rules_of_looking rules_of_examining rules_of_taking standard_rules
  rule_10 told = as_told 10 s now answer told (refuses telling s.world now _ _ _ _ refl (tells_name telling s.world now [] CapitalDefinite Noun (codes " wouldn't like that.") _ refl))

  pub rule_11 : answer_of answer ≡ refused_if (of_some now.noun (λ n. list_any (λ holder. is_held s.world Part (Some holder) n) (those setting (scope_of now) s.world (Those [] (Some thing_kind))))) (said (codes "That is part of something else.")) → HasEffect 11 s now answer
  unfolding plain_story object_in truth_in is_one said_in rules_of_looking rules_of_examining rules_of_taking standard_rules
  rule_11 told = as_told 11 s now answer told (refuses telling s.world now _ _ _ _ refl refl)

  pub rule_12 : answer_of answer ≡ refused_if (of_some now.noun (has_thing s.world 0)) (said (codes "You already have that.")) → HasEffect 12 s now answer
  unfolding plain_story object_in truth_in is_one said_in rules_of_looking rules_of_examining rules_of_taking standard_rules
  rule_12 told = as_told 12 s now answer told (refuses telling s.world now _ _ _ _ refl refl)

  pub rule_13 : answer_of answer ≡ refused_if (of_some now.noun (has_quality setting s.world scenery_flag First)) (said (codes "That is hardly portable.")) → HasEffect 13 s now answer
  unfolding plain_story object_in truth_in is_one said_in rules_of_looking rules_of_examining rules_of_taking standard_rules
  rule_13 told = as_told 13 s now answer told (refuses telling s.world now _ _ _ _ refl refl)

  pub rule_14 : answer_of answer ≡ refused_if (of_some now.noun (has_quality setting s.world fixed_in_place_flag First)) (said (codes "That is fixed in place.")) → HasEffect 14 s now answer
  unfolding plain_story object_in truth_in is_one said_in rules_of_looking rules_of_examining rules_of_taking standard_rules
  rule_14 told = as_told 14 s now answer told (refuses telling s.world now _ _ _ _ refl refl)

  pub rule_15 : answer_of answer ≡ putting now.noun Carried (Some 0) → HasEffect 15 s now answer
  unfolding plain_story object_in truth_in is_one said_in rules_of_looking rules_of_examining rules_of_taking standard_rules
  rule_15 told = as_told 15 s now answer told (puts telling s.world now _ _ _ _ _ refl refl)

  pub rule_16 : answer_of answer ≡ saying (said (codes "Taken.")) → HasEffect 16 s now answer
  unfolding plain_story object_in truth_in is_one said_in rules_of_looking rules_of_examining rules_of_taking standard_rules
  rule_16 told = as_told 16 s now answer told (says telling s.world now _ _ refl)

  pub rule_17 : answer_of answer ≡ refused_if (not (of_some now.noun (is_held s.world Carried (Some 0))) && not (of_some now.noun (is_held s.world Worn (Some 0)))) (said (codes "You don't have that.")) → HasEffect 17 s now answer
  unfolding plain_story object_in truth_in is_one said_in rules_of_looking rules_of_examining rules_of_taking rules_of_dropping standard_rules
  rule_17 told = as_told 17 s now answer told (refuses telling s.world now _ _ _ _ refl refl)

  pub rule_18 : answer_of answer ≡ putting now.noun In (location_of s.world) → HasEffect 18 s now answer
  unfolding plain_story object_in truth_in is_one said_in rules_of_looking rules_of_examining rules_of_taking rules_of_dropping standard_rules
  rule_18 told = as_told 18 s now answer told (puts telling s.world now _ _ _ _ _ refl refl)

  pub rule_19 : answer_of answer ≡ saying (said (codes "Dropped.")) → HasEffect 19 s now answer
  unfolding plain_story object_in truth_in is_one said_in rules_of_looking rules_of_examining rules_of_taking rules_of_dropping standard_rules
  rule_19 told = as_told 19 s now answer told (says telling s.world now _ _ refl)
