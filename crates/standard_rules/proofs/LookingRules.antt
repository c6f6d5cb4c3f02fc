-- What the rules of looking do, told as answers.
use Rattle.std.proofs.Common.{◌≡◌, ◌++◌, ◌∙◌, ap, sym, Bool, true, false, not, [], ◌∷◌, ℕ, Some, codes, refl}
use Rattle.std.specs.Prelude.{◌&&◌}
use Rattle.std.proofs.lemmas.List.{append-nil}
use Rattle.play_meaning.specs.Acting.{dark_text}
use Rattle.play_meaning.specs.Deeds.{on_view}
use Rattle.play_meaning.specs.Doing.{do_body, do_phrase}
use Rattle.play_meaning.specs.Effects.{Answer, saying, silence}
use Rattle.play_meaning.specs.Saying.{Telling, chosen, description_in, listed, name_in, said_in}
use Rattle.play_meaning.specs.Seeing.{has_light}
use Rattle.play_meaning.specs.Settings.{Setting, visited_flag}
use Rattle.play_meaning.specs.StandardRules.{room_contents, rules_of_looking, standard_rules}
use Rattle.play_meaning.specs.Truth.{truth_in}
use Rattle.play_meaning.specs.Values.{is_one, object_in, those}
use Rattle.play_meaning.specs.Worlds.{location_of}
use Rattle.play_meaning.specs.declared.naming.Naming.TheVariants.{Indefinite, Plain}
use Rattle.play_meaning.specs.declared.action.ActionNow.{ActionNow}
use Rattle.world_meaning.specs.Texts.{said}
use Rattle.world_store.specs.StoryGames.{plain_story}
use Rattle.world_store.specs.StorySettings.{setting_of}
use Rattle.world_store.specs.StoryWorlds.{StoryWorld}
use Rattle.standard_rules.specs.Answers.{HasEffect, IsTold, answer_of, are_any, making, said_if, telling_in}
use Rattle.standard_rules.specs.declared.answer.HostAnswer.{HostAnswer}
use Rattle.standard_rules.proofs.Shapes.{as_told, described, lit_and_some, says_either, says_if, tells_list}

module _ (s : StoryWorld) (now : ActionNow) (answer : HostAnswer) where
  abbrev setting : Setting
  setting = setting_of s.tables

  abbrev telling : Telling
  telling = telling_in s.tables

  pub rule_1 : answer_of answer ≡ saying (chosen (not (has_light setting s.world)) (said (codes "Darkness")) (name_in setting Plain (location_of s.world) ++ 10 ∷ [])) → HasEffect 1 s now answer
  unfolding plain_story object_in truth_in said_in rules_of_looking standard_rules
  rule_1 told = as_told 1 s now answer told (says_either telling s.world now _ _ _ _ _ _ refl refl refl)

  pub rule_2_in_darkness : has_light setting s.world ≡ false → answer_of answer ≡ saying dark_text → HasEffect 2 s now answer
  unfolding plain_story truth_in said_in do_body do_phrase rules_of_looking standard_rules
  rule_2_in_darkness dark told = as_told 2 s now answer told (λ inner text work. rw dark refl)

  pub rule_2_in_light : (here : ℕ) → has_light setting s.world ≡ true → location_of s.world ≡ Some here
      → IsTold (description_in telling now s.world (Some here)) (answer_of answer) → HasEffect 2 s now answer
  unfolding plain_story truth_in said_in object_in do_body do_phrase rules_of_looking standard_rules
  rule_2_in_light here light is told = as_told 2 s now answer refl (λ inner text work. rw (light, is) (described telling s.world now (description_in telling now s.world (Some here)) (answer_of answer) told inner text work))

  abbrev view_told : Bool → Answer
  view_told light = said_if (not (not light) && are_any (on_view setting s.world)) (codes "You can see " ++ (listed setting Indefinite (on_view setting s.world) ++ said (codes " here.")))

  rule_3 : answer_of answer ≡ view_told (has_light setting s.world) → HasEffect 3 s now answer
  unfolding plain_story those is_one object_in rules_of_looking standard_rules
  rule_3 told = as_told 3 s now answer told (says_if telling s.world now _ _ _ _ (lit_and_some telling s.world now room_contents) (tells_list telling s.world now (codes "You can see ") room_contents (codes " here.")))

  pub rule_3_in_darkness : has_light setting s.world ≡ false → answer_of answer ≡ silence → HasEffect 3 s now answer
  rule_3_in_darkness dark told = rule_3 (told ∙ sym (ap view_told dark))

  pub rule_3_in_light : has_light setting s.world ≡ true
      → answer_of answer ≡ said_if (are_any (on_view setting s.world)) (codes "You can see " ++ (listed setting Indefinite (on_view setting s.world) ++ said (codes " here."))) → HasEffect 3 s now answer
  rule_3_in_light light told = rule_3 (told ∙ sym (ap view_told light))

  pub rule_4_in_darkness : has_light setting s.world ≡ false → answer_of answer ≡ silence → HasEffect 4 s now answer
  unfolding plain_story truth_in do_body do_phrase rules_of_looking standard_rules
  rule_4_in_darkness dark told = as_told 4 s now answer told (λ inner text work. rw (dark, append-nil text) refl)

  pub rule_4_in_light : (here : ℕ) → has_light setting s.world ≡ true → location_of s.world ≡ Some here → answer_of answer ≡ making (Some here) visited_flag true → HasEffect 4 s now answer
  unfolding plain_story truth_in object_in do_body do_phrase rules_of_looking standard_rules
  rule_4_in_light here light is told = as_told 4 s now answer told (λ inner text work. rw (light, is, append-nil text) refl)
