-- What codes are emitted of: the texts that describe, of each rule its condition, if there is one, and its body, and of each
-- scene the conditions on which it begins and ends, if there are any.
use Rattle.std.specs.Prelude.{ℕ, List, [], ◌∷◌, ◌++◌, map}
use Rattle.std.specs.List.{flat_map}
use Rattle.play_meaning.specs.Meant.{text_meant}
use Rattle.play_meaning.specs.Patterns.{rule_meant}
use Rattle.play_meaning.specs.Rules.{Rule}
use Rattle.play_meaning.specs.ScenesMeant.{scene_meant}
use Rattle.play_meaning.specs.Scripts.{Scene}
use Rattle.play_meaning.specs.TranslatedScripts.{description_part, in_list, test_part}
use Rattle.play_meaning.specs.Translation.{Part, strings_of_body, strings_of_text}
use Rattle.play_meaning.specs.Trees.{Body, Condition, Text}
use Rattle.play_meaning.specs.declared.operand.Counts.{Counts}
use Rattle.play_meaning.specs.declared.operand.Use.{Use}
use Rattle.play_meaning.specs.declared.operand.Use.TheVariants as role
use Rattle.play_meaning.specs.declared.tree.rule.MeantRule.{MeantRule}
use Rattle.play_meaning.specs.declared.tree.said.Text.{Text as MeantText}
use Rattle.play_meaning.specs.declared.tree.scene.MeantScene.{MeantScene}
use Rattle.story_code.specs.Emits.{whole_body}
use Rattle.story_code.specs.Fitting.{BodyFits, ConditionFits, TextFits}

pub data Origin : Type 0 where
  Describes : Text → Origin
  Asks : Condition → Origin
  Does : Body → Origin

-- a rule's condition stands in front of its body
abbrev pub origins_of_rule : Rule → List Origin
origins_of_rule rule = map Asks (in_list rule.condition) ++ Does rule.body ∷ []

-- the condition on which a scene begins stands in front of that on which it ends
abbrev pub origins_of_scene : Scene → List Origin
origins_of_scene scene = map Asks (in_list scene.begins ++ in_list scene.ends)

-- texts stand in front of rules, and these in front of scenes
abbrev pub origins_of : List Text → List Rule → List Scene → List Origin
origins_of texts rules scenes = map Describes texts ++ (flat_map origins_of_rule rules ++ flat_map origins_of_scene scenes)

-- of the rules, of the scenes and of all that a source means
abbrev pub origins_in_rules : List MeantRule → List Origin
origins_in_rules rules = flat_map origins_of_rule (map rule_meant rules)

abbrev pub origins_in_scenes : List MeantScene → List Origin
origins_in_scenes scenes = flat_map origins_of_scene (map scene_meant scenes)

abbrev pub origins_meant : List MeantText → List MeantRule → List MeantScene → List Origin
origins_meant texts rules scenes = origins_of (map text_meant texts) (map rule_meant rules) (map scene_meant scenes)

-- what its code is for
abbrev pub use_for : Origin → Use
use_for (Describes text) = role.Describing
use_for (Asks condition) = role.Test 0
use_for (Does body) = role.Body

-- its code and the tests that this names, each string by its number
abbrev pub part_of : (List ℕ → ℕ) → Origin → Part
part_of string (Describes text) = description_part string text
part_of string (Asks condition) = test_part condition
part_of string (Does body) = whole_body string body

-- it fits a story, with no loop open around it and no operand below
abbrev pub Fits : Counts → (List ℕ → ℕ) → Origin → Type 0
Fits z string (Describes text) = TextFits z role.Describing string 0 text
Fits z string (Asks condition) = ConditionFits z 0 0 condition
Fits z string (Does body) = BodyFits z string 0 body

-- the strings that it says, in order
abbrev pub strings_of_origin : Origin → List (List ℕ)
strings_of_origin (Describes text) = strings_of_text text
strings_of_origin (Asks condition) = []
strings_of_origin (Does body) = strings_of_body body
