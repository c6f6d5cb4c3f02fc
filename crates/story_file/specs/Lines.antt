-- The lines of descriptions, rules and scenes.
use Rattle.std.specs.Prelude.{ℕ, Bool, true, false, List, [], ◌∷◌, map, Option, None, Some, filter, bytes_eq, ◌==◌, if◌then◌else◌}
use Rattle.std.specs.List.{range_with_len}
use Rattle.world_meaning.specs.declared.tale.Object.{Object}
use Rattle.i7_conditions.specs.Clauses.{scene_named}
use Rattle.i7_conditions.specs.Scopes.{Scope}
use Rattle.i7_sentences.specs.declared.sentence.Assertion.{Assertion}
use Rattle.i7_sentences.specs.declared.sentence.Assertion.TheVariants.{Description, DescriptionOf, Rule, SceneChange}
use Rattle.i7_sentences.specs.declared.sentence.Sentence.{Sentence}
use Rattle.story_file.specs.Meanings.{descriptions_of}

-- what is asserted describes with this text
abbrev pub describes_with : List ℕ → Assertion → Bool
describes_with text (Description other) = bytes_eq other text
describes_with text (DescriptionOf object other) = bytes_eq other text
describes_with text _ = false

-- the line of the first sentence that describes with this text; 1 without one
abbrev pub line_of : List Sentence → List ℕ → ℕ
line_of [] text = 1
line_of (sentence ∷ sentences) text = if describes_with text sentence.said then sentence.line else line_of sentences text

-- the lines of the descriptions, in the order of the objects that have one
abbrev pub text_lines : List Sentence → List Object → List ℕ
text_lines sentences objects = map (line_of sentences) (descriptions_of objects)

-- ---- rules

abbrev pub is_rule : Assertion → Bool
is_rule (Rule rule) = true
is_rule _ = false

-- the lines of the rules, in the order of the sentences
abbrev pub rule_lines : List Sentence → List ℕ
rule_lines sentences = map (λ sentence. sentence.line) (filter (λ sentence. is_rule sentence.said) sentences)

-- ---- scenes

abbrev pub is_some_of : ℕ → Option ℕ → Bool
is_some_of number None = false
is_some_of number (Some n) = n == number

-- what is asserted says on what the scene of this number begins or ends
abbrev pub changes_scene : Scope → ℕ → Assertion → Bool
changes_scene s number (SceneChange change) = is_some_of number (scene_named s change.scene)
changes_scene s number _ = false

-- the line of the first sentence that says on what a scene begins or ends; 1 where there is none
abbrev pub line_of_scene : Scope → List Sentence → ℕ → ℕ
line_of_scene s [] number = 1
line_of_scene s (sentence ∷ sentences) number = if changes_scene s number sentence.said then sentence.line else line_of_scene s sentences number

-- of each of so many scenes
abbrev pub scene_lines : Scope → List Sentence → ℕ → List ℕ
scene_lines s sentences count = map (line_of_scene s sentences) (range_with_len 0 count)
