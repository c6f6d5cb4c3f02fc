-- What no story file says since its codes are too long, and the line at which that is told.
use Rattle.std.specs.Prelude.{◌≡◌, ◌<◌, ◌⊎◌, ℕ, Bool, true, false, nat_lt, List, [], ◌∷◌, ◌++◌, length, map, Option, None, Some, if◌then◌else◌}
use Rattle.std.specs.List.{AllByRecursion, zip}
use Rattle.world_meaning.specs.declared.tale.Tale.{Tale}
use Rattle.object_words.specs.Mentions.{number_in}
use Rattle.play_meaning.specs.Trees.{Text}
use Rattle.play_meaning.specs.declared.operand.Counts.{Counts}
use Rattle.code_table.specs.Emitted.{AllShort}
use Rattle.code_table.specs.Origins.{Describes, Origin, origins_of_rule, origins_of_scene}
use Rattle.i7_sentences.specs.declared.sentence.Sentence.{Sentence}
use Rattle.story_format.specs.Contents.{Contents}
use Rattle.story_format.specs.Holding.{counts_in}
use Rattle.story_format.specs.Making.{strings_with}
use Rattle.story_file.specs.Lines.{rule_lines, scene_lines, text_lines}
use Rattle.story_file.specs.Meanings.{scope_said}

-- what codes are of, and the line of the sentence that says it
abbrev pub Lined : Type 0
Lined = ℕ × List Origin

abbrev pub one_text : Text → List Origin
one_text text = Describes text ∷ []

-- each description, rule and scene with its line: of a description and a scene that of the first sentence that tells it
abbrev pub lined : List Sentence → Tale → Contents → List Lined
lined sentences tale said =
    zip (text_lines sentences tale.objects) (map one_text said.texts)
    ++ (zip (rule_lines sentences) (map origins_of_rule said.rules)
    ++ zip (scene_lines (scope_said sentences) sentences (length tale.declared.scenes)) (map origins_of_scene said.scenes))

-- none of these is too long
abbrev pub AreShort : Counts → (List ℕ → ℕ) → List Lined → Type 0
AreShort z string all = AllByRecursion (λ one. AllShort z string one.1) all

-- one at this line is too long, and none at a lower one
pub record IsLowest (z : Counts) (string : List ℕ → ℕ) (all : List Lined) (line : ℕ) : Type 0 where
  pub below : AllByRecursion (λ one. one.0 < line → AllShort z string one.1) all
  pub there : AllByRecursion (λ one. one.0 ≡ line → AllShort z string one.1) all → ⊥

-- the line that is told: the lowest at which something is too long, and 1 where nothing is
abbrev pub IsLineTold : Counts → (List ℕ → ℕ) → List Lined → ℕ → Type 0
IsLineTold z string all line = IsLowest z string all line ⊎ (AreShort z string all × (line ≡ 1))

abbrev pub IsToldAt : List Sentence → Tale → Contents → ℕ → Type 0
IsToldAt sentences tale said line = IsLineTold (counts_in tale said) (number_in (strings_with tale said)) (lined sentences tale said) line

-- ---- as it is looked for

-- the lowest so far, if something was too long
abbrev pub IsFound : Counts → (List ℕ → ℕ) → List Lined → Option ℕ → Type 0
IsFound z string all None = AreShort z string all
IsFound z string all (Some line) = IsLowest z string all line

abbrev pub lower : Option ℕ → ℕ → ℕ
lower None line = line
lower (Some other) line = if nat_lt line other then line else other

-- the lowest of the lines at which something is told to be too long, if one is, and of that found before
abbrev pub lowest : Option ℕ → List ℕ → List Bool → Option ℕ
lowest found [] longs = found
lowest found (line ∷ lines) [] = found
lowest found (line ∷ lines) (true ∷ longs) = lowest (Some (lower found line)) lines longs
lowest found (line ∷ lines) (false ∷ longs) = lowest found lines longs
