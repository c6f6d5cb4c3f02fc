-- What is promised of what few words say: it fits, and bytes can say what is emitted of it.
use Rattle.std.specs.Prelude.{◌≡◌, ℕ, ◌+◌, ◌≤◌, true, List, length}
use Rattle.play_meaning.specs.Meant.{adjective_meant, condition_meant, quality_meant}
use Rattle.play_meaning.specs.Translation.{Emitted, strings_of_body, strings_of_text}
use Rattle.play_meaning.specs.TranslatedScripts.{description_part, test_part}
use Rattle.play_meaning.specs.Trees.{Body, Condition, Text}
use Rattle.play_meaning.specs.declared.operand.Counts.{Counts}
use Rattle.play_meaning.specs.declared.operand.Use.TheVariants.{Describing}
use Rattle.play_meaning.specs.declared.tree.condition.Condition.{Condition as Meant}
use Rattle.play_meaning.specs.declared.tree.object.Adjective.{Adjective}
use Rattle.story_code.specs.Emits.{whole_body}
use Rattle.story_code.specs.Emitting.{can_say_all}
use Rattle.story_code.specs.Fitting.{BodyFits, ConditionFits, TextFits}
use Rattle.story_code.specs.Sayable.{AdjectiveIsPlain, AdjectiveIsSayable, BodyIsSayable, ConditionIsSayable, TextIsSayable, truths_waiting}
use Rattle.story_code.specs.Shortness.{words_of_body, words_of_condition, words_of_text}
use Rattle.story_code.specs.SoundlyEmitted.{among}

-- two bytes tell each object, string and rulebook by its number
pub record IsCountedInTwoBytes (z : Counts) : Type 0 where
  pub objects : z.objects ≤ 65536
  pub strings : z.strings ≤ 65536
  pub books : z.books ≤ 65536

-- at most 500 words, and twice as many strings: the one word of `[']` is a string between two others
abbrev pub IsShort : ℕ → List (List ℕ) → Type 0
IsShort words strings = (words ≤ 500) × (length strings ≤ 1000)

-- ---- what few words say of what is there, within the limits of the language

abbrev pub IsShortBody : Counts → (List ℕ → ℕ) → Body → Type 0
IsShortBody z string body = BodyIsSayable z string 0 body × IsShort (words_of_body body) (strings_of_body body)

abbrev pub IsShortCondition : Counts → Condition → Type 0
IsShortCondition z condition = ConditionIsSayable z 0 condition × (words_of_condition condition ≤ 500)

abbrev pub IsShortDescription : Counts → (List ℕ → ℕ) → Text → Type 0
IsShortDescription z string text = TextIsSayable z Describing string 0 text × IsShort (words_of_text text) (strings_of_text text)

-- ---- it fits, whatever number its code has and however many codes there are, and bytes can say what is emitted of it

-- two bytes tell the tests that are named by their numbers, from the first on
abbrev pub IsNumberedFrom : ℕ → Emitted → Type 0
IsNumberedFrom first e = first + length e.tests ≤ 65536

-- what so many words say names no more tests
pub record IsShortlySaid (first words : ℕ) (e : Emitted) : Type 0 where
  pub few : length e.tests ≤ words
  pub said : IsNumberedFrom first e → can_say_all e ≡ true

abbrev pub ShortBodiesFit : Type 0
ShortBodiesFit = (z : Counts) (string : List ℕ → ℕ) (first : ℕ) (body : Body) → IsCountedInTwoBytes z → IsShortBody z string body
    → ((own codes : ℕ) → BodyFits (among z own codes) string 0 body) × IsShortlySaid first (words_of_body body) (whole_body string body first 0)

abbrev pub ShortConditionsFit : Type 0
ShortConditionsFit = (z : Counts) (first : ℕ) (condition : Condition) → IsCountedInTwoBytes z → IsShortCondition z condition
    → ((own codes : ℕ) → ConditionFits (among z own codes) 0 0 condition) × IsShortlySaid first (words_of_condition condition) (test_part condition first 0)

abbrev pub ShortDescriptionsFit : Type 0
ShortDescriptionsFit = (z : Counts) (string : List ℕ → ℕ) (first : ℕ) (text : Text) → IsCountedInTwoBytes z → IsShortDescription z string text
    → ((own codes : ℕ) → TextFits (among z own codes) Describing string 0 text) × IsShortlySaid first (words_of_text text) (description_part string text first 0)

-- ---- what words mean is joined so

pub record IsJoinedSo : Type 0 where
  pub conditions : (condition : Meant) → truths_waiting (condition_meant condition) ≤ 2
  pub adjectives : (z : Counts) (adjective : Adjective) → AdjectiveIsPlain z (quality_meant adjective.quality) → AdjectiveIsSayable z (adjective_meant adjective)
