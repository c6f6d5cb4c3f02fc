-- A description's code among the codes of a story, by the numbers that the story gives to strings and tests.
use Rattle.std.specs.Prelude.{◌≡◌, ℕ, List, [], ◌++◌, length, slice_index_or}
use Rattle.std.specs.List.{AllByRecursion}
use Rattle.play_meaning.specs.Codes.{Codes, code_of}
use Rattle.play_meaning.specs.declared.instruction.Instruction.{Instruction}
use Rattle.play_meaning.specs.TranslatedScripts.{description_part}
use Rattle.play_meaning.specs.Translation.{strings_of_text}
use Rattle.play_meaning.specs.Trees.{Text}

-- the code stands by its number, and the tests that it names one behind the other, from the number of the first on
pub record IsDescriptionAmong (c : Codes) (string : List ℕ → ℕ) (n first : ℕ) (text : Text) : Type 0 where
  pub code : code_of c n ≡ (description_part string text first 0).code
  pub front : List (List Instruction)
  pub back : List (List Instruction)
  pub tests : c.codes ≡ front ++ ((description_part string text first 0).tests ++ back)
  pub place : length front ≡ first
  pub strings : AllByRecursion (λ bytes. slice_index_or c.strings (string bytes) [] ≡ bytes) (strings_of_text text)
