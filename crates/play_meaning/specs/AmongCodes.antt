-- A body's code, and a condition's, among the codes of a story, by the numbers that the story gives to strings and tests.
use Rattle.std.specs.Prelude.{◌≡◌, ◌<◌, ℕ, List, [], ◌++◌, length, slice_index_or}
use Rattle.std.specs.List.{AllByRecursion}
use Rattle.play_meaning.specs.Codes.{Codes, code_of}
use Rattle.play_meaning.specs.Instructions.{Done, Instruction}
use Rattle.play_meaning.specs.TranslatedScripts.{test_part}
use Rattle.play_meaning.specs.Translation.{Emitted, body_part, one, seq, strings_of_body}
use Rattle.play_meaning.specs.Trees.{Body, Condition}

-- a body's code and the tests that it names, the first of them by this number
abbrev pub whole : (List ℕ → ℕ) → ℕ → Body → Emitted
whole string first body = seq (body_part string 0 body) (one Done) first 0

pub record IsAmong (c : Codes) (string : List ℕ → ℕ) (n first : ℕ) (body : Body) : Type 0 where
  pub code : code_of c n ≡ (whole string first body).code
  -- its tests stand behind as many codes as the first's number says
  pub front : List (List Instruction)
  pub back : List (List Instruction)
  pub tests : c.codes ≡ front ++ ((whole string first body).tests ++ back)
  pub place : length front ≡ first
  pub strings : AllByRecursion (λ bytes. slice_index_or c.strings (string bytes) [] ≡ bytes) (strings_of_body body)

-- the tests that a condition's code names stand behind it
pub record IsTestAmong (c : Codes) (n first : ℕ) (condition : Condition) : Type 0 where
  pub code : code_of c n ≡ (test_part condition first 0).code
  pub front : List (List Instruction)
  pub back : List (List Instruction)
  pub tests : c.codes ≡ front ++ ((test_part condition first 0).tests ++ back)
  pub place : length front ≡ first
  pub behind : n < first
