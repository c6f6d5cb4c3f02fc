-- The codes of a story's tables: what they are judged by, what they are for, and what they say.
use Rattle.std.specs.Prelude.{ℕ, List, ◌++◌, length, map, replicate}
use Rattle.play_meaning.specs.Codes.{Codes}
use Rattle.play_meaning.specs.declared.instruction.Instruction.{Instruction}
use Rattle.play_meaning.specs.declared.operand.Use.{Use}
use Rattle.play_meaning.specs.declared.operand.Use.TheVariants.{Describing}
use Rattle.code_table.specs.Tables.{IsTableOf}
use Rattle.story_code.specs.Fronts.{code_in}
use Rattle.story_code.specs.Runs.{IsTestAt, code_or_none}
use Rattle.story_code.specs.Soundness.{Judged}
use Rattle.story_format.specs.Checks.{codes_named}
unfoldable pub use Rattle.story_format.specs.Counts.{counts_of, small}
use Rattle.story_format.specs.RuleChecks.{uses_in_tables}
use Rattle.story_format.specs.declared.tables.Tables.{Tables}

-- the first codes describe the objects that name them, those behind them are the rules' and the scenes', and the others are tests
abbrev pub uses_of : Tables → List Use
uses_of t = replicate (length (codes_named t.objects)) Describing ++ uses_in_tables t.rules

-- the codes, judged so
abbrev pub AreCodesOf : Tables → List Judged → Type 0
AreCodesOf t judged = IsTableOf (counts_of t) (uses_of t) t.codes judged

-- a code of the story is a test that stands inside no loop
abbrev pub IsTestOf : Tables → ℕ → Type 0
IsTestOf t n = (judged : List Judged) → AreCodesOf t judged → IsTestAt judged n 0

-- the code that bytes spell
abbrev pub code_spelled : List ℕ → List Instruction
code_spelled bytes = code_or_none (code_in bytes)

-- the strings and the codes of a story, as it is played
abbrev pub codes_told : Tables → Codes
codes_told t = record { strings = t.strings; codes = map code_spelled t.codes }
