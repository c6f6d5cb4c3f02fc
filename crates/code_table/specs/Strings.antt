-- The strings that codes name: each of those from a number on is named for the first time behind the one before it.
use Rattle.std.specs.Prelude.{ℕ, ◌+◌, max, nat_le, List, [], ◌∷◌, Option, None, Some, if◌then◌else◌}
use Rattle.std.specs.List.{flat_map}
use Rattle.play_meaning.specs.TranslatedScripts.{in_list}
use Rattle.play_meaning.specs.declared.instruction.Instruction.{Instruction}
use Rattle.play_meaning.specs.declared.instruction.Instruction.TheVariants.{EndStory, Say}

abbrev pub string_named : Instruction → Option ℕ
string_named (Say string) = Some string
string_named (EndStory string) = Some string
string_named _ = None

-- the strings that a code names, in order
abbrev pub strings_in : List Instruction → List ℕ
strings_in code = flat_map (λ i. in_list (string_named i)) code

abbrev pub strings_of : List (List Instruction) → List ℕ
strings_of codes = flat_map strings_in codes

-- how many strings there are, if there are so many in front of those that are named, and each of these is among them or is the
-- next
abbrev pub counted_on : ℕ → List ℕ → Option ℕ
counted_on next [] = Some next
counted_on next (string ∷ strings) = if nat_le string next then counted_on (max next (string + 1)) strings else None
