-- Whether a code names tests for what they are, as functions: what the code is proved equal to.
use Rattle.std.specs.Prelude.{ℕ, ◌+◌, ◌==◌, nat_lt, Bool, true, false, ◌&&◌, List, length, Option, None, Some, slice_get}
use Rattle.std.specs.List.{list_all}
use Rattle.play_meaning.specs.declared.instruction.Instruction.{Instruction}
use Rattle.play_meaning.specs.declared.operand.Use.{Use}
use Rattle.play_meaning.specs.declared.operand.Use.TheVariants.{Test}
use Rattle.story_code.specs.Fronts.{code_in}
use Rattle.story_code.specs.Runs.{test_named}
use Rattle.story_code.specs.Soundness.{Judged}

abbrev pub is_inside : ℕ → Use → Bool
is_inside loops (Test around) = around == loops
is_inside loops role = false

abbrev pub is_test_inside : ℕ → Option Judged → Bool
is_test_inside loops None = false
is_test_inside loops (Some j) = is_inside loops j.sizes.role

abbrev pub is_test_of : List Judged → Option (ℕ × ℕ) → Bool
is_test_of judged None = true
is_test_of judged (Some named) = is_test_inside (named.0 + 1) (slice_get judged named.1)

abbrev pub names_its_test : List Judged → Instruction → Bool
names_its_test judged i = is_test_of judged (test_named i)

abbrev pub name_their_tests : List Judged → Option (List Instruction) → Bool
name_their_tests judged None = false
name_their_tests judged (Some code) = list_all (names_its_test judged) code

abbrev pub is_one_of : List Judged → ℕ → Judged → Bool
is_one_of judged n j =
    nat_lt j.sizes.counts.objects 65536 && ((j.sizes.counts.own == n) && ((j.sizes.counts.codes == length judged) && name_their_tests judged (code_in j.bytes)))
