-- What instructions give that ask of a world, as functions of what they take: what the code is proved equal to.
use Rattle.std.specs.Prelude.{ℕ, ℤ, pos, ◌+ℤ◌, ◌-ℤ◌, ◌*ℤ◌, int_le, int_lt, Bool, false, not, ◌&&◌, ◌||◌, List, Option, None, slice_index_or}
use Rattle.std.specs.Ordering.{int_eq}
use Rattle.play_meaning.specs.Machines.{is_asked, is_true, truth_number}
use Rattle.play_meaning.specs.Seeing.{encloses, has_light, is_touchable, is_visible}
use Rattle.play_meaning.specs.Settings.{Setting}
use Rattle.play_meaning.specs.Truth.{of_both, of_some}
use Rattle.play_meaning.specs.Values.{beyond, has_value, is_held}
use Rattle.play_meaning.specs.Worlds.{World, location_of, scene_of, variable_of}
use Rattle.play_meaning.specs.declared.action.ActionNow.{ActionNow}
use Rattle.play_meaning.specs.declared.instruction.Instruction.{Instruction}
use Rattle.play_meaning.specs.declared.instruction.Instruction.TheVariants.{Add, And, AtMost, Dark, Door, Encloses, Eq, Flag, Happens, HasDescription, Held, Kind, Less, Location, Loop, Mul, Noun, Num, Or, Room, Second, Sub, Touchable, Turns, Valued, Var, Visible}

-- a number or a truth, of no operand
abbrev pub known : Setting → World → Instruction → ℤ
known s w (Num n) = n
known s w (Var v) = variable_of w v
known s w Turns = pos w.turns
known s w Dark = truth_number (not (has_light s w))
known s w (Happens scene) = truth_number (scene_of w scene).happens
known s w i = pos 0

-- an object, of no operand
abbrev pub object_known : World → ActionNow → List (Option ℕ) → Instruction → Option ℕ
object_known w now loops Noun = now.noun
object_known w now loops Second = now.second
object_known w now loops Location = location_of w
object_known w now loops (Loop k) = slice_index_or loops k None
object_known w now loops i = None

-- whether an object is what is asked
abbrev pub holds_of : Setting → World → Instruction → ℕ → Bool
holds_of s w (Kind kind) o = s.is_of o kind
holds_of s w Visible o = is_visible s w o
holds_of s w Touchable o = is_touchable s w o
holds_of s w HasDescription o = s.has_description o
holds_of s w (Valued q value) o = has_value s w q value o
holds_of s w i o = false

-- a truth, of one object
abbrev pub of_object : Setting → World → Instruction → Option ℕ → ℤ
of_object s w (Flag p asked) o = truth_number (is_asked s w p asked o)
of_object s w i o = truth_number (of_some o (holds_of s w i))

-- a truth, of two numbers or truths
abbrev pub of_numbers : Instruction → ℤ → ℤ → ℤ
of_numbers Eq a b = truth_number (int_eq a b)
of_numbers Less a b = truth_number (int_lt a b)
of_numbers AtMost a b = truth_number (int_le a b)
of_numbers And a b = truth_number (is_true a && is_true b)
of_numbers Or a b = truth_number (is_true a || is_true b)
of_numbers i a b = pos 0

-- a truth, of two objects
abbrev pub of_objects : World → Instruction → Option ℕ → Option ℕ → ℤ
of_objects w (Held r) o holder = truth_number (of_some o (is_held w r holder))
of_objects w Encloses a b = truth_number (of_both a b (encloses w))
of_objects w i a b = pos 0

-- a place, of a direction and a room
abbrev pub beyond_in : Setting → Instruction → Option ℕ → Option ℕ → Option ℕ
beyond_in s Room direction room = beyond s s.room_beyond direction room
beyond_in s Door direction room = beyond s s.door_beyond direction room
beyond_in s i direction room = None

-- a sum, a difference, a product
abbrev pub calculated : Instruction → ℤ → ℤ → ℤ
calculated Add a b = a +ℤ b
calculated Sub a b = a -ℤ b
calculated Mul a b = a *ℤ b
calculated i a b = pos 0
