-- The states that a run of a sound code may come to: what its label says of a place holds of them.
use Rattle.std.specs.Prelude.{◌≡◌, ◌+◌, ◌<◌, ℤ, pos, negsuc, int_le, int_lt, Bool, true, false, ◌&&◌, List, [], ◌∷◌, length, Option, Some, is_some}
use Rattle.play_meaning.specs.Instructions.{Eq, Instruction}
use Rattle.play_meaning.specs.Machines.{State}
use Rattle.play_meaning.specs.Operands.{Body, Counts, Number, NumberOrObject, Object, Sort, Truth, Use, gives, may_hold, names_what_is_there, takes}
use Rattle.play_meaning.specs.SoundCodes.{IsPlace, IsSound, loops_around}

abbrev pub is_body : Use → Bool
is_body Body = true
is_body _ = false

-- ---- operands

-- an object's number has two bytes; -1 is the number of nothing
abbrev pub is_object_number : ℤ → Bool
is_object_number a = int_le (negsuc 0) a && int_lt a (pos 65536)

-- a number may be taken as an operand of a sort
abbrev pub Serves : Sort → ℤ → Type 0
Serves Number a = Unit {0}
Serves Truth a = Unit {0}
Serves Object a = is_object_number a ≡ true
Serves NumberOrObject a = is_object_number a ≡ true

-- as many as the sorts, each of its sort
abbrev pub AreOf : List Sort → List ℤ → Type 0
AreOf [] [] = Unit {0}
AreOf [] (a ∷ operands) = ⊥
AreOf (sort ∷ sorts) [] = ⊥
AreOf (sort ∷ sorts) (a ∷ operands) = Serves sort a × AreOf sorts operands

-- these are on top, the last pushed first
abbrev pub HasOnTop : List Sort → List ℤ → Type 0
HasOnTop [] operands = Unit {0}
HasOnTop (sort ∷ sorts) [] = ⊥
HasOnTop (sort ∷ sorts) (a ∷ operands) = Serves sort a × HasOnTop sorts operands

abbrev pub taken_by : Instruction → List Sort
taken_by Eq = Number ∷ Number ∷ []
taken_by i = takes i

-- an object that is given has an object's number
abbrev pub GivesObject : Option Sort → List ℤ → Type 0
GivesObject (Some Object) (a ∷ operands) = is_object_number a ≡ true
GivesObject given operands = Unit {0}

-- ---- states

-- a state of a run, as the labels say; only a body opens loops
pub record StandsBy {z : Counts} {role : Use} {code : List Instruction} (sound : IsSound z role code) (s : State) : Type 0 where
  pub place : IsPlace (record { code = code; at = sound.at }) s.place
  pub operands : AreOf (sound.at s.place).operands s.operands
  pub loops : length s.loops ≡ loops_around role + length (sound.at s.place).loops
  pub unlooped : is_body role ≡ false → (sound.at s.place).loops ≡ []

-- what an instruction finds there: its use allows it, what it names is there, and so are its operands and the room for
-- what it gives
pub record Finds (z : Counts) (role : Use) (i : Instruction) (s : State) : Type 0 where
  pub allowed : may_hold role i ≡ true
  pub named : names_what_is_there z (length s.loops) i ≡ true
  pub operands : HasOnTop (taken_by i) s.operands
  pub room : is_some (gives z i) ≡ true → length s.operands < 64 + length (taken_by i)
