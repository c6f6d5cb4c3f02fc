-- What instructions take and give, what their arguments name, and in which codes they may stand.
use Rattle.std.specs.Prelude.{ℕ, ◌+◌, ℤ, pos, negsuc, int_le, int_lt, nat_le, nat_lt, ◌==◌, Bool, true, false, ◌&&◌, ◌||◌, List, [], ◌∷◌, length, Option, None, Some, slice_index_or, if◌then◌else◌}
use Rattle.std.specs.List.{list_all}
use Rattle.play_meaning.specs.Instructions.{ActionOf, Argument, BookOf, Eq, FlagProperty, Innermost, Instruction, KindOf, NewLoop, Num, NumberProperty, OpenLoopOf, SceneOf, StringOf, TestCode, ValueKindOf, ValueOf, Variable, opcode, row_of}
pub use Rattle.play_meaning.specs.declared.operand.Counts.{Counts}
pub use Rattle.play_meaning.specs.declared.operand.Sort.{Sort}
pub use Rattle.play_meaning.specs.declared.operand.Sort.TheVariants.{Number, NumberOrObject, Object, Truth}
pub use Rattle.play_meaning.specs.declared.operand.Use.{Use}
pub use Rattle.play_meaning.specs.declared.operand.Use.TheVariants.{Body, Describing, Test}

-- ---- operands

abbrev pub serves : Sort → Sort → Bool
serves NumberOrObject Number = true
serves NumberOrObject Truth = false
serves NumberOrObject Object = true
serves NumberOrObject NumberOrObject = true
serves Number Number = true
serves Truth Truth = true
serves Object Object = true
serves _ _ = false

-- of one sort: two numbers, two truths, two objects
abbrev pub are_alike : Sort → Sort → Bool
are_alike a b = (serves a Number && serves b Number) || (serves a Truth && serves b Truth) || (serves a Object && serves b Object)

-- what an instruction takes, the last pushed first
abbrev pub takes : Instruction → List Sort
takes i = (row_of i).takes

abbrev pub is_object : Counts → ℤ → Bool
is_object z n = int_le (negsuc 0) n && int_lt n (pos z.objects)

-- what an instruction gives; a number that stands in a code may be an object too
abbrev pub gives : Counts → Instruction → Option Sort
gives z (Num n) = if is_object z n then Some NumberOrObject else Some Number
gives z i = (row_of i).gives

abbrev pub below : List Sort → List Sort → Option (List Sort)
below [] sorts = Some sorts
below (wanted ∷ more) [] = None
below (wanted ∷ more) (sort ∷ sorts) = if serves sort wanted then below more sorts else None

-- no more than sixty-four operands
abbrev pub with_given : Option Sort → Option (List Sort) → Option (List Sort)
with_given given None = None
with_given None (Some sorts) = Some sorts
with_given (Some sort) (Some sorts) = if nat_lt (length sorts) 64 then Some (sort ∷ sorts) else None

-- `eq` takes two of one sort
abbrev pub behind_eq : List Sort → Option (List Sort)
behind_eq (b ∷ a ∷ sorts) = if are_alike a b then Some sorts else None
behind_eq _ = None

-- the operands under those that an instruction takes; none where it lacks its own
abbrev pub taken_from : Instruction → List Sort → Option (List Sort)
taken_from Eq sorts = behind_eq sorts
taken_from i sorts = below (takes i) sorts

-- the operands behind an instruction
unfoldable pub operands_behind : Counts → Instruction → List Sort → Option (List Sort)
operands_behind z i sorts = with_given (gives z i) (taken_from i sorts)

-- ---- arguments

-- a test has a greater number than the code that names it
abbrev pub is_test : Counts → ℕ → Bool
is_test z n = nat_lt z.own n && nat_lt n z.codes

-- a loop's number is the count of those that are open around it, eight at most
abbrev pub may_open : ℕ → ℕ → Bool
may_open depth k = (k == depth) && nat_lt depth 9

-- what an argument names is there, inside so many loops
abbrev pub is_there : Counts → ℕ → Argument → Bool
is_there z depth (Variable v) = nat_lt v z.variables
is_there z depth (NumberProperty p) = nat_lt p z.numbers
is_there z depth (FlagProperty p) = nat_lt p z.flags
is_there z depth (KindOf kind) = nat_lt kind z.kinds
is_there z depth (SceneOf scene) = nat_lt scene z.scenes
is_there z depth (ActionOf action) = nat_lt action z.actions
is_there z depth (ValueKindOf q) = nat_lt 0 (slice_index_or z.values q 0)
is_there z depth (ValueOf q value) = nat_lt value (slice_index_or z.values q 0)
is_there z depth (OpenLoopOf k) = nat_lt k depth
is_there z depth (NewLoop k) = may_open depth k
is_there z depth (Innermost k) = k + 1 == depth
is_there z depth (TestCode test) = is_test z test
is_there z depth (StringOf string) = nat_lt string z.strings
is_there z depth (BookOf book) = nat_lt book z.books
is_there z depth argument = true

-- each argument names something that is there, inside so many loops
unfoldable pub names_what_is_there : Counts → ℕ → Instruction → Bool
names_what_is_there z depth i = list_all (is_there z depth) (row_of i).arguments

-- ---- what a code is for

abbrev pub is_from_to : ℕ → ℕ → Instruction → Bool
is_from_to first last i = nat_le first (opcode i) && nat_le (opcode i) last

-- a test asks, and answers; a description asks and says, and has ways forward; a body does all but answer
unfoldable pub may_hold : Use → Instruction → Bool
may_hold (Test loops) i = is_from_to 0x01 0x20 i || is_from_to 0x3B 0x3B i
may_hold Describing i = is_from_to 0x01 0x24 i || is_from_to 0x2C 0x2C i || is_from_to 0x32 0x33 i || is_from_to 0x37 0x37 i
may_hold Body i = is_from_to 0x01 0x3A i
