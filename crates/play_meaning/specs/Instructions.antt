-- The instructions of a story's codes, one row each: the first byte, the arguments behind it, the operands that are taken,
-- the last pushed first, and the one that is given.
use Rattle.std.specs.Prelude.{ℕ, ◌+◌, ◌-◌, ◌==◌, ℤ, Bool, List, [], ◌∷◌, nat_lt, Option, None, Some, if◌then◌else◌}
use Rattle.world_meaning.specs.declared.place.Rel.{Rel}
use Rattle.play_meaning.specs.Trees.{Naming}
pub use Rattle.play_meaning.specs.declared.instruction.Asked.{Asked}
pub use Rattle.play_meaning.specs.declared.instruction.Asked.TheVariants.{IsFirst, IsSecond, IsNotFirst, IsNotSecond}
pub use Rattle.play_meaning.specs.declared.instruction.Instruction.{Instruction}
pub use Rattle.play_meaning.specs.declared.instruction.Instruction.TheVariants.{Num, Var, Prop, Turns, Add, Sub, Mul, Eq, Less, AtMost, Not, And, Or, Noun, Second, Location, Loop, Flag, Kind, Held, Holder, Encloses, Visible, Touchable, Dark, Happens, HasDescription, Room, Door, Valued, Count, Names, Say, Name, Figure, Description, SetFlag, SetProp, SetVar, PutAt, Move, Away, ValueName, SetValue, Try, Follow, IfZero, Jump, Begin, Next, EndStory, Done, NoDecision, Success, Failure, Answer}
use Rattle.play_meaning.specs.declared.operand.Sort.{Sort}
use Rattle.play_meaning.specs.declared.operand.Sort.TheVariants.{Number, Truth, Object}

-- what an argument says
pub data Argument : Type 0 where
  -- in four bytes
  Integer : ℤ → Argument
  -- in one byte: what is known of an object or the world, by its number
  Variable : ℕ → Argument
  NumberProperty : ℕ → Argument
  FlagProperty : ℕ → Argument
  KindOf : ℕ → Argument
  SceneOf : ℕ → Argument
  ActionOf : ℕ → Argument
  ValueKindOf : ℕ → Argument
  -- a loop by its number: one that is open, one that opens here, the innermost
  OpenLoopOf : ℕ → Argument
  NewLoop : ℕ → Argument
  Innermost : ℕ → Argument
  Relation : Rel → Argument
  Side : Asked → Argument
  Choice : Bool → Argument
  Form : Naming → Argument
  -- in two bytes
  ValueOf : ℕ → ℕ → Argument
  TestCode : ℕ → Argument
  StringOf : ℕ → Argument
  BookOf : ℕ → Argument
  Place : ℕ → Argument

-- how many bytes it takes
abbrev pub width : Argument → ℕ
width (Integer n) = 4
width (ValueOf q value) = 2
width (TestCode n) = 2
width (StringOf n) = 2
width (BookOf n) = 2
width (Place n) = 2
width _ = 1

abbrev pub widths : List Argument → ℕ
widths [] = 0
widths (a ∷ arguments) = width a + widths arguments

pub record Row : Type 0 where
  pub byte : ℕ
  pub arguments : List Argument
  pub takes : List Sort
  pub gives : Option Sort

abbrev pub row : ℕ → List Argument → List Sort → Option Sort → Row
row byte arguments takes gives = record { byte = byte; arguments = arguments; takes = takes; gives = gives }

-- what a number gives goes by the number, and what is compared by its sort
abbrev pub row_of : Instruction → Row
row_of (Num n) = row 0x01 (Integer n ∷ []) [] None
row_of (Var v) = row 0x02 (Variable v ∷ []) [] (Some Number)
row_of (Prop p) = row 0x03 (NumberProperty p ∷ []) (Object ∷ []) (Some Number)
row_of Turns = row 0x04 [] [] (Some Number)
row_of Add = row 0x05 [] (Number ∷ Number ∷ []) (Some Number)
row_of Sub = row 0x06 [] (Number ∷ Number ∷ []) (Some Number)
row_of Mul = row 0x07 [] (Number ∷ Number ∷ []) (Some Number)
row_of Eq = row 0x08 [] [] (Some Truth)
row_of Less = row 0x09 [] (Number ∷ Number ∷ []) (Some Truth)
row_of AtMost = row 0x0A [] (Number ∷ Number ∷ []) (Some Truth)
row_of Not = row 0x0B [] (Truth ∷ []) (Some Truth)
row_of And = row 0x0C [] (Truth ∷ Truth ∷ []) (Some Truth)
row_of Or = row 0x0D [] (Truth ∷ Truth ∷ []) (Some Truth)
row_of Noun = row 0x0E [] [] (Some Object)
row_of Second = row 0x0F [] [] (Some Object)
row_of Location = row 0x10 [] [] (Some Object)
row_of (Loop k) = row 0x11 (OpenLoopOf k ∷ []) [] (Some Object)
row_of (Flag p asked) = row 0x12 (FlagProperty p ∷ Side asked ∷ []) (Object ∷ []) (Some Truth)
row_of (Kind kind) = row 0x13 (KindOf kind ∷ []) (Object ∷ []) (Some Truth)
row_of (Held r) = row 0x14 (Relation r ∷ []) (Object ∷ Object ∷ []) (Some Truth)
row_of (Holder r) = row 0x15 (Relation r ∷ []) (Object ∷ []) (Some Object)
row_of Encloses = row 0x16 [] (Object ∷ Object ∷ []) (Some Truth)
row_of Visible = row 0x17 [] (Object ∷ []) (Some Truth)
row_of Touchable = row 0x18 [] (Object ∷ []) (Some Truth)
row_of Dark = row 0x19 [] [] (Some Truth)
row_of (Happens s) = row 0x1A (SceneOf s ∷ []) [] (Some Truth)
row_of HasDescription = row 0x1B [] (Object ∷ []) (Some Truth)
row_of Room = row 0x1C [] (Object ∷ Object ∷ []) (Some Object)
row_of Door = row 0x1D [] (Object ∷ Object ∷ []) (Some Object)
row_of (Valued q value) = row 0x1E (ValueOf q value ∷ []) (Object ∷ []) (Some Truth)
row_of (Count k test) = row 0x20 (NewLoop k ∷ TestCode test ∷ []) [] (Some Number)
row_of (Names naming k test) = row 0x21 (Form naming ∷ NewLoop k ∷ TestCode test ∷ []) [] None
row_of (Say s) = row 0x22 (StringOf s ∷ []) [] None
row_of (Name naming) = row 0x23 (Form naming ∷ []) (Object ∷ []) None
row_of Figure = row 0x24 [] (Number ∷ []) None
row_of Description = row 0x25 [] (Object ∷ []) None
row_of (SetFlag p value) = row 0x26 (FlagProperty p ∷ Choice value ∷ []) (Object ∷ []) None
row_of (SetProp p) = row 0x27 (NumberProperty p ∷ []) (Number ∷ Object ∷ []) None
row_of (SetVar v) = row 0x28 (Variable v ∷ []) (Number ∷ []) None
row_of (PutAt r) = row 0x29 (Relation r ∷ []) (Object ∷ Object ∷ []) None
row_of Move = row 0x2A [] (Object ∷ Object ∷ []) None
row_of Away = row 0x2B [] (Object ∷ []) None
row_of (ValueName q) = row 0x2C (ValueKindOf q ∷ []) (Object ∷ []) None
row_of (SetValue q value) = row 0x2D (ValueOf q value ∷ []) (Object ∷ []) None
row_of (Try silent action) = row 0x30 (Choice silent ∷ ActionOf action ∷ []) (Object ∷ Object ∷ []) None
row_of (Follow book) = row 0x31 (BookOf book ∷ []) [] None
row_of (IfZero place) = row 0x32 (Place place ∷ []) (Truth ∷ []) None
row_of (Jump place) = row 0x33 (Place place ∷ []) [] None
row_of (Begin k) = row 0x34 (NewLoop k ∷ []) [] None
row_of (Next k test exit) = row 0x35 (Innermost k ∷ TestCode test ∷ Place exit ∷ []) [] None
row_of (EndStory s) = row 0x36 (StringOf s ∷ []) [] None
row_of Done = row 0x37 [] [] None
row_of NoDecision = row 0x38 [] [] None
row_of Success = row 0x39 [] [] None
row_of Failure = row 0x3A [] [] None
row_of Answer = row 0x3B [] (Truth ∷ []) None

-- the first byte of an instruction
abbrev pub opcode : Instruction → ℕ
opcode i = (row_of i).byte

-- how many bytes an instruction takes
abbrev pub size_of : Instruction → ℕ
size_of i = 1 + widths (row_of i).arguments

abbrev pub sizes : List Instruction → ℕ
sizes [] = 0
sizes (i ∷ is) = size_of i + sizes is

-- the instruction that begins at a place of a code, counted in bytes
abbrev pub at_place : List Instruction → ℕ → Option Instruction
at_place [] place = None
at_place (i ∷ is) place = if place == 0 then Some i else if nat_lt place (size_of i) then None else at_place is (place - size_of i)
