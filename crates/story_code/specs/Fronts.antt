-- The instruction at the front of bytes, and the code that they spell, as functions on lists: what the reader is proved equal
-- to. That they are right by what is spelled is proved.
use Rattle.std.specs.Prelude.{ℕ, zero, suc, ◌==◌, ◌||◌, Bool, true, false, List, [], ◌∷◌, length, drop, Option, Some, None, if◌then◌else◌}
use Rattle.std.specs.Option.{option_map}
use Rattle.std.specs.Int.{w16, w32, cast_signed, from_be_bytes}
use Rattle.world_meaning.specs.declared.place.Rel.{Rel}
use Rattle.world_meaning.specs.declared.place.Rel.TheVariants.{In, On, Carried, Worn, Part}
use Rattle.play_meaning.specs.Instructions.{opcode, size_of}
use Rattle.play_meaning.specs.declared.instruction.Asked.{Asked}
use Rattle.play_meaning.specs.declared.instruction.Asked.TheVariants.{IsFirst, IsNotFirst, IsNotSecond, IsSecond}
use Rattle.play_meaning.specs.declared.instruction.Instruction.{Instruction}
use Rattle.play_meaning.specs.declared.instruction.Instruction.TheVariants.{Add, And, Answer, AtMost, Away, Begin, Count, Dark, Description, Done, Door, Encloses, EndStory, Eq, Failure, Figure, Flag, Follow, Happens, HasDescription, Held, Holder, IfZero, Jump, Kind, Less, Location, Loop, Move, Mul, Name, Names, Next, NoDecision, Not, Noun, Num, Or, Prop, PutAt, Room, Say, Second, SetFlag, SetProp, SetValue, SetVar, Sub, Success, Touchable, Try, Turns, Valued, ValueName, Var, Visible}
use Rattle.play_meaning.specs.declared.naming.Naming.{Naming}
use Rattle.play_meaning.specs.declared.naming.Naming.TheVariants.{CapitalDefinite, CapitalIndefinite, Definite, Indefinite, Plain}

-- ---- arguments of one byte

abbrev pub relation_of : ℕ → Option Rel
relation_of b =
    if b == 0 then Some In
    else if b == 1 then Some On
    else if b == 2 then Some Carried
    else if b == 3 then Some Worn
    else if b == 4 then Some Part
    else None

abbrev pub side_of : ℕ → Option Asked
side_of b =
    if b == 0 then Some IsSecond
    else if b == 1 then Some IsFirst
    else if b == 2 then Some IsNotSecond
    else if b == 3 then Some IsNotFirst
    else None

abbrev pub form_of : ℕ → Option Naming
form_of b =
    if b == 0 then Some Plain
    else if b == 1 then Some Definite
    else if b == 2 then Some CapitalDefinite
    else if b == 3 then Some Indefinite
    else if b == 4 then Some CapitalIndefinite
    else None

abbrev pub choice_of : ℕ → Option Bool
choice_of b = if b == 0 then Some false else if b == 1 then Some true else None

-- ---- instructions by the arguments that they have

abbrev pub first_with : ℕ → List Instruction → Option Instruction
first_with b [] = None
first_with b (i ∷ is) = if opcode i == b then Some i else first_with b is

abbrev pub plain_ones : List Instruction
plain_ones =
    Turns ∷ Add ∷ Sub ∷ Mul ∷ Eq ∷ Less ∷ AtMost ∷ Not ∷ And ∷ Or ∷ Noun ∷ Second ∷ Location ∷ Encloses ∷ Visible
    ∷ Touchable ∷ Dark ∷ HasDescription ∷ Room ∷ Door ∷ Figure ∷ Description ∷ Move ∷ Away ∷ Done ∷ NoDecision
    ∷ Success ∷ Failure ∷ Answer ∷ []

-- with a number of one byte, with two of them, with one of two bytes
abbrev pub with_byte : ℕ → List Instruction
with_byte n = Var n ∷ Prop n ∷ Loop n ∷ Kind n ∷ Happens n ∷ SetProp n ∷ SetVar n ∷ ValueName n ∷ Begin n ∷ []

abbrev pub with_pair : ℕ → ℕ → List Instruction
with_pair q value = Valued q value ∷ SetValue q value ∷ []

abbrev pub with_word : ℕ → List Instruction
with_word n = Say n ∷ Follow n ∷ IfZero n ∷ Jump n ∷ EndStory n ∷ []

abbrev pub with_relation : Rel → List Instruction
with_relation r = Held r ∷ Holder r ∷ PutAt r ∷ []

abbrev pub word_of : ℕ → ℕ → ℕ
word_of high low = from_be_bytes w16 (high ∷ low ∷ [])

abbrev pub by_byte : ℕ → List ℕ → Option Instruction
by_byte b [] = None
by_byte b (n ∷ rest) = first_with b (with_byte n)

abbrev pub by_pair : ℕ → List ℕ → Option Instruction
by_pair b [] = None
by_pair b (q ∷ []) = None
by_pair b (q ∷ value ∷ rest) = first_with b (with_pair q value)

abbrev pub by_word : ℕ → List ℕ → Option Instruction
by_word b [] = None
by_word b (high ∷ []) = None
by_word b (high ∷ low ∷ rest) = first_with b (with_word (word_of high low))

abbrev pub first_related : ℕ → Option Rel → Option Instruction
first_related b None = None
first_related b (Some r) = first_with b (with_relation r)

abbrev pub by_relation : ℕ → List ℕ → Option Instruction
by_relation b [] = None
by_relation b (r ∷ rest) = first_related b (relation_of r)

-- ---- instructions with arguments of their own

abbrev pub integer_in : List ℕ → Option Instruction
integer_in (a ∷ b ∷ c ∷ d ∷ rest) = Some (Num (cast_signed w32 (from_be_bytes w32 (a ∷ b ∷ c ∷ d ∷ []))))
integer_in _ = None

abbrev pub flag_in : List ℕ → Option Instruction
flag_in (p ∷ asked ∷ rest) = option_map (Flag p) (side_of asked)
flag_in _ = None

abbrev pub set_flag_in : List ℕ → Option Instruction
set_flag_in (p ∷ value ∷ rest) = option_map (SetFlag p) (choice_of value)
set_flag_in _ = None

abbrev pub count_in : List ℕ → Option Instruction
count_in (k ∷ high ∷ low ∷ rest) = Some (Count k (word_of high low))
count_in _ = None

abbrev pub names_in : List ℕ → Option Instruction
names_in (form ∷ k ∷ high ∷ low ∷ rest) = option_map (λ naming. Names naming k (word_of high low)) (form_of form)
names_in _ = None

abbrev pub name_in : List ℕ → Option Instruction
name_in (form ∷ rest) = option_map Name (form_of form)
name_in _ = None

abbrev pub try_in : List ℕ → Option Instruction
try_in (silent ∷ action ∷ rest) = option_map (λ silently. Try silently action) (choice_of silent)
try_in _ = None

abbrev pub next_in : List ℕ → Option Instruction
next_in (k ∷ high ∷ low ∷ exit_high ∷ exit_low ∷ rest) = Some (Next k (word_of high low) (word_of exit_high exit_low))
next_in _ = None

-- ---- any instruction

abbrev pub has_relation : ℕ → Bool
has_relation b = (b == 0x14) || (b == 0x15) || (b == 0x29)

abbrev pub has_word : ℕ → Bool
has_word b = (b == 0x22) || (b == 0x31) || (b == 0x32) || (b == 0x33) || (b == 0x36)

abbrev pub has_byte : ℕ → Bool
has_byte b = (b == 0x02) || (b == 0x03) || (b == 0x11) || (b == 0x13) || (b == 0x1A) || (b == 0x27) || (b == 0x28) || (b == 0x2C) || (b == 0x34)

abbrev pub has_pair : ℕ → Bool
has_pair b = (b == 0x1E) || (b == 0x2D)

-- an instruction without arguments, or with one of a sort that others have
unfoldable pub common_in : ℕ → List ℕ → Option Instruction
common_in b rest =
    if has_relation b then by_relation b rest
    else if has_word b then by_word b rest
    else if has_byte b then by_byte b rest
    else if has_pair b then by_pair b rest
    else first_with b plain_ones

unfoldable pub front_by : ℕ → List ℕ → Option Instruction
front_by b rest =
    if b == 0x01 then integer_in rest
    else if b == 0x12 then flag_in rest
    else if b == 0x20 then count_in rest
    else if b == 0x21 then names_in rest
    else if b == 0x23 then name_in rest
    else if b == 0x26 then set_flag_in rest
    else if b == 0x30 then try_in rest
    else if b == 0x35 then next_in rest
    else common_in b rest

-- the instruction at the front of bytes
abbrev pub front : List ℕ → Option Instruction
front [] = None
front (b ∷ rest) = front_by b rest

-- ---- codes

abbrev pub with_first : Instruction → Option (List Instruction) → Option (List Instruction)
with_first i None = None
with_first i (Some is) = Some (i ∷ is)

abbrev pub read_on : Option Instruction → (Instruction → Option (List Instruction)) → Option (List Instruction)
read_on None more = None
read_on (Some i) more = with_first i (more i)

-- as many instructions as this at most
abbrev pub read_within : ℕ → List ℕ → Option (List Instruction)
read_within n [] = Some []
read_within zero (b ∷ bytes) = None
read_within (suc n) (b ∷ bytes) = read_on (front (b ∷ bytes)) (λ i. read_within n (drop (size_of i) (b ∷ bytes)))

-- the code that bytes spell
unfoldable pub code_in : List ℕ → Option (List Instruction)
code_in bytes = read_within (length bytes) bytes
