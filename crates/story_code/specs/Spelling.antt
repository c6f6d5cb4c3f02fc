-- How codes are spelled: each instruction's byte, then its arguments, a number's high byte first.
use Rattle.std.specs.Prelude.{◌≡◌, ℕ, ℤ, pos, negsuc, nat_lt, Bool, true, false, List, [], ◌∷◌, ◌++◌}
use Rattle.std.specs.Int.{w16, w32, cast_unsigned, to_be_bytes}
use Rattle.std.specs.List.{list_all}
use Rattle.play_meaning.specs.Instructions.{ActionOf, Argument, BookOf, Choice, FlagProperty, Form, Innermost, Integer, KindOf, NewLoop, NumberProperty, OpenLoopOf, Place, Relation, SceneOf, Side, StringOf, TestCode, ValueKindOf, ValueOf, Variable, row_of}
use Rattle.play_meaning.specs.declared.instruction.Asked.{Asked}
use Rattle.play_meaning.specs.declared.instruction.Asked.TheVariants.{IsFirst, IsNotFirst, IsNotSecond, IsSecond}
use Rattle.play_meaning.specs.declared.instruction.Instruction.{Instruction}
use Rattle.play_meaning.specs.declared.naming.Naming.{Naming}
use Rattle.play_meaning.specs.declared.naming.Naming.TheVariants.{CapitalDefinite, CapitalIndefinite, Definite, Indefinite, Plain}
use Rattle.world_meaning.specs.Relations.{relation_number}

abbrev pub side_number : Asked → ℕ
side_number IsSecond = 0
side_number IsFirst = 1
side_number IsNotSecond = 2
side_number IsNotFirst = 3

abbrev pub form_number : Naming → ℕ
form_number Plain = 0
form_number Definite = 1
form_number CapitalDefinite = 2
form_number Indefinite = 3
form_number CapitalIndefinite = 4

abbrev pub choice_number : Bool → ℕ
choice_number false = 0
choice_number true = 1

abbrev pub argument_bytes : Argument → List ℕ
argument_bytes (Integer n) = to_be_bytes w32 (cast_unsigned w32 n)
argument_bytes (Variable n) = n ∷ []
argument_bytes (NumberProperty n) = n ∷ []
argument_bytes (FlagProperty n) = n ∷ []
argument_bytes (KindOf n) = n ∷ []
argument_bytes (SceneOf n) = n ∷ []
argument_bytes (ActionOf n) = n ∷ []
argument_bytes (ValueKindOf n) = n ∷ []
argument_bytes (OpenLoopOf n) = n ∷ []
argument_bytes (NewLoop n) = n ∷ []
argument_bytes (Innermost n) = n ∷ []
argument_bytes (Relation r) = relation_number r ∷ []
argument_bytes (Side asked) = side_number asked ∷ []
argument_bytes (Choice value) = choice_number value ∷ []
argument_bytes (Form naming) = form_number naming ∷ []
argument_bytes (ValueOf q value) = q ∷ value ∷ []
argument_bytes (TestCode n) = to_be_bytes w16 n
argument_bytes (StringOf n) = to_be_bytes w16 n
argument_bytes (BookOf n) = to_be_bytes w16 n
argument_bytes (Place n) = to_be_bytes w16 n

abbrev pub arguments_bytes : List Argument → List ℕ
arguments_bytes [] = []
arguments_bytes (a ∷ arguments) = argument_bytes a ++ arguments_bytes arguments

abbrev pub spelled : Instruction → List ℕ
spelled i = (row_of i).byte ∷ arguments_bytes (row_of i).arguments

-- the bytes of a code
abbrev pub spelling : List Instruction → List ℕ
spelling [] = []
spelling (i ∷ is) = spelled i ++ spelling is

-- from -2147483648 to 2147483647
abbrev pub is_integer : ℤ → Bool
is_integer (pos n) = nat_lt n 2147483648
is_integer (negsuc n) = nat_lt n 2147483648

-- its bytes can say an argument: an integer has thirty-two bits, a number of two bytes is below 65,536
abbrev pub can_say : Argument → Bool
can_say (Integer n) = is_integer n
can_say (TestCode n) = nat_lt n 65536
can_say (StringOf n) = nat_lt n 65536
can_say (BookOf n) = nat_lt n 65536
can_say (Place n) = nat_lt n 65536
can_say argument = true

abbrev pub can_spell : Instruction → Bool
can_spell i = list_all can_say (row_of i).arguments

-- bytes spell a code
pub record Spells (bytes : List ℕ) (code : List Instruction) : Type 0 where
  pub whole : bytes ≡ spelling code
  pub each : list_all can_spell code ≡ true

-- the bytes of an instruction stand in front of others
pub record IsFront (i : Instruction) (bytes : List ℕ) : Type 0 where
  pub rest : List ℕ
  pub cut : bytes ≡ spelled i ++ rest
  pub can : can_spell i ≡ true

abbrev pub HasNoFront : List ℕ → Type 0
HasNoFront bytes = (i : Instruction) → IsFront i bytes → ⊥
