-- What is emitted of trees: codes, and the tests that they name, as long as their bytes can say them.
use Rattle.std.specs.Prelude.{ℕ, ◌+◌, nat_lt, ◌&&◌, Bool, true, false, List, [], ◌∷◌, ◌++◌, length, Option, None, Some, if◌then◌else◌, slice_get, slice_set}
use Rattle.std.specs.List.{list_all}
use Rattle.play_meaning.specs.Instructions.{size_of, sizes}
use Rattle.play_meaning.specs.declared.instruction.Instruction.{Instruction}
use Rattle.play_meaning.specs.declared.instruction.Instruction.TheVariants.{Add, And, Begin, Count, Description, Figure, IfZero, Jump, Mul, Name, Names, Next, Or, Say, Sub, ValueName}
use Rattle.world_meaning.specs.declared.place.Rel.TheVariants.{Carried, Worn}
use Rattle.play_meaning.specs.Meant.{clause_meant, condition_meant, conjunction_meant, description_meant, number_meant, object_meant, pieces_meant, term_meant}
use Rattle.play_meaning.specs.Translation.{Emitted, Part, behind, choice, condition_part, held_code, number_part, object_code, one, seq, test_code, testing, text_part, these}
use Rattle.play_meaning.specs.declared.tree.condition.Clause.{Clause}
use Rattle.play_meaning.specs.declared.tree.condition.Conjunction.{Conjunction}
use Rattle.play_meaning.specs.declared.tree.number.Joined.{Joined}
use Rattle.play_meaning.specs.declared.tree.number.Operator.{Operator}
use Rattle.play_meaning.specs.declared.tree.number.Operator.TheVariants.{Minus, Plus, Times}
use Rattle.play_meaning.specs.declared.tree.said.Piece.{Piece}
use Rattle.play_meaning.specs.declared.tree.said.Piece.TheVariants as piece
use Rattle.play_meaning.specs.declared.tree.said.Said.{Said}
use Rattle.play_meaning.specs.declared.tree.said.Said.TheVariants as said
use Rattle.story_code.specs.Spelling.{can_spell}
use Rattle.story_code.specs.declared.emitting.tested.Tested.{Tested}
use Rattle.story_code.specs.declared.emitting.tested.Tested.TheVariants as tested

-- nine loops are open at most
abbrev pub opens_few : Instruction → Bool
opens_few (Begin k) = nat_lt k 9
opens_few i = true

-- a code's bytes are 65,535 at most, and say its arguments
abbrev pub can_say_code : List Instruction → Bool
can_say_code code = nat_lt (sizes code) 65536 && (list_all can_spell code && list_all opens_few code)

unfoldable pub can_say_all : Emitted → Bool
can_say_all e = can_say_code e.code && list_all can_say_code e.tests

-- the number of the first test, and what was emitted so far; none where it doesn't fit
pub record Emitting : Type 0 where
  pub first : ℕ
  pub kept : Option Emitted

abbrev pub kept_if : Bool → Emitted → Option Emitted
kept_if false e = None
kept_if true e = Some e

-- nothing so far
abbrev pub nothing_from : ℕ → Emitting
nothing_from first = record { first = first; kept = Some (record { code = []; tests = [] }) }

-- with a part behind
abbrev pub followed : ℕ → Emitted → Part → Emitted
followed first e part = behind e (part (first + length e.tests) (sizes e.code))

abbrev pub followed_if : ℕ → Part → Option Emitted → Option Emitted
followed_if first part None = None
followed_if first part (Some e) = let all = followed first e part in kept_if (can_say_all all) all

unfoldable pub emitted : Emitting → Part → Emitting
emitted s part = record { first = s.first; kept = followed_if s.first part s.kept }

-- the place behind an instruction, if bytes can say it there
abbrev pub place_behind : ℕ → Instruction → Option ℕ
place_behind place i = if nat_lt (place + size_of i) 65536 && (can_spell i && opens_few i) then Some (place + size_of i) else None

-- ---- jumps whose place is told later

abbrev pub aims : ℕ → Instruction → Instruction
aims to (IfZero place) = IfZero to
aims to (Jump place) = Jump to
aims to (Next k test exit) = Next k test to
aims to i = i

abbrev pub set_if : {A : Type 0} → List A → ℕ → (A → A) → Option A → List A
set_if xs at f None = xs
set_if xs at f (Some x) = slice_set xs at (f x)

-- the jump at this index leads to this place
unfoldable pub aimed_code : List Instruction → ℕ → ℕ → List Instruction
aimed_code code at to = set_if code at (aims to) (slice_get code at)

abbrev pub aimed_if : ℕ → ℕ → Option Emitted → Option Emitted
aimed_if at to None = None
aimed_if at to (Some e) = Some (record e { code = aimed_code e.code at to })

unfoldable pub aimed : ℕ → ℕ → Emitting → Emitting
aimed at to s = record { first = s.first; kept = aimed_if at to s.kept }

-- how many instructions, and bytes of them, were emitted so far
abbrev pub count_in : Option Emitted → ℕ
count_in None = 0
count_in (Some e) = length e.code

abbrev pub place_in : Option Emitted → ℕ
place_in None = 0
place_in (Some e) = sizes e.code

-- ---- tests that are named

-- an instruction that names a test, by the test's number
abbrev pub named : Tested → ℕ → Instruction
named (tested.Count k) test = Count k test
named (tested.Names naming k) test = Names naming k test
named (tested.Next k) test = Next k test 0

-- a test that nothing names yet
abbrev pub only_test : List Instruction → Part
only_test code test place = record { code = []; tests = code ∷ [] }

abbrev pub next_test_if : ℕ → Option Emitted → Option ℕ
next_test_if first None = None
next_test_if first (Some e) = if nat_lt (first + length e.tests) 65536 then Some (first + length e.tests) else None

-- the number of the next test, where two bytes can say it
abbrev pub next_test : Emitting → Option ℕ
next_test s = next_test_if s.first s.kept

-- ---- what is joined again and again

abbrev pub operator_code : Operator → Instruction
operator_code Plus = Add
operator_code Minus = Sub
operator_code Times = Mul

-- whether what the first code gives carries or wears what the second gives
abbrev pub has_code : List Instruction → List Instruction → List Instruction
has_code holder o = held_code o Carried holder ++ held_code o Worn holder ++ Or ∷ []

-- terms one behind the other
abbrev pub terms_emitted : ℕ → Emitting → List Joined → Emitting
terms_emitted k s [] = s
terms_emitted k s (joined ∷ rest) = terms_emitted k (emitted s (number_part k (term_meant joined.term))) rest

-- what joins them, the last first
abbrev pub operators_emitted : Emitting → List Joined → Emitting
operators_emitted s [] = s
operators_emitted s (joined ∷ rest) = emitted (operators_emitted s rest) (one (operator_code joined.operator))

-- clauses, each with the `and` that joins it to what stands before
abbrev pub clauses_emitted : ℕ → Emitting → List Clause → Emitting
clauses_emitted k s [] = s
clauses_emitted k s (clause ∷ rest) = clauses_emitted k (emitted (emitted s (condition_part k (clause_meant clause))) (one And)) rest

abbrev pub conjunctions_emitted : ℕ → Emitting → List Conjunction → Emitting
conjunctions_emitted k s [] = s
conjunctions_emitted k s (conjunction ∷ rest) = conjunctions_emitted k (emitted (emitted s (condition_part k (conjunction_meant conjunction))) (one Or)) rest

-- ---- texts

-- a piece of a text
abbrev pub piece_part : (List ℕ → ℕ) → ℕ → Piece → Part
piece_part string k (piece.Bytes bytes) = one (Say (string bytes))
piece_part string k (piece.Figure number) = seq (number_part k (number_meant number)) (one Figure)
piece_part string k (piece.Name naming o) = these (object_code (object_meant o) ++ Name naming ∷ [])
piece_part string k (piece.Listing naming description) = testing (Names naming k) (test_code k (description_meant description))
piece_part string k (piece.DescriptionOf o) = these (object_code (object_meant o) ++ Description ∷ [])
piece_part string k (piece.ValueName q o) = these (object_code (object_meant o) ++ ValueName q ∷ [])

-- a piece, or what is said by a condition
abbrev pub said_part : (List ℕ → ℕ) → ℕ → Said → Part
said_part string k (said.Plain piece) = piece_part string k piece
said_part string k (said.If condition pieces others) =
    choice (condition_part k (condition_meant condition)) (text_part string k (pieces_meant pieces.items)) (text_part string k (pieces_meant others.items))
