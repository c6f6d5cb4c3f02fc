-- Which codes are sound: each place has its operands and its open loops, whatever way leads there.
use Rattle.std.specs.Prelude.{◌≡◌, ◌⊎◌, ℕ, ◌+◌, ◌<◌, ◌≤◌, true, List, [], ◌∷◌, length, Some}
use Rattle.play_meaning.specs.Instructions.{Answer, Begin, Done, Failure, IfZero, Instruction, Jump, Next, NoDecision, Success, at_place, size_of, sizes}
use Rattle.play_meaning.specs.Operands.{Body, Counts, Describing, Sort, Test, Use, may_hold, names_what_is_there, operands_behind}
pub use Rattle.play_meaning.specs.declared.way.OpenLoop.{OpenLoop}
pub use Rattle.play_meaning.specs.declared.way.Way.{Way}
pub use Rattle.play_meaning.specs.declared.way.Way.TheVariants.{Branch, Ends, Leap, Opens, Straight, Turns}

-- what is known at a place: the operands, the last pushed first, and the open loops, the innermost first
pub record Label : Type 0 where
  pub operands : List Sort
  pub loops : List OpenLoop

abbrev pub bare : List OpenLoop → Label
bare loops = record { operands = []; loops = loops }

-- a code, and what is known at each of its places
pub record Labelled : Type 0 where
  pub code : List Instruction
  pub at : ℕ → Label

abbrev pub loops_around : Use → ℕ
loops_around (Test loops) = loops
loops_around Describing = 0
loops_around Body = 0

-- ---- ways

abbrev pub way_of : Instruction → Way
way_of (IfZero place) = Branch place
way_of (Jump place) = Leap place
way_of (Begin k) = Opens
way_of (Next k test exit) = Turns exit
way_of Done = Ends
way_of NoDecision = Ends
way_of Success = Ends
way_of Failure = Ends
way_of Answer = Ends
way_of _ = Straight

abbrev pub IsPlace : Labelled → ℕ → Type 0
IsPlace c place = (i : Instruction) × (at_place c.code place ≡ Some i)

-- an instruction stands there, and this is known of its place
abbrev pub LeadsTo : Labelled → ℕ → Label → Type 0
LeadsTo c place label = IsPlace c place × (c.at place ≡ label)

-- what stands behind one that has no way on is inside the same loops
abbrev pub GoesOnInside : Labelled → ℕ → List OpenLoop → Type 0
GoesOnInside c place loops = c.at place ≡ bare loops

-- a jump leads further on inside the same loops, or back to the next turn of the innermost loop, whose exit stands right
-- behind it
abbrev pub LeapsTo : Labelled → ℕ → ℕ → ℕ → List OpenLoop → Type 0
LeapsTo c place behind to loops =
    LeadsTo c to (bare loops)
    × (((place < to) × GoesOnInside c behind loops)
    ⊎ ((to ≤ place) × ((outer : List OpenLoop) × ((loops ≡ record { head = to; exit = behind } ∷ outer) × LeadsTo c behind (bare outer)))))

-- a loop's next turn stands right behind its beginning
abbrev pub OpensTo : Labelled → ℕ → List OpenLoop → Type 0
OpensTo c behind loops =
    (turn : Instruction) × ((exit : ℕ) × ((at_place c.code behind ≡ Some turn) × ((way_of turn ≡ Turns exit) × (c.at behind ≡ bare (record { head = behind; exit = exit } ∷ loops)))))

-- the ways on from a place, with these operands left, inside these loops
abbrev pub Ways : Way → Labelled → ℕ → ℕ → List Sort → List OpenLoop → Type 0
Ways Straight c place behind operands loops = LeadsTo c behind (record { operands = operands; loops = loops })
Ways (Branch to) c place behind operands loops = (operands ≡ []) × ((place < to) × (LeadsTo c to (bare loops) × LeadsTo c behind (bare loops)))
Ways (Leap to) c place behind operands loops = (operands ≡ []) × LeapsTo c place behind to loops
Ways Opens c place behind operands loops = (operands ≡ []) × OpensTo c behind loops
Ways (Turns exit) c place behind operands loops =
    (operands ≡ []) × ((outer : List OpenLoop) × ((loops ≡ record { head = place; exit = exit } ∷ outer) × (LeadsTo c exit (bare outer) × LeadsTo c behind (bare loops))))
Ways Ends c place behind operands loops = GoesOnInside c behind loops

-- ---- sound codes

pub record IsFine (z : Counts) (role : Use) (c : Labelled) (place : ℕ) (i : Instruction) : Type 0 where
  pub allowed : may_hold role i ≡ true
  pub named : names_what_is_there z (loops_around role + length (c.at place).loops) i ≡ true
  pub left : List Sort
  pub typed : operands_behind z i (c.at place).operands ≡ Some left
  pub ways : Ways (way_of i) c place (place + size_of i) left (c.at place).loops

-- a test's one answer is its last instruction
abbrev pub EndsInAnswer : Use → List Instruction → Type 0
EndsInAnswer (Test loops) code = (place : ℕ) → at_place code place ≡ Some Answer → place + 1 ≡ sizes code
EndsInAnswer Describing code = Unit {0}
EndsInAnswer Body code = Unit {0}

-- each of its places has its operands and its loops, whatever way leads there
pub record IsSound (z : Counts) (role : Use) (code : List Instruction) : Type 0 where
  pub at : ℕ → Label
  pub starts : LeadsTo (record { code = code; at = at }) 0 (bare [])
  pub fine : (place : ℕ) (i : Instruction) → at_place code place ≡ Some i → IsFine z role (record { code = code; at = at }) place i
  pub closed : (at (sizes code)).loops ≡ []
  pub answered : EndsInAnswer role code
