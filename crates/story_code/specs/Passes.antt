-- One pass over a code from left to right, and one look at each jump's goal: what the verifier is proved equal to. That it
-- finds sound code and no other is proved.
use Rattle.std.specs.Prelude.{ℕ, ◌+◌, ◌==◌, Bool, true, false, ◌&&◌, not, List, [], ◌∷◌, length, Option, Some, None, nat_lt, if◌then◌else◌}
use Rattle.play_meaning.specs.Instructions.{size_of}
use Rattle.play_meaning.specs.Operands.{may_hold, names_what_is_there, operands_behind}
use Rattle.play_meaning.specs.SoundCodes.{Label, bare, loops_around, way_of}
use Rattle.play_meaning.specs.declared.instruction.Instruction.{Instruction}
use Rattle.play_meaning.specs.declared.instruction.Instruction.TheVariants.{Answer}
use Rattle.play_meaning.specs.declared.operand.Sort.{Sort}
use Rattle.play_meaning.specs.declared.operand.Use.{Use}
use Rattle.play_meaning.specs.declared.operand.Use.TheVariants.{Test}
use Rattle.play_meaning.specs.declared.way.OpenLoop.{OpenLoop}
use Rattle.play_meaning.specs.declared.way.Way.{Way}
use Rattle.play_meaning.specs.declared.way.Way.TheVariants.{Branch, Ends, Leap, Opens, Straight, Turns}
use Rattle.story_code.specs.declared.sizes.Sizes.{Sizes}

abbrev pub is_nil : {A : Type 0} → List A → Bool
is_nil [] = true
is_nil (x ∷ xs) = false

abbrev pub if_so : {A : Type 0} → Bool → A → Option A
if_so true a = Some a
if_so false a = None

-- ---- what stands behind an instruction

-- closes the innermost loop, whose next turn stands there and whose exit here
abbrev pub closed_at : ℕ → ℕ → List OpenLoop → Option Label
closed_at to here [] = None
closed_at to here (o ∷ outer) = if_so ((o.head == to) && (o.exit == here)) (bare outer)

-- opens a loop, if its next turn stands here
abbrev pub opened_by : Way → ℕ → List OpenLoop → Option Label
opened_by (Turns exit) here loops = Some (bare (record { head = here; exit = exit } ∷ loops))
opened_by _ here loops = None

abbrev pub opened_at : ℕ → List OpenLoop → List Instruction → Option Label
opened_at here loops [] = None
opened_at here loops (n ∷ rest) = opened_by (way_of n) here loops

abbrev pub stands_at : ℕ → ℕ → List OpenLoop → Bool
stands_at place exit [] = false
stands_at place exit (o ∷ outer) = (o.head == place) && (o.exit == exit)

-- a jump leads on, or back to the next turn of the loop that ends here
abbrev pub leapt : ℕ → ℕ → ℕ → List OpenLoop → List Instruction → Option Label
leapt to place here loops rest = if nat_lt place to then Some (bare loops) else (if is_nil rest then None else closed_at to here loops)

-- what is known here, behind an instruction of this place, with the rest of the code
abbrev pub way_behind : Way → ℕ → ℕ → List Sort → List OpenLoop → List Instruction → Option Label
way_behind Straight place here sorts loops rest = if_so (not (is_nil rest)) (record { operands = sorts; loops = loops })
way_behind (Branch to) place here sorts loops rest = if_so (is_nil sorts && (nat_lt place to && not (is_nil rest))) (bare loops)
way_behind (Leap to) place here sorts loops rest = if is_nil sorts then leapt to place here loops rest else None
way_behind Opens place here sorts loops rest = if is_nil sorts then opened_at here loops rest else None
way_behind (Turns exit) place here sorts loops rest = if_so (is_nil sorts && (stands_at place exit loops && not (is_nil rest))) (bare loops)
way_behind Ends place here sorts loops rest = Some (bare loops)

abbrev pub left_behind : Option (List Sort) → ℕ → Instruction → List OpenLoop → List Instruction → Option Label
left_behind None place i loops rest = None
left_behind (Some sorts) place i loops rest = way_behind (way_of i) place (place + size_of i) sorts loops rest

abbrev pub answers : Use → Instruction → Bool
answers (Test loops) Answer = true
answers role i = false

-- a test's answer is its last instruction
abbrev pub ends_well : Use → Instruction → List Instruction → Bool
ends_well role i rest = if answers role i then is_nil rest else true

unfoldable pub is_allowed : Sizes → List OpenLoop → Instruction → Bool
is_allowed z loops i = may_hold z.role i && names_what_is_there z.counts (loops_around z.role + length loops) i

unfoldable pub behind : Sizes → ℕ → Instruction → List Instruction → Label → Option Label
behind z place i rest l =
    if is_allowed z l.loops i && ends_well z.role i rest
    then left_behind (operands_behind z.counts i l.operands) place i l.loops rest
    else None

-- ---- the pass

pub record Mark : Type 0 where
  pub place : ℕ
  pub instruction : Instruction
  pub label : Label

abbrev pub with_mark : Mark → Option (List Mark) → Option (List Mark)
with_mark m None = None
with_mark m (Some ms) = Some (m ∷ ms)

-- what is known at all instructions
abbrev pub marks_from : Sizes → ℕ → Option Label → List Instruction → Option (List Mark)
marks_from z place None is = None
marks_from z place (Some l) [] = if_so (is_nil l.loops) []
marks_from z place (Some l) (i ∷ is) =
    with_mark (record { place = place; instruction = i; label = l }) (marks_from z (place + size_of i) (behind z place i is l) is)

abbrev pub look : List Mark → ℕ → Option Label
look [] place = None
look (m ∷ ms) place = if m.place == place then Some m.label else look ms place

-- inside the same loop
abbrev pub same_loop : List OpenLoop → List OpenLoop → Bool
same_loop [] [] = true
same_loop [] (b ∷ bs) = false
same_loop (a ∷ others) [] = false
same_loop (a ∷ others) (b ∷ bs) = a.head == b.head

abbrev pub is_bare_in : List OpenLoop → Option Label → Bool
is_bare_in loops None = false
is_bare_in loops (Some l) = is_nil l.operands && same_loop l.loops loops

-- a goal that lies further on has no operands, inside the same loop
abbrev pub way_meets : Way → List Mark → ℕ → List OpenLoop → Bool
way_meets (Branch to) all place loops = is_bare_in loops (look all to)
way_meets (Leap to) all place loops = if nat_lt place to then is_bare_in loops (look all to) else true
way_meets way all place loops = true

abbrev pub all_meet : List Mark → List Mark → Bool
all_meet all [] = true
all_meet all (m ∷ ms) = way_meets (way_of m.instruction) all m.place m.label.loops && all_meet all ms

abbrev pub met : Option (List Mark) → Bool
met None = false
met (Some ms) = all_meet ms ms

unfoldable pub passes : Sizes → List Instruction → Bool
passes z is = not (is_nil is) && met (marks_from z 0 (Some (bare [])) is)

-- ---- what the code reads of it

abbrev pub innermost : List OpenLoop → Option OpenLoop
innermost [] = None
innermost (o ∷ outer) = Some o

abbrev pub next_list : Option Instruction → List Instruction
next_list None = []
next_list (Some n) = n ∷ []
