-- Where instructions stand in a code, and runs through those that stand one behind the other.
use Rattle.std.proofs.Common.{◌≡◌, ◌∙◌, subst, ℕ, suc, ◌+◌, ◌-◌, ◌≤◌, List, [], ◌∷◌, ◌++◌, length, append_assoc, refl, Some, arith}
use Rattle.std.proofs.lemmas.Bool.{le-ltb, ne_eqb}
use Rattle.play_meaning.specs.Instructions.{Add, And, Answer, AtMost, Away, Begin, Count, Dark, Description, Done, Door, Encloses, EndStory, Eq, Failure, Figure, Flag, Follow, Happens, HasDescription, Held, Holder, IfZero, Instruction, Jump, Kind, Less, Location, Loop, Move, Mul, Name, Names, Next, NoDecision, Not, Noun, Num, Or, Prop, PutAt, Room, Say, Second, SetFlag, SetProp, SetValue, SetVar, Sub, Success, Touchable, Try, Turns, Valued, ValueName, Var, Visible, at_place, size_of, sizes}

-- every instruction takes a byte
pub size_is : (i : Instruction) → size_of i ≡ suc (size_of i - 1)
size_is (Num a) = refl
size_is (Var a) = refl
size_is (Prop a) = refl
size_is Turns = refl
size_is Add = refl
size_is Sub = refl
size_is Mul = refl
size_is Eq = refl
size_is Less = refl
size_is AtMost = refl
size_is Not = refl
size_is And = refl
size_is Or = refl
size_is Noun = refl
size_is Second = refl
size_is Location = refl
size_is (Loop a) = refl
size_is (Flag a b) = refl
size_is (Kind a) = refl
size_is (Held a) = refl
size_is (Holder a) = refl
size_is Encloses = refl
size_is Visible = refl
size_is Touchable = refl
size_is Dark = refl
size_is (Happens a) = refl
size_is HasDescription = refl
size_is Room = refl
size_is Door = refl
size_is (Valued a b) = refl
size_is (Count a b) = refl
size_is (Names a b c) = refl
size_is (Say a) = refl
size_is (Name a) = refl
size_is Figure = refl
size_is Description = refl
size_is (SetFlag a b) = refl
size_is (SetProp a) = refl
size_is (SetVar a) = refl
size_is (PutAt a) = refl
size_is Move = refl
size_is Away = refl
size_is (ValueName a) = refl
size_is (SetValue a b) = refl
size_is (Try a b) = refl
size_is (Follow a) = refl
size_is (IfZero a) = refl
size_is (Jump a) = refl
size_is (Begin a) = refl
size_is (Next a b c) = refl
size_is (EndStory a) = refl
size_is Done = refl
size_is NoDecision = refl
size_is Success = refl
size_is Failure = refl
size_is Answer = refl

pub sizes-append : (a b : List Instruction) → sizes (a ++ b) ≡ sizes a + sizes b
sizes-append [] b = omega arith
sizes-append (i ∷ is) b = omega (arith, sizes-append is b)

pub length-sizes : (is : List Instruction) → length is ≤ sizes is
length-sizes [] = omega arith
length-sizes (i ∷ is) = omega (arith, size_is i, length-sizes is)

-- ---- where they stand

-- these stand in the code one behind the other, from a place on
abbrev pub HasAt : List Instruction → ℕ → List Instruction → Type 0
HasAt code q [] = Unit {0}
HasAt code q (i ∷ is) = (at_place code q ≡ Some i) × HasAt code (q + size_of i) is

pub has_front : (code : List Instruction) (q : ℕ) (a b : List Instruction) → HasAt code q (a ++ b) → HasAt code q a
has_front code q [] b has = tt
has_front code q (i ∷ is) b has = (has.0, has_front code (q + size_of i) is b has.1)

moved : (code : List Instruction) (q r : ℕ) (is : List Instruction) → q ≡ r → HasAt code q is → HasAt code r is
moved code q r is e has = subst (λ n. HasAt code n is) e has

pub has_back : (code : List Instruction) (q : ℕ) (a b : List Instruction) → HasAt code q (a ++ b) → HasAt code (q + sizes a) b
has_back code q [] b has = moved code q (q + 0) b (omega arith) has
has_back code q (i ∷ is) b has = moved code (q + size_of i + sizes is) (q + (size_of i + sizes is)) b (omega arith) (has_back code (q + size_of i) is b has.1)

skipped : (j : Instruction) (js : List Instruction) (q : ℕ) → at_place (j ∷ js) (size_of j + q) ≡ at_place js q
skipped j js q =
    let ahead : size_of j + q ≡ 0 → ⊥ = λ e. omega (arith, size_is j, e) in
    let rest : size_of j + q - size_of j ≡ q = omega arith in
    rw (ne_eqb (size_of j + q) 0 ahead, le-ltb (size_of j + q) (size_of j) (omega arith), rest) refl

at_front : (front : List Instruction) (i : Instruction) (is : List Instruction) → at_place (front ++ i ∷ is) (sizes front) ≡ Some i
at_front [] i is = refl
at_front (j ∷ js) i is = skipped j (js ++ i ∷ is) (sizes js) ∙ at_front js i is

has_from : (front is : List Instruction) → HasAt (front ++ is) (sizes front) is
has_from front [] = tt
has_from front (i ∷ is) =
    let more = has_from (front ++ i ∷ []) is in
    let size : sizes (front ++ i ∷ []) ≡ sizes front + size_of i = omega (arith, sizes-append front (i ∷ [])) in
    (at_front front i is, subst (λ code. HasAt code (sizes front + size_of i) is) (append_assoc front (i ∷ []) is) (moved ((front ++ i ∷ []) ++ is) _ _ is size more))

-- a code stands in itself
pub has_all : (is : List Instruction) → HasAt is 0 is
has_all is = has_from [] is
