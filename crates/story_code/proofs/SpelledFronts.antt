-- The instruction whose bytes stand at the front is the one that is read there.
use Rattle.std.proofs.Common.{◌≡◌, ℕ, ◌<◌, ◌^◌, nat_lt, true, false, List, ◌++◌, Some, refl, ap, ◌∙◌, arith}
use Rattle.std.proofs.lemmas.Grind.{common_steps}
use Rattle.std.proofs.lemmas.Nat.{from_be_bytes-to_be_bytes_2}
use Rattle.std.specs.Int.{w16, from_be_bytes, to_be_bytes}
use Rattle.std.proofs.lemmas.Bool.{and_parts}
use Rattle.world_meaning.specs.declared.place.Rel.TheVariants.{In, On, Carried, Worn, Part}
use Rattle.play_meaning.specs.declared.instruction.Asked.TheVariants.{IsFirst, IsNotFirst, IsNotSecond, IsSecond}
use Rattle.play_meaning.specs.declared.instruction.Instruction.{Instruction}
use Rattle.play_meaning.specs.declared.instruction.Instruction.TheVariants.{Add, And, Answer, AtMost, Away, Begin, Count, Dark, Description, Done, Door, Encloses, EndStory, Eq, Failure, Figure, Flag, Follow, Happens, HasDescription, Held, Holder, IfZero, Jump, Kind, Less, Location, Loop, Move, Mul, Name, Names, Next, NoDecision, Not, Noun, Num, Or, Prop, PutAt, Room, Say, Second, SetFlag, SetProp, SetValue, SetVar, Sub, Success, Touchable, Try, Turns, Valued, ValueName, Var, Visible}
use Rattle.play_meaning.specs.declared.naming.Naming.TheVariants.{CapitalDefinite, CapitalIndefinite, Definite, Indefinite, Plain}
use Rattle.story_code.specs.Spelling.{can_spell, spelled}
use Rattle.story_code.specs.Fronts.{common_in, front, front_by}
use Rattle.story_code.proofs.FrontLemmas.{integer_back}

word_back : (n : ℕ) → nat_lt n 65536 ≡ true → from_be_bytes w16 (to_be_bytes w16 n) ≡ n
word_back n h = let lt : n < 2 ^ 16 = grind (arith, common_steps, h) in from_be_bytes-to_be_bytes_2 n lt

pub front_spelled : (i : Instruction) (rest : List ℕ) → can_spell i ≡ true → front (spelled i ++ rest) ≡ Some i
unfolding front_by common_in
front_spelled (Num n) rest h = ap (λ z. Some (Num z)) (integer_back n (and_parts _ _ h).0)
front_spelled Turns rest h = refl
front_spelled Add rest h = refl
front_spelled Sub rest h = refl
front_spelled Mul rest h = refl
front_spelled Eq rest h = refl
front_spelled Less rest h = refl
front_spelled AtMost rest h = refl
front_spelled Not rest h = refl
front_spelled And rest h = refl
front_spelled Or rest h = refl
front_spelled Noun rest h = refl
front_spelled Second rest h = refl
front_spelled Location rest h = refl
front_spelled Encloses rest h = refl
front_spelled Visible rest h = refl
front_spelled Touchable rest h = refl
front_spelled Dark rest h = refl
front_spelled HasDescription rest h = refl
front_spelled Room rest h = refl
front_spelled Door rest h = refl
front_spelled Figure rest h = refl
front_spelled Description rest h = refl
front_spelled Move rest h = refl
front_spelled Away rest h = refl
front_spelled Done rest h = refl
front_spelled NoDecision rest h = refl
front_spelled Success rest h = refl
front_spelled Failure rest h = refl
front_spelled Answer rest h = refl
front_spelled (Var n) rest h = refl
front_spelled (Prop n) rest h = refl
front_spelled (Loop n) rest h = refl
front_spelled (Kind n) rest h = refl
front_spelled (Happens n) rest h = refl
front_spelled (SetProp n) rest h = refl
front_spelled (SetVar n) rest h = refl
front_spelled (ValueName n) rest h = refl
front_spelled (Begin n) rest h = refl
front_spelled (Valued q value) rest h = refl
front_spelled (SetValue q value) rest h = refl
front_spelled (Say n) rest h = ap (λ w. Some (Say w)) (word_back n (and_parts _ _ h).0)
front_spelled (Follow n) rest h = ap (λ w. Some (Follow w)) (word_back n (and_parts _ _ h).0)
front_spelled (IfZero n) rest h = ap (λ w. Some (IfZero w)) (word_back n (and_parts _ _ h).0)
front_spelled (Jump n) rest h = ap (λ w. Some (Jump w)) (word_back n (and_parts _ _ h).0)
front_spelled (EndStory n) rest h = ap (λ w. Some (EndStory w)) (word_back n (and_parts _ _ h).0)
front_spelled (Held In) rest h = refl
front_spelled (Held On) rest h = refl
front_spelled (Held Carried) rest h = refl
front_spelled (Held Worn) rest h = refl
front_spelled (Held Part) rest h = refl
front_spelled (Holder In) rest h = refl
front_spelled (Holder On) rest h = refl
front_spelled (Holder Carried) rest h = refl
front_spelled (Holder Worn) rest h = refl
front_spelled (Holder Part) rest h = refl
front_spelled (PutAt In) rest h = refl
front_spelled (PutAt On) rest h = refl
front_spelled (PutAt Carried) rest h = refl
front_spelled (PutAt Worn) rest h = refl
front_spelled (PutAt Part) rest h = refl
front_spelled (Flag p IsFirst) rest h = refl
front_spelled (Flag p IsSecond) rest h = refl
front_spelled (Flag p IsNotFirst) rest h = refl
front_spelled (Flag p IsNotSecond) rest h = refl
front_spelled (SetFlag p true) rest h = refl
front_spelled (SetFlag p false) rest h = refl
front_spelled (Try true action) rest h = refl
front_spelled (Try false action) rest h = refl
front_spelled (Name Plain) rest h = refl
front_spelled (Name Definite) rest h = refl
front_spelled (Name CapitalDefinite) rest h = refl
front_spelled (Name Indefinite) rest h = refl
front_spelled (Name CapitalIndefinite) rest h = refl
front_spelled (Names Plain k n) rest h = ap (λ w. Some (Names Plain k w)) (word_back n (and_parts _ _ h).0)
front_spelled (Names Definite k n) rest h = ap (λ w. Some (Names Definite k w)) (word_back n (and_parts _ _ h).0)
front_spelled (Names CapitalDefinite k n) rest h = ap (λ w. Some (Names CapitalDefinite k w)) (word_back n (and_parts _ _ h).0)
front_spelled (Names Indefinite k n) rest h = ap (λ w. Some (Names Indefinite k w)) (word_back n (and_parts _ _ h).0)
front_spelled (Names CapitalIndefinite k n) rest h = ap (λ w. Some (Names CapitalIndefinite k w)) (word_back n (and_parts _ _ h).0)
front_spelled (Count k n) rest h = ap (λ w. Some (Count k w)) (word_back n (and_parts _ _ h).0)
front_spelled (Next k test exit) rest h =
    let p = and_parts (nat_lt test 65536) _ h in
    ap (λ w. Some (Next k w (from_be_bytes w16 (to_be_bytes w16 exit)))) (word_back test p.0) ∙ ap (λ w. Some (Next k test w)) (word_back exit (and_parts _ _ p.1).0)
