-- What operands are served by, and what of their sorts is taken and given.
use Rattle.std.proofs.Common.{◌≡◌, ap, sym, subst, suc, Bool, true, false, List, [], ◌∷◌, length, refl, Option, Some, None, ℤ}
use Rattle.std.specs.Prelude.{drop, nat_lt, if◌then◌else◌}
use Rattle.play_meaning.specs.Instructions as code
use Rattle.play_meaning.specs.Instructions.{Instruction}
use Rattle.play_meaning.specs.Operands.{Number, NumberOrObject, Object, Sort, Truth, are_alike, behind_eq, below, serves, taken_from, takes, with_given}
use Rattle.play_meaning.specs.Stands.{AreOf, GivesObject, HasOnTop, Serves, taken_by}

pub if_both : {A : Type 0} (b : Bool) (a : Option A) (x : A) → (if b then a else None) ≡ Some x → (b ≡ true) × (a ≡ Some x)
if_both true a x e = (refl, e)
if_both false a x e = absurd cc

-- ---- operands

serves_on : (sort wanted : Sort) → serves sort wanted ≡ true → (a : ℤ) → Serves sort a → Serves wanted a
serves_on Number Number is a fits = tt
serves_on Number Truth is a fits = absurd cc
serves_on Number Object is a fits = absurd cc
serves_on Number NumberOrObject is a fits = absurd cc
serves_on Truth Number is a fits = absurd cc
serves_on Truth Truth is a fits = tt
serves_on Truth Object is a fits = absurd cc
serves_on Truth NumberOrObject is a fits = absurd cc
serves_on Object Number is a fits = absurd cc
serves_on Object Truth is a fits = absurd cc
serves_on Object Object is a fits = fits
serves_on Object NumberOrObject is a fits = absurd cc
serves_on NumberOrObject Number is a fits = tt
serves_on NumberOrObject Truth is a fits = absurd cc
serves_on NumberOrObject Object is a fits = fits
serves_on NumberOrObject NumberOrObject is a fits = fits

-- those that are taken are there, and those that stay are of their sorts
abbrev pub TakesOff : List Sort → List Sort → Option (List Sort) → Type 0
TakesOff wanted sorts left = (rest : List Sort) → left ≡ Some rest → (ops : List ℤ) → AreOf sorts ops → HasOnTop wanted ops × AreOf rest (drop (length wanted) ops)

taken_off : (wanted sorts : List Sort) → TakesOff wanted sorts (below wanted sorts)
taken_off [] sorts rest e ops are = let same : sorts ≡ rest = cc in (tt, subst (λ l. AreOf l ops) same are)
taken_off (w ∷ ws) [] rest e ops are = absurd cc
taken_off (w ∷ ws) (sort ∷ sorts) rest e [] are = absurd are
taken_off (w ∷ ws) (sort ∷ sorts) rest e (a ∷ ops) are =
    let both = if_both (serves sort w) (below ws sorts) rest e in
    let more = taken_off ws sorts rest both.1 ops are.1 in
    ((serves_on sort w both.0 a are.0, more.0), more.1)

eq_off : (sorts : List Sort) → TakesOff (Number ∷ Number ∷ []) sorts (behind_eq sorts)
eq_off [] rest e ops are = absurd cc
eq_off (b ∷ []) rest e ops are = absurd cc
eq_off (b ∷ a ∷ sorts) rest e [] are = absurd are
eq_off (b ∷ a ∷ sorts) rest e (x ∷ []) are = absurd are.1
eq_off (b ∷ a ∷ sorts) rest e (x ∷ y ∷ ops) are =
    let both = if_both (are_alike a b) (Some sorts) rest e in
    let same : sorts ≡ rest = cc in
    ((tt, (tt, tt)), subst (λ l. AreOf l ops) same are.1.1)

pub off : (i : Instruction) (sorts : List Sort) → TakesOff (taken_by i) sorts (taken_from i sorts)
off (code.Num n) sorts = taken_off (takes (code.Num n)) sorts
off (code.Var v) sorts = taken_off (takes (code.Var v)) sorts
off (code.Prop p) sorts = taken_off (takes (code.Prop p)) sorts
off code.Turns sorts = taken_off (takes code.Turns) sorts
off code.Add sorts = taken_off (takes code.Add) sorts
off code.Sub sorts = taken_off (takes code.Sub) sorts
off code.Mul sorts = taken_off (takes code.Mul) sorts
off code.Eq sorts = eq_off sorts
off code.Less sorts = taken_off (takes code.Less) sorts
off code.AtMost sorts = taken_off (takes code.AtMost) sorts
off code.Not sorts = taken_off (takes code.Not) sorts
off code.And sorts = taken_off (takes code.And) sorts
off code.Or sorts = taken_off (takes code.Or) sorts
off code.Noun sorts = taken_off (takes code.Noun) sorts
off code.Second sorts = taken_off (takes code.Second) sorts
off code.Location sorts = taken_off (takes code.Location) sorts
off (code.Loop k) sorts = taken_off (takes (code.Loop k)) sorts
off (code.Flag p side) sorts = taken_off (takes (code.Flag p side)) sorts
off (code.Kind kind) sorts = taken_off (takes (code.Kind kind)) sorts
off (code.Held r) sorts = taken_off (takes (code.Held r)) sorts
off (code.Holder r) sorts = taken_off (takes (code.Holder r)) sorts
off code.Encloses sorts = taken_off (takes code.Encloses) sorts
off code.Visible sorts = taken_off (takes code.Visible) sorts
off code.Touchable sorts = taken_off (takes code.Touchable) sorts
off code.Dark sorts = taken_off (takes code.Dark) sorts
off (code.Happens scene) sorts = taken_off (takes (code.Happens scene)) sorts
off code.HasDescription sorts = taken_off (takes code.HasDescription) sorts
off code.Room sorts = taken_off (takes code.Room) sorts
off code.Door sorts = taken_off (takes code.Door) sorts
off (code.Valued n value) sorts = taken_off (takes (code.Valued n value)) sorts
off (code.Count k test) sorts = taken_off (takes (code.Count k test)) sorts
off (code.Names naming k test) sorts = taken_off (takes (code.Names naming k test)) sorts
off (code.Say string) sorts = taken_off (takes (code.Say string)) sorts
off (code.Name naming) sorts = taken_off (takes (code.Name naming)) sorts
off code.Figure sorts = taken_off (takes code.Figure) sorts
off code.Description sorts = taken_off (takes code.Description) sorts
off (code.SetFlag p value) sorts = taken_off (takes (code.SetFlag p value)) sorts
off (code.SetProp p) sorts = taken_off (takes (code.SetProp p)) sorts
off (code.SetVar v) sorts = taken_off (takes (code.SetVar v)) sorts
off (code.PutAt r) sorts = taken_off (takes (code.PutAt r)) sorts
off code.Move sorts = taken_off (takes code.Move) sorts
off code.Away sorts = taken_off (takes code.Away) sorts
off (code.ValueName n) sorts = taken_off (takes (code.ValueName n)) sorts
off (code.SetValue n value) sorts = taken_off (takes (code.SetValue n value)) sorts
off (code.Try silent action) sorts = taken_off (takes (code.Try silent action)) sorts
off (code.Follow book) sorts = taken_off (takes (code.Follow book)) sorts
off (code.IfZero place) sorts = taken_off (takes (code.IfZero place)) sorts
off (code.Jump place) sorts = taken_off (takes (code.Jump place)) sorts
off (code.Begin k) sorts = taken_off (takes (code.Begin k)) sorts
off (code.Next k test exit) sorts = taken_off (takes (code.Next k test exit)) sorts
off (code.EndStory string) sorts = taken_off (takes (code.EndStory string)) sorts
off code.Done sorts = taken_off (takes code.Done) sorts
off code.NoDecision sorts = taken_off (takes code.NoDecision) sorts
off code.Success sorts = taken_off (takes code.Success) sorts
off code.Failure sorts = taken_off (takes code.Failure) sorts
off code.Answer sorts = taken_off (takes code.Answer) sorts

-- what is given over those that stay
abbrev pub Left : Option Sort → List ℤ → List ℤ → Type 0
Left None rest stack = stack ≡ rest
Left (Some sort) rest stack = (a : ℤ) × (stack ≡ a ∷ rest)

abbrev pub Served : Option Sort → List ℤ → Type 0
Served (Some sort) (a ∷ stack) = Serves sort a
Served given stack = Unit {0}

pub given_on : (given : Option Sort) (rest after : List Sort) (ops stack : List ℤ) → with_given given (Some rest) ≡ Some after → AreOf rest ops → Left given ops stack → Served given stack
    → AreOf after stack
given_on None rest after ops stack e are left served =
    let same : rest ≡ after = cc in subst (λ l. AreOf l stack) same (subst (λ l. AreOf rest l) (sym left) are)
given_on (Some sort) rest after ops stack e are left served =
    let both = if_both (nat_lt (length rest) 64) (Some (sort ∷ rest)) after e in
    let same : sort ∷ rest ≡ after = cc in
    let top : Serves sort left.0 = subst (λ l. Served (Some sort) l) left.1 served in
    subst (λ l. AreOf l stack) same (subst (λ l. AreOf (sort ∷ rest) l) (sym left.1) (top, are))

-- an instruction whose row says what it gives
abbrev pub is_told : Option Sort → Bool
is_told (Some NumberOrObject) = false
is_told _ = true

pub served_by : (given : Option Sort) (stack : List ℤ) → is_told given ≡ true → GivesObject given stack → Served given stack
served_by None stack told gives_so = tt
served_by (Some Number) [] told gives_so = tt
served_by (Some Number) (a ∷ stack) told gives_so = tt
served_by (Some Truth) [] told gives_so = tt
served_by (Some Truth) (a ∷ stack) told gives_so = tt
served_by (Some Object) [] told gives_so = tt
served_by (Some Object) (a ∷ stack) told gives_so = gives_so
served_by (Some NumberOrObject) stack told gives_so = absurd cc

pub many_of : (sorts : List Sort) (ops : List ℤ) → AreOf sorts ops → length ops ≡ length sorts
many_of [] [] are = refl
many_of [] (a ∷ ops) are = absurd are
many_of (sort ∷ sorts) [] are = absurd are
many_of (sort ∷ sorts) (a ∷ ops) are = ap suc (many_of sorts ops are.1)
