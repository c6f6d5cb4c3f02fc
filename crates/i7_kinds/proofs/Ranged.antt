-- The numbers that a tale begins with are in range where those of the sentences are.
use Rattle.std.proofs.Common.{◌≡◌, ℕ, ℤ, pos, ◌+◌, true, List, [], ◌∷◌, Option, refl, inl, inr}
use Rattle.std.specs.Prelude.{Some, None, ◌==◌, ◌&&◌, bytes_eq, fold, slice_get}
use Rattle.std.specs.List.{list_all}
use Rattle.std.proofs.lemmas.Bool.{cases_Bool, and_from}
use Rattle.world_meaning.specs.Declarations.{is_had, is_number}
use Rattle.world_meaning.specs.declared.declared.Granted.{Granted}
use Rattle.i7_claims.specs.Firsts.{first_of}
use Rattle.i7_kinds.specs.KindClaims.{start_in, start_of, starts_of}
use Rattle.i7_kinds.specs.Knowns.{Scope}
use Rattle.i7_claims.specs.Numbers.{has_name}
use Rattle.i7_kinds.specs.Tales.{Made, amount_or, begins_with, numbers_from}
use Rattle.i7_kinds.specs.Values.{Values, given_slot, no_values, told_by, told_of, usual_from, usual_of, usual_on, values_by, with_told, with_value_of}
use Rattle.i7_claims.specs.declared.claim.Claim.{Claim}
use Rattle.i7_claims.specs.declared.claim.Fact.{Fact}
use Rattle.i7_claims.specs.declared.claim.Fact.TheVariants.{Has, Starts, Usually}
use Rattle.i7_claims.specs.declared.claim.Value.{Value}
use Rattle.i7_claims.specs.declared.claim.Value.TheVariants.{Truth, Amount, Choice, Never}
use Rattle.i7_kinds.specs.declared.values.Bearer.{Bearer}
use Rattle.i7_kinds.specs.declared.values.Bearer.TheVariants.{Objects, Kinds, Variables}
use Rattle.i7_kinds.specs.declared.values.Slot.{Slot}
use Rattle.i7_kinds.specs.declared.values.Told.{Told}
use Rattle.i7_claims.proofs.Ranged.{AreRanged, IsRangedFact, IsRangedValue}

-- ---- of what is said first

abbrev IsRangedAt : Option Value → Type 0
IsRangedAt None = Unit {0}
IsRangedAt (Some value) = IsRangedValue value

abbrev pub AreRangedValues : Values → Type 0
AreRangedValues values = (o p : ℕ) → IsRangedAt (values o p)

slot_ranged : (slot : Slot) (value : Value) (o p : ℕ) (before : Option Value) → IsRangedValue value → IsRangedAt before → IsRangedAt (first_of before (given_slot slot value o p))
slot_ranged slot value o p (Some first) h k = k
slot_ranged slot value o p None h k =
    elim (cases_Bool ((slot.bearer == o) && (slot.property == p))) [
      | inl is ↦ rw is h
      | inr isnt ↦ rw isnt tt
    ]

abbrev IsRangedTold : Option Told → Type 0
IsRangedTold None = Unit {0}
IsRangedTold (Some t) = IsRangedValue t.value

told_ranged : (values : Values) (t : Option Told) → AreRangedValues values → IsRangedTold t → AreRangedValues (with_told values t)
told_ranged values None all h o p = all o p
told_ranged values (Some t) all h o p = slot_ranged t.slot t.value o p (values o p) h (all o p)

of_ranged : (bearer property : ℕ) (value : Value) → IsRangedValue value → IsRangedTold (told_of bearer property value)
of_ranged bearer property (Truth truth) r = r
of_ranged bearer property (Amount number) r = r
of_ranged bearer property (Choice place) r = r
of_ranged bearer property Never r = tt

fact_ranged : (b : Bearer) (s : Scope) (f : Fact) → IsRangedFact f → IsRangedTold (told_by b s f)
fact_ranged Objects s (Has h) r = of_ranged _ _ h.value r
fact_ranged Kinds s (Usually u) r =
    elim (cases_Bool (has_name s.kinds u.kind)) [
      | inl is ↦ rw is (of_ranged _ _ u.value r)
      | inr isnt ↦ rw isnt tt
    ]
fact_ranged Variables s (Starts v) r = r
fact_ranged _ s _ r = tt

values_ranged : (b : Bearer) (s : Scope) (claims : List Claim) (values : Values) → AreRanged claims → AreRangedValues values → AreRangedValues (fold (with_value_of b s) values claims)
values_ranged b s [] values h all = all
values_ranged b s (c ∷ claims) values h all = values_ranged b s claims (with_value_of b s values c) h.1 (told_ranged values (told_by b s c.fact) all (fact_ranged b s c.fact h.0))

pub said_ranged : (b : Bearer) (s : Scope) (claims : List Claim) → AreRanged claims → AreRangedValues (values_by b s claims)
said_ranged b s claims h = values_ranged b s claims no_values h (λ o p. tt)

-- ---- of what is usual

first_ranged : (first other : Option Value) → IsRangedAt first → IsRangedAt other → IsRangedAt (first_of first other)
first_ranged None other h k = k
first_ranged (Some value) other h k = h

on_ranged : (climb : ℕ → Option Value) → ((kind : ℕ) → IsRangedAt (climb kind)) → (above : Option (Option ℕ)) → IsRangedAt (usual_on climb above)
on_ranged climb h None = tt
on_ranged climb h (Some None) = tt
on_ranged climb h (Some (Some parent)) = h parent

usual_from_ranged : (left parents : List (Option ℕ)) (usuals : Values) (kind property : ℕ) → AreRangedValues usuals → IsRangedAt (usual_from left parents usuals kind property)
usual_from_ranged [] parents usuals kind property all = all kind property
usual_from_ranged (x ∷ left) parents usuals kind property all =
    first_ranged (usuals kind property) _ (all kind property) (on_ranged (λ parent. usual_from left parents usuals parent property) (λ parent. usual_from_ranged left parents usuals parent property all) (slice_get parents kind))

-- ---- of what objects and variables begin with

amount_ranged : (value : Option Value) (other : ℤ) → IsRangedAt value → is_number other ≡ true → is_number (amount_or value other) ≡ true
amount_ranged None other h k = k
amount_ranged (Some (Truth truth)) other h k = k
amount_ranged (Some (Amount number)) other h k = h
amount_ranged (Some (Choice place)) other h k = k
amount_ranged (Some Never) other h k = k

pub numbers_in_range : (m : Made) (o kind n : ℕ) (numbers : List Granted) → AreRangedValues m.values → AreRangedValues m.usuals → list_all is_number (numbers_from m o kind n numbers) ≡ true
numbers_in_range m o kind n [] values usuals = refl
numbers_in_range m o kind n (number ∷ numbers) values usuals =
    let later = numbers_in_range m o kind (n + 1) numbers values usuals in
    let usual = amount_ranged (usual_of m.parents m.usuals kind n) (pos 0) (usual_from_ranged m.parents m.parents m.usuals kind n usuals) refl in
    elim (cases_Bool (is_had m.parents kind number)) [
      | inl is ↦ rw is (and_from (is_number (begins_with m o kind n)) _ (amount_ranged (m.values o n) _ (values o n) usual) later)
      | inr isnt ↦ rw isnt later
    ]

in_ranged : (name : List ℕ) (f : Fact) (other : ℤ) → IsRangedFact f → is_number other ≡ true → is_number (start_in name f other) ≡ true
in_ranged name (Starts v) other h k =
    elim (cases_Bool (bytes_eq name v.variable)) [
      | inl is ↦ rw is h
      | inr isnt ↦ rw isnt k
    ]
in_ranged name _ other h k = k

start_ranged : (claims : List Claim) (name : List ℕ) → AreRanged claims → is_number (start_of claims name) ≡ true
start_ranged [] name h = refl
start_ranged (c ∷ claims) name h = in_ranged name c.fact (start_of claims name) h.0 (start_ranged claims name h.1)

pub starts_in_range : (claims : List Claim) (names : List (List ℕ)) → AreRanged claims → list_all is_number (starts_of claims names) ≡ true
starts_in_range claims [] h = refl
starts_in_range claims (name ∷ names) h = and_from (is_number (start_of claims name)) (list_all is_number (starts_of claims names)) (start_ranged claims name h) (starts_in_range claims names h)
