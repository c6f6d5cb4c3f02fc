-- The scan for another value of a property finds the lowest line of such a one.
use Rattle.std.proofs.Common.{◌≡◌, ◌≢◌, ℕ, ℤ, pos, negsuc, Bool, true, false, cond, not, List, Option, refl, ap, sym, subst, inl, inr}
use Rattle.std.specs.Prelude.{◌==◌, Some, None, Decides, is_some, option_copied}
use Rattle.std.specs.Borrow.{Bor}
use Rattle.std.proofs.lemmas.Bool.{eqb-true, eq-eqb, cases_Bool, and_parts}
use Rattle.i7_kinds.specs.Knowns.{Scope}
use Rattle.i7_claims.specs.Scans.{IsLowest, ShownBy}
use Rattle.i7_kinds.specs.Values.{IsContrary, IsOther, Values, is_contrary, is_other, is_same, is_same_number, no_values, shows_contrary, slot_eq, told_by, value_in, value_twice, values_by, with_slot, with_value_of}
use Rattle.i7_claims.specs.declared.claim.Claim.{Claim}
use Rattle.i7_claims.specs.declared.claim.Value.{Value}
use Rattle.i7_claims.specs.declared.claim.Value.TheVariants.{Truth, Amount, Choice, Never}
use Rattle.i7_kinds.specs.declared.values.Bearer.{Bearer}
use Rattle.i7_kinds.specs.declared.values.Told.{Told}
use Rattle.i7_kinds.specs.declared.values.Slot.{Slot}
use Rattle.i7_claims.proofs.Firsts.{first_put}
use Rattle.i7_claims.proofs.Lowest.{lowest_is}
use Rattle.i7_claims.proofs.NameScans.{never}

slot_sound : (a b : Slot) → slot_eq a b ≡ true → a ≡ b
slot_sound a b same =
    let both = and_parts (a.bearer == b.bearer) (a.property == b.property) same in
    λ i. record { bearer = eqb-true a.bearer b.bearer both.0 i; property = eqb-true a.property b.property both.1 i }

-- what is said first of a slot is kept
pub slot_kept : (old new : Slot → Option Value) (slot : Slot) (value : Value) → ((q : Slot) → new q ≡ cond (slot_eq slot q) (Some value) (old q)) → old slot ≡ None
    → (λ (o p : ℕ). new (record { bearer = o; property = p })) ≡ with_slot (λ (o p : ℕ). old (record { bearer = o; property = p })) slot value
slot_kept old new slot value put none = λ i o p. first_put slot_eq slot_sound (λ x. x) refl old new slot value value refl put none (record { bearer = o; property = p }) i

pub no_value : (found : Option (Bor Value)) (none : Bool) → is_some found ≡ not none → none ≡ true → option_copied found ≡ None
no_value None none e is = refl
no_value (Some x) true e is = absurd cc
no_value (Some x) false e is = absurd cc

same_numbers : (a b : ℤ) → is_same_number a b ≡ true → a ≡ b
same_numbers (pos a) (pos b) h = ap pos (eqb-true a b h)
same_numbers (negsuc a) (negsuc b) h = ap negsuc (eqb-true a b h)
same_numbers (pos a) (negsuc b) h = absurd cc
same_numbers (negsuc a) (pos b) h = absurd cc

same_number_itself : (a : ℤ) → is_same_number a a ≡ true
same_number_itself (pos a) = eq-eqb a a refl
same_number_itself (negsuc a) = eq-eqb a a refl

same_values : (a b : Value) → is_same a b ≡ true → a ≡ b
same_values (Truth true) (Truth true) h = refl
same_values (Truth true) (Truth false) h = absurd cc
same_values (Truth false) (Truth true) h = absurd cc
same_values (Truth false) (Truth false) h = refl
same_values (Amount a) (Amount b) h = ap Amount (same_numbers a b h)
same_values (Truth a) (Amount b) h = absurd cc
same_values (Amount a) (Truth b) h = absurd cc
same_values (Choice a) (Choice b) h = ap Choice (eqb-true a b h)
same_values Never Never h = refl
same_values (Choice a) _ h = absurd cc
same_values Never _ h = absurd cc
same_values (Truth a) _ h = absurd cc
same_values (Amount a) _ h = absurd cc

same_itself : (a : Value) → is_same a a ≡ true
same_itself (Truth true) = refl
same_itself (Truth false) = refl
same_itself (Amount a) = same_number_itself a
same_itself (Choice a) = eq-eqb a a refl
same_itself Never = refl

other_not_same : (first value : Value) → first ≢ value → not (is_same first value) ≡ true
other_not_same first value h =
    elim (cases_Bool (is_same first value)) [
      | inl is ↦ absurd (h (same_values first value is))
      | inr isnt ↦ rw isnt refl
    ]

not_same_other : (first value : Value) → not (is_same first value) ≡ true → first ≢ value
not_same_other first value h e =
    let same : is_same first value ≡ true = subst (λ (v : Value). is_same first v ≡ true) e (same_itself first) in
    let both : not true ≡ true = rw same at h in
    absurd cc

other_decides : (found : Option Value) (value : Value) → Decides (is_other found value) (IsOther found value)
other_decides None value = (λ h. absurd cc, λ h. let none : None ≡ Some h.0 = h.1 in absurd cc)
other_decides (Some first) value = (λ h. (first, refl, not_same_other first value h), λ h. let is : first ≡ h.0 = cc in other_not_same first value (subst (λ (v : Value). v ≢ value) (sym is) h.2))

contrary_decides : (values : Values) (told : Option Told) → Decides (is_contrary values told) (IsContrary values told)
contrary_decides values None = never (λ h. h)
contrary_decides values (Some t) = other_decides (value_in values t.slot) t.value

pub contrary_lowest : (b : Bearer) (s : Scope) (claims : List Claim) → IsLowest (ShownBy (λ before c. IsContrary (values_by b s before) (told_by b s c.fact)) claims) (value_twice b s claims)
contrary_lowest b s claims = lowest_is (λ before c. IsContrary (values_by b s before) (told_by b s c.fact)) (shows_contrary b s) (with_value_of b s) no_values claims (λ before c after split. contrary_decides (values_by b s before) (told_by b s c.fact))
