-- What sentences say of the properties of objects, or usually of those of kinds, and of variables, by their numbers: the
-- first that is said of each stands, and another value is a fault.
use Rattle.std.specs.Prelude.{◌≡◌, ◌≢◌, ℕ, ℤ, pos, negsuc, Bool, true, false, not, ◌&&◌, ◌==◌, List, [], ◌∷◌, fold, slice_get, Option, Some, None, if◌then◌else◌}
use Rattle.indexmap.specs.IndexMap.{IndexMap, get}
use Rattle.i7_claims.specs.Firsts.{first_of}
use Rattle.i7_kinds.specs.Knowns.{Scope}
use Rattle.i7_claims.specs.Numbers.{has_name, number_in}
use Rattle.i7_claims.specs.Scans.{lowest}
use Rattle.i7_claims.specs.declared.claim.Claim.{Claim}
use Rattle.i7_claims.specs.declared.claim.Fact.{Fact}
use Rattle.i7_claims.specs.declared.claim.Fact.TheVariants.{Has, Starts, Usually}
use Rattle.i7_claims.specs.declared.claim.Value.{Value}
use Rattle.i7_claims.specs.declared.claim.Value.TheVariants.{Truth, Amount, Choice, Never}
use Rattle.i7_kinds.specs.declared.values.Bearer.{Bearer}
use Rattle.i7_kinds.specs.declared.values.Bearer.TheVariants.{Objects, Kinds, Variables}
use Rattle.i7_kinds.specs.declared.values.Told.{Told}
use Rattle.i7_kinds.specs.declared.values.Slot.{Slot}

-- of each object, or kind, and property what is said, if anything is; or of each variable
abbrev pub Values : Type 0
Values = ℕ → ℕ → Option Value

abbrev pub no_values : Values
no_values bearer property = None

abbrev pub told_as : ℕ → ℕ → Value → Told
told_as bearer property value = record { slot = record { bearer = bearer; property = property }; value = value }

-- what is said of a property; what a value isn't tells nothing
abbrev pub told_of : ℕ → ℕ → Value → Option Told
told_of bearer property Never = None
told_of bearer property value = Some (told_as bearer property value)

-- what a fact says of the properties of objects, or of kinds that are there, or of variables
abbrev pub told_by : Bearer → Scope → Fact → Option Told
told_by Objects s (Has h) = told_of (number_in s.objects h.object) (number_in s.properties h.property) h.value
told_by Kinds s (Usually u) = if has_name s.kinds u.kind then told_of (number_in s.kinds u.kind) (number_in s.properties u.property) u.value else None
told_by Variables s (Starts v) = Some (told_as (number_in s.variables v.variable) 0 (Amount v.number))
told_by _ s _ = None

abbrev pub given_slot : Slot → Value → Values
given_slot slot value bearer property = if (slot.bearer == bearer) && (slot.property == property) then Some value else None

abbrev pub with_slot : Values → Slot → Value → Values
with_slot values slot value bearer property = first_of (values bearer property) (given_slot slot value bearer property)

abbrev pub with_told : Values → Option Told → Values
with_told values None = values
with_told values (Some t) = with_slot values t.slot t.value

abbrev pub with_value_of : Bearer → Scope → Values → Claim → Values
with_value_of b s values c = with_told values (told_by b s c.fact)

-- what sentences say first
abbrev pub values_by : Bearer → Scope → List Claim → Values
values_by b s claims = fold (with_value_of b s) no_values claims

-- ---- C9: another value

abbrev pub value_in : Values → Slot → Option Value
value_in values slot = values slot.bearer slot.property

abbrev pub is_same_number : ℤ → ℤ → Bool
is_same_number (pos a) (pos b) = a == b
is_same_number (negsuc a) (negsuc b) = a == b
is_same_number _ _ = false

abbrev pub is_same : Value → Value → Bool
is_same (Truth a) (Truth b) = if a then b else not b
is_same (Amount a) (Amount b) = is_same_number a b
is_same (Choice a) (Choice b) = a == b
is_same Never Never = true
is_same _ _ = false

abbrev pub is_other : Option Value → Value → Bool
is_other None value = false
is_other (Some first) value = not (is_same first value)

abbrev pub is_contrary : Values → Option Told → Bool
is_contrary values None = false
is_contrary values (Some t) = is_other (value_in values t.slot) t.value

abbrev pub shows_contrary : Bearer → Scope → Values → Claim → Bool
shows_contrary b s values c = is_contrary values (told_by b s c.fact)

abbrev pub value_twice : Bearer → Scope → List Claim → Option ℕ
value_twice b s claims = lowest (shows_contrary b s) (with_value_of b s) no_values claims None

-- another value is said first
abbrev pub IsOther : Option Value → Value → Type 0
IsOther found value = (first : Value) × (found ≡ Some first) × (first ≢ value)

-- what is looked for: what is said first is another value
abbrev pub IsContrary : Values → Option Told → Type 0
IsContrary values None = ⊥
IsContrary values (Some t) = IsOther (value_in values t.slot) t.value

-- ---- what is usual of objects of a kind: what is said of the deepest kind

abbrev pub usual_on : (ℕ → Option Value) → Option (Option ℕ) → Option Value
usual_on climb None = None
usual_on climb (Some None) = None
usual_on climb (Some (Some parent)) = climb parent

-- by steps up, at most one for each item of a list
abbrev pub usual_from : List (Option ℕ) → List (Option ℕ) → Values → ℕ → ℕ → Option Value
usual_from [] parents usuals kind property = usuals kind property
usual_from (x ∷ left) parents usuals kind property = first_of (usuals kind property) (usual_on (λ parent. usual_from left parents usuals parent property) (slice_get parents kind))

abbrev pub usual_of : List (Option ℕ) → Values → ℕ → ℕ → Option Value
usual_of parents usuals kind property = usual_from parents parents usuals kind property

-- ---- what a map has of a bearer and a property

abbrev pub slot_eq : Slot → Slot → Bool
slot_eq a b = (a.bearer == b.bearer) && (a.property == b.property)

abbrev pub value_at : {S : Type 0} → IndexMap Slot Value S → Values
value_at values bearer property = get slot_eq values (record { bearer = bearer; property = property })
