-- What words are found to say of an object's value is what they say.
use Rattle.std.proofs.Common.{◌≡◌, ℕ, List, refl}
use Rattle.std.specs.Prelude.{Option, Some, None}
use Rattle.i7_conditions.specs.Objects.{Means}
use Rattle.i7_conditions.specs.Predicates.{is_deep, object_said}
use Rattle.i7_conditions.specs.Readings.{IsFoundAs}
use Rattle.i7_conditions.specs.Scopes.{Scope}
use Rattle.i7_conditions.specs.Values.{SaysValue, Valuing, is_over, kind_and_object, value_behind, value_by, value_named, value_said, valuing}
use Rattle.i7_conditions.specs.Words.{Word}
use Rattle.i7_conditions.proofs.Listing.{IsOnce, Made, MadeAt, at_once, made_once, none_found, one_found, some_found}
use Rattle.i7_conditions.proofs.Predicated.{object_found}
use Rattle.i7_conditions.proofs.Readings.{meant_once}

abbrev Parts : Type 0
Parts = ℕ × List Word

abbrev OfKind : Scope → List Word → Parts → Valuing → Type 0
OfKind s behind parts = MadeAt (value_named s parts.0 behind) (λ (value : ℕ). Made (valuing parts.0 value) (Means s parts.1))

by_found : (s : Scope) (behind : List Word) (parts : Parts) (value : Option ℕ) → value_named s parts.0 behind ≡ value → IsFoundAs (OfKind s behind parts) is_over (value_by s parts value)
by_found s behind parts None at = none_found (value_named s parts.0 behind) (λ (value : ℕ). Made (valuing parts.0 value) (Means s parts.1)) is_over at
by_found s behind parts (Some value) at =
    some_found (value_named s parts.0 behind) (λ (v : ℕ). Made (valuing parts.0 v) (Means s parts.1)) is_over value at (value_by s parts (Some value))
    (one_found (valuing parts.0 value) (Means s parts.1) is_deep is_over (λ o. refl) (object_said s parts.1) (object_found s parts.1))

behind_found : (s : Scope) (subject behind : List Word) (parts : Option Parts) → kind_and_object s subject ≡ parts → IsFoundAs (SaysValue s subject behind) is_over (value_behind s parts behind)
behind_found s subject behind None at = none_found (kind_and_object s subject) (OfKind s behind) is_over at
behind_found s subject behind (Some parts) at =
    some_found (kind_and_object s subject) (OfKind s behind) is_over parts at (value_behind s (Some parts) behind) (by_found s behind parts (value_named s parts.0 behind) refl)

pub value_found : (s : Scope) (subject behind : List Word) → IsFoundAs (SaysValue s subject behind) is_over (value_said s subject behind)
value_found s subject behind = behind_found s subject behind (kind_and_object s subject) refl

-- ---- one reading

pub value_once : (s : Scope) (subject behind : List Word) → IsOnce (SaysValue s subject behind)
value_once s subject behind =
    at_once (kind_and_object s subject) (OfKind s behind)
    (λ (parts : Parts). at_once (value_named s parts.0 behind) (λ (value : ℕ). Made (valuing parts.0 value) (Means s parts.1))
    (λ (value : ℕ). made_once (valuing parts.0 value) (Means s parts.1) (meant_once s parts.1)))
