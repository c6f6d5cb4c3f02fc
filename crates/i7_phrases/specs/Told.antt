-- What is told of a phrase: what it means, if it has one of certain forms, and nothing else.
use Rattle.std.specs.Prelude.{◌≡◌, Bool, true, false, Option, None, Some}
use Rattle.i7_conditions.specs.Readings.{IsFoundAs}
use Rattle.i7_conditions.specs.declared.found.Found.{Found}

abbrev pub IsToldOf : {A : Type 0} → Bool → (A → Type 0) → (A → Bool) → Option (Found A) → Type 0
IsToldOf {A} has_form Means over None = has_form ≡ false
IsToldOf {A} has_form Means over (Some found) = (has_form ≡ true) × IsFoundAs Means over found
