-- What comes first to a key.
use Rattle.std.specs.Prelude.{Bool, Option, Some, None, if◌then◌else◌}

-- the first of two that is there
abbrev pub first_of : {X : Type 0} → Option X → Option X → Option X
first_of None other = other
first_of (Some x) other = Some x

-- what a key has when a value is given to one
abbrev pub given : {K X : Type 0} → (K → K → Bool) → K → X → K → Option X
given eq key value other = if eq key other then Some value else None
