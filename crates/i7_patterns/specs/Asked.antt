-- What is found of words that ask something: of one reading, or that there is none.
use Rattle.std.specs.Prelude.{◌≡◌, Bool, true, false, Option, Some, None, if◌then◌else◌}
use Rattle.i7_patterns.specs.declared.asked.Asked.{Asked}
use Rattle.i7_patterns.specs.declared.asked.Asked.TheVariants.{Read, TooMany, Unread, WrongKind}

-- what words mean is found as it is, or its place is wrong, or its place is right and it is over the limits
abbrev pub IsAsked : {A : Type 0} → (A → Type 0) → (A → Bool) → (A → Bool) → Asked A → Type 0
IsAsked {A} Means is_right over (Read x) = Means x × (is_right x ≡ true) × (over x ≡ false)
IsAsked {A} Means is_right over WrongKind = (x : A) × Means x × (is_right x ≡ false)
IsAsked {A} Means is_right over TooMany = (x : A) × Means x × (is_right x ≡ true) × (over x ≡ true)
IsAsked {A} Means is_right over Unread = (x : A) → Means x → ⊥

-- what is told of the one reading
abbrev pub judged : {A : Type 0} → (A → Bool) → (A → Bool) → Option A → Asked A
judged is_right over None = Unread
judged is_right over (Some x) = if is_right x then (if over x then TooMany else Read x) else WrongKind
