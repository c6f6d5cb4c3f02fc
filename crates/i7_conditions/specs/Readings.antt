-- Readings of words, of which the first listed is meant, and what is found of them.
use Rattle.std.specs.Prelude.{◌≡◌, ◌⊎◌, Bool, true, false}
use Rattle.i7_conditions.specs.declared.found.Found.{Found}
use Rattle.i7_conditions.specs.declared.found.Found.TheVariants.{Read, TooMany, Unread}

-- what words mean is found, be it within the limits or over them
abbrev pub IsFoundAs : {A : Type 0} → (A → Type 0) → (A → Bool) → Found A → Type 0
IsFoundAs {A} Means over (Read x) = Means x × (over x ≡ false)
IsFoundAs {A} Means over TooMany = (x : A) × Means x × (over x ≡ true)
IsFoundAs {A} Means over Unread = (x : A) → Means x → ⊥

-- the first of two readings that there is
abbrev pub FirstOf : {A : Type 0} → (A → Type 0) → (A → Type 0) → A → Type 0
FirstOf {A} First Second x = First x ⊎ (((y : A) → First y → ⊥) × Second x)

abbrev pub or_else : {A : Type 0} → Found A → Found A → Found A
or_else (Read x) other = Read x
or_else TooMany other = TooMany
or_else Unread other = other

-- two parts, each of which must mean something
abbrev pub two : {A B C : Type 0} → (A → B → C) → Found A → Found B → Found C
two make (Read x) (Read y) = Read (make x y)
two make (Read x) TooMany = TooMany
two make (Read x) Unread = Unread
two make TooMany (Read y) = TooMany
two make TooMany TooMany = TooMany
two make TooMany Unread = Unread
two make Unread second = Unread

abbrev pub one : {A B : Type 0} → (A → B) → Found A → Found B
one make (Read x) = Read (make x)
one make TooMany = TooMany
one make Unread = Unread
