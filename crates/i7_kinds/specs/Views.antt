-- The compiler's tables as contracts see them.
use Rattle.std.specs.Prelude.{◌≡◌, Bool, ◌==◌, ◌&&◌, if◌then◌else◌, List, [], ◌∷◌, ℕ, nat_eq, option_copied, Option, Some, None}
use Rattle.std.specs.Borrow.{Bor}
use Rattle.indexmap.specs.IndexMap.{IndexMap, get}
use Rattle.i7_claims.specs.Firsts.{first_of}
use Rattle.i7_kinds.specs.declared.descriptions.Description.{Description}
use Rattle.i7_kinds.specs.declared.ways.Exit.{Exit}
use Rattle.i7_kinds.specs.declared.ways.Target.{Target}

abbrev pub found_descriptions : Option Description → List Description
found_descriptions None = []
found_descriptions (Some description) = description ∷ []

-- the text that a map has for an object
abbrev pub text_at : {S : Type 0} → IndexMap ℕ (Bor (List ℕ)) S → ℕ → Option (List ℕ)
text_at firsts object = option_copied (get nat_eq firsts object)

abbrev pub exit_eq : Exit → Exit → Bool
exit_eq a b = (a.room == b.room) && (a.direction == b.direction)

-- the target that a map has for an exit
abbrev pub target_at : {S : Type 0} → IndexMap Exit Target S → ℕ → ℕ → Option Target
target_at targets room direction = get exit_eq targets (record { room = room; direction = direction })

-- an exit that has a target keeps it, and the others are given theirs
abbrev pub LeadsOn : {S : Type 0} → IndexMap Exit Target S → IndexMap Exit Target S → (ℕ → ℕ → Option Target) → Type 0
LeadsOn old new given = (room direction : ℕ) → target_at new room direction ≡ first_of (target_at old room direction) (given room direction)

-- the target of an exit when one is given to this one
abbrev pub given_exit : Exit → Target → ℕ → ℕ → Option Target
given_exit exit target room direction = if (exit.room == room) && (exit.direction == direction) then Some target else None
