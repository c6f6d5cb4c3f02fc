-- Play that goes on or is abandoned, and steps one behind the other.
use Rattle.std.specs.Prelude.{Result, Ok, Err}
use Rattle.world_meaning.specs.declared.session.Abandon.{Abandon}

-- play goes on, or it is abandoned
abbrev pub Attempt : Type 0 → Type 0
Attempt A = Result A Abandon

-- the next step, unless play is abandoned
abbrev pub next : {A B : Type 0} → Attempt A → (A → Attempt B) → Attempt B
next (Ok a) step = step a
next (Err reason) step = Err reason
