-- What code answers, against what play comes to: where memory lacked nothing is claimed.
use Rattle.std.specs.Prelude.{◌≡◌, ◌≢◌, Option, Result, Ok, Err}
use Rattle.play_meaning.specs.Attempts.{Attempt}
use Rattle.play_meaning.specs.Progress.{Asked, Done, Progress, leaves}
use Rattle.play_meaning.specs.declared.outcome.Flow.{Flow}
use Rattle.play_meaning.specs.declared.outcome.Outcome.{Outcome}
use Rattle.world_meaning.specs.declared.session.Abandon.{Abandon}
use Rattle.world_meaning.specs.declared.session.Abandon.TheVariants.{Memory}

-- play is abandoned for this, unless memory lacked
abbrev pub Breaks : {A : Type 0} → Attempt A → Abandon → Type 0
Breaks attempt reason = reason ≢ Memory → attempt ≡ Err reason

-- the answer tells the value that play comes to, or why it is abandoned
abbrev pub Answers : {R A : Type 0} → Result R Abandon → (R → A) → Attempt A → Type 0
Answers (Ok r) value attempt = attempt ≡ Ok (value r)
Answers (Err reason) value attempt = Breaks attempt reason

-- the answer tells just what play comes to: no memory is asked for
abbrev pub Comes : {R A : Type 0} → Result R Abandon → (R → A) → Attempt A → Type 0
Comes (Ok r) value attempt = attempt ≡ Ok (value r)
Comes (Err reason) value attempt = attempt ≡ Err reason

abbrev pub asked : Progress → Option Outcome → Asked
asked p decision = record { progress = p; decision = decision }

abbrev pub done : Progress → Flow → Done
done p flow = record { progress = p; flow = flow }

-- how a rule ends that is computed
abbrev pub ends_so : Attempt Flow → Progress → Attempt Done
ends_so (Ok flow) p = leaves flow p
ends_so (Err reason) p = Err reason
