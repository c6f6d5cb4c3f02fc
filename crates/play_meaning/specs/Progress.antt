-- Where play has come to, and steps one behind the other.
use Rattle.std.specs.Prelude.{ℕ, ◌+◌, nat_lt, List, [], ◌∷◌, ◌++◌, Option, None, Some, Ok, Err, if◌then◌else◌}
use Rattle.play_meaning.specs.Attempts.{Attempt, next}
use Rattle.world_meaning.specs.declared.session.Abandon.TheVariants.{TooMuchWork}
use Rattle.play_meaning.specs.Worlds.{World}
use Rattle.play_meaning.specs.declared.outcome.Flow.{Flow}
use Rattle.play_meaning.specs.declared.outcome.Flow.TheVariants.{GoesOn, NoDecision, Decides}
use Rattle.play_meaning.specs.declared.outcome.Outcome.{Outcome}

-- the world, what was said so far, and the work that was done
pub record Progress : Type 0 where
  pub world : World
  pub text : List ℕ
  pub work : ℕ

-- where a body has come to, and how it leaves off
pub record Done : Type 0 where
  pub progress : Progress
  pub flow : Flow

-- where a consultation has come to, and its decision
pub record Asked : Type 0 where
  pub progress : Progress
  pub decision : Option Outcome

abbrev pub fresh : World → Progress
fresh world = record { world = world; text = []; work = 0 }

abbrev pub say : List ℕ → Progress → Progress
say text p = record p { text = p.text ++ text }

abbrev pub change : (World → World) → Progress → Progress
change f p = record p { world = f p.world }

abbrev pub goes_on : Progress → Done
goes_on p = record { progress = p; flow = GoesOn }

abbrev pub leaves : Flow → Progress → Attempt Done
leaves flow p = Ok (record { progress = p; flow = flow })

abbrev pub undecided : Progress → Asked
undecided p = record { progress = p; decision = None }

-- the most work of a command or of the opening
abbrev pub most_work : ℕ
most_work = 10000

-- one unit of work: a rule's body that begins, or a turn of a repeat
unfoldable pub spend : Progress → Attempt Progress
spend p = if nat_lt p.work most_work then Ok (record p { work = p.work + 1 }) else Err TooMuchWork

-- what follows a phrase, unless it ended the body
abbrev pub unless_left : Flow → Progress → (Progress → Attempt Done) → Attempt Done
unless_left GoesOn p more = more p
unless_left NoDecision p more = leaves NoDecision p
unless_left (Decides outcome) p more = leaves (Decides outcome) p

abbrev pub then_do : Attempt Done → (Progress → Attempt Done) → Attempt Done
then_do first more = next first (λ done. unless_left done.flow done.progress more)

abbrev pub unless_decided : Option Outcome → Progress → Attempt Asked → Attempt Asked
unless_decided None p more = more
unless_decided (Some outcome) p more = Ok (record { progress = p; decision = Some outcome })

-- steps in a row, up to the first decision
abbrev pub first_decision : List (Progress → Attempt Asked) → Progress → Attempt Asked
first_decision [] p = Ok (undecided p)
first_decision (step ∷ steps) p = next (step p) (λ asked. unless_decided asked.decision asked.progress (first_decision steps asked.progress))
