-- What runs of sound codes come to.
use Rattle.std.specs.Prelude.{◌≡◌, ◌⊎◌, ℕ, Bool, List, Option}
use Rattle.play_meaning.specs.Codes.{start_at}
use Rattle.play_meaning.specs.Instructions.{Instruction, sizes}
use Rattle.play_meaning.specs.Machines.{Abandons, Answers, Frame, Leaves, Step, Stuck, run}
use Rattle.play_meaning.specs.Progress.{Progress}
use Rattle.play_meaning.specs.declared.outcome.Flow.{Flow}
use Rattle.world_meaning.specs.declared.session.Abandon.{Abandon}

-- no instruction lacks, and none lacks what it takes
abbrev pub NeverStuck : List Instruction → Type 0
NeverStuck code = (f : Frame) (loops : List (Option ℕ)) (p : Progress) (steps : ℕ) → run f code steps (start_at loops p) ≡ Stuck → ⊥

abbrev pub IsAbandoned : Step → Type 0
IsAbandoned step = (reason : Abandon) × (step ≡ Abandons reason)

-- within as many steps as it has bytes it answers, or play is abandoned
abbrev pub AlwaysAnswers : List Instruction → Type 0
AlwaysAnswers code = (f : Frame) (loops : List (Option ℕ)) (p : Progress)
    → ((truth : Bool) × (run f code (sizes code) (start_at loops p) ≡ Answers truth)) ⊎ IsAbandoned (run f code (sizes code) (start_at loops p))

-- within as many steps as it has bytes it ends, or play is abandoned
abbrev pub AlwaysEnds : List Instruction → Type 0
AlwaysEnds code = (f : Frame) (loops : List (Option ℕ)) (p : Progress)
    → ((flow : Flow) × ((q : Progress) × (run f code (sizes code) (start_at loops p) ≡ Leaves flow q))) ⊎ IsAbandoned (run f code (sizes code) (start_at loops p))
