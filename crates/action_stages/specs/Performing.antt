-- What comes of an action: an outcome, and where play has come to; and what it tries and follows, one level deeper.
use Rattle.std.specs.Prelude.{ℕ, Option, None, Some, Ok}
use Rattle.play_meaning.specs.Acting.{inner_of}
use Rattle.play_meaning.specs.Attempts.{Attempt, next}
use Rattle.play_meaning.specs.Doing.{Inner}
use Rattle.play_meaning.specs.Progress.{Asked, Progress}
use Rattle.play_meaning.specs.declared.outcome.Outcome.{Outcome}
use Rattle.play_meaning.specs.declared.outcome.Outcome.TheVariants.{Success}
use Rattle.story_format.specs.declared.tables.Tables.{Tables}
use Rattle.world_store.specs.StoryPlay.{game_in_play}

pub record Performed : Type 0 where
  pub progress : Progress
  pub outcome : Outcome

-- an action that nothing decided succeeds
abbrev pub outcome_of : Option Outcome → Outcome
outcome_of None = Success
outcome_of (Some outcome) = outcome

abbrev pub performed : Attempt Asked → Attempt Performed
performed attempt = next attempt (λ asked. Ok (record { progress = asked.progress; outcome = outcome_of asked.decision }))

abbrev pub ended_so : Progress → Outcome → Performed
ended_so p outcome = record { progress = p; outcome = outcome }

-- trying and following in a story's game, with so many levels left below
abbrev pub below : Tables → ℕ → Inner
below t depth = inner_of (game_in_play t) depth
