-- What comes of a rulebook that is followed, its decision aside.
use Rattle.std.proofs.Common.{◌≡◌, ap, Option, Ok, Err}
use Rattle.world_meaning.specs.declared.session.Abandon.{Abandon}
use Rattle.play_meaning.specs.Acting.{progress_of as left_at}
use Rattle.play_meaning.specs.Attempts.{Attempt}
use Rattle.play_meaning.specs.Progress.{Asked, Progress}
use Rattle.play_meaning.specs.declared.outcome.Outcome.{Outcome}
use Rattle.action_stages.specs.Answering.{asked}

pub followed_so : (attempt : Attempt Asked) (p : Progress) (decision : Option Outcome) → attempt ≡ Ok (asked p decision) → left_at attempt ≡ Ok p
followed_so attempt p decision is = ap left_at is

pub followed_not : (attempt : Attempt Asked) (reason : Abandon) → attempt ≡ Err reason → left_at attempt ≡ Err reason
followed_not attempt reason is = ap left_at is
