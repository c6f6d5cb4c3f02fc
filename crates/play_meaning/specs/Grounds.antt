-- What a story in play never changes, and how things are told of where its codes are what describes them.
use Rattle.std.specs.Prelude.{ℕ, List, [], Option, None, Some, Ok}
use Rattle.play_meaning.specs.Attempts.{Attempt}
use Rattle.play_meaning.specs.Codes.{Codes, description_said}
use Rattle.play_meaning.specs.Saying.{Telling}
use Rattle.play_meaning.specs.Scripts.{undescribed}
use Rattle.play_meaning.specs.Settings.{Setting}
use Rattle.play_meaning.specs.Worlds.{World}
use Rattle.play_meaning.specs.declared.action.ActionNow.{ActionNow}

pub record Fixed : Type 0 where
  pub setting : Setting
  pub strings : List (List ℕ)
  -- the code of an object's description, where it is described
  pub descriptions : ℕ → Option ℕ

abbrev pub said_by_code : Codes → Setting → ActionNow → World → Option ℕ → Attempt (List ℕ)
said_by_code c s now w None = Ok []
said_by_code c s now w (Some n) = description_said c (undescribed s) n now w

-- each object is described by the code of its number; nothing is described within a description
abbrev pub telling_by : Codes → Setting → (ℕ → Option ℕ) → Telling
telling_by c s descriptions = record { setting = s; describes = λ o now w. said_by_code c s now w (descriptions o) }
