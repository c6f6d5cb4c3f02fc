-- Which rules of a book a walk passes over: those that aren't about what is there.
use Rattle.std.specs.Prelude.{◌≡◌, ℕ, ◌≤◌, ◌<◌, false, MatchOption, Option, Some, slice_get}
use Rattle.play_meaning.specs.Games.{Game}
use Rattle.play_meaning.specs.Worlds.{World}
use Rattle.play_meaning.specs.declared.action.ActionNow.{ActionNow}

-- no rule of a book at a place from the first up to the second, which is left out, is about what is there
abbrev pub NoneIsAbout : Game → (book : ℕ) → ActionNow → World → (from upto : ℕ) → Type 0
NoneIsAbout g book now w from upto = (place rule : ℕ) → from ≤ place → place < upto → slice_get (g.books book) place ≡ Some rule → g.is_about rule now w ≡ false

-- nor is any from this place on
abbrev pub NoneBehindIsAbout : Game → (book : ℕ) → ActionNow → World → (from : ℕ) → Type 0
NoneBehindIsAbout g book now w from = (place rule : ℕ) → from ≤ place → slice_get (g.books book) place ≡ Some rule → g.is_about rule now w ≡ false

-- the rule of a book at this place may be asked next, from a place on
pub record IsNext (g : Game) (book : ℕ) (now : ActionNow) (w : World) (from place rule : ℕ) : Type 0 where
  pub behind : from ≤ place
  pub there : slice_get (g.books book) place ≡ Some rule
  pub others : NoneIsAbout g book now w from place

-- what is found from a place on: the next rule and its place, or nothing where none is about what is there
abbrev pub FindsNext : Game → (book : ℕ) → ActionNow → World → (from : ℕ) → Option (ℕ × ℕ) → Type 0
FindsNext g book now w from found = MatchOption found (NoneBehindIsAbout g book now w from) (λ next. IsNext g book now w from next.0 next.1)
