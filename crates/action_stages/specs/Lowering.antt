-- Games in which nothing that is done lowers the work.
use Rattle.std.specs.Prelude.{◌≡◌, ℕ, ◌≤◌, Some, slice_get}
use Rattle.play_meaning.specs.CodedStories.{Coded, CodedRule, CodedStory, RuleBody, Standard}
use Rattle.play_meaning.specs.Codes.{Codes, code_of}
use Rattle.play_meaning.specs.Doing.{Inner}
use Rattle.play_meaning.specs.Games.{Game}
use Rattle.play_meaning.specs.Progress.{Asked, Done, Progress, most_work}
use Rattle.play_meaning.specs.SoundCodes.{IsSound}
use Rattle.play_meaning.specs.declared.action.ActionNow.{ActionNow}
use Rattle.play_meaning.specs.declared.operand.Counts.{Counts}
use Rattle.play_meaning.specs.declared.operand.Use.TheVariants.{Body}
use Rattle.action_stages.specs.Measures.{Gives, IsBetween, LowersNoWork}

-- where a body has come to, where a consultation has
abbrev pub DoneBetween : ℕ → Done → Type 0
DoneBetween least done = IsBetween least done.progress

abbrev pub AskedBetween : ℕ → Asked → Type 0
AskedBetween least asked = IsBetween least asked.progress

-- a game's bodies lower no work, if what is tried and followed in them doesn't
pub record BodiesLowerNoWork (g : Game) : Type 0 where
  pub body : (rule : ℕ) (inner : Inner) → LowersNoWork inner → (now : ActionNow) (p : Progress) → p.work ≤ most_work → Gives (DoneBetween p.work) (g.body rule inner now p)

-- a code that does what a rule does is sound as a body
abbrev pub HasSoundBody : Codes → RuleBody → Type 0
HasSoundBody c (Standard n) = Unit {0}
HasSoundBody c (Coded n) = (z : Counts) × IsSound z Body (code_of c n)

-- each rule of a story has a sound body
abbrev pub HasSoundBodies : CodedStory → Type 0
HasSoundBodies k = (n : ℕ) (rule : CodedRule) → slice_get k.rules n ≡ Some rule → HasSoundBody k.codes rule.body
