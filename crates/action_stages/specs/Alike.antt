-- Games that are played alike: what rulebooks and actions come to is the same in both, however deep they are nested, and so is all
-- else that play asks of them.
use Rattle.std.specs.Prelude.{◌≡◌, ℕ}
use Rattle.play_meaning.specs.Acting.{act, inner_of}
use Rattle.play_meaning.specs.Consulting.{consult}
use Rattle.play_meaning.specs.Games.{Game}
use Rattle.play_meaning.specs.Progress.{Progress}
use Rattle.play_meaning.specs.declared.action.ActionNow.{ActionNow}

pub record ArePlayedAlike (g h : Game) : Type 0 where
  pub start : g.start ≡ h.start
  pub telling : g.telling ≡ h.telling
  pub needs : g.needs ≡ h.needs
  pub scenes : g.scenes ≡ h.scenes
  pub begins : g.begins ≡ h.begins
  pub ends : g.ends ≡ h.ends
  pub reads : g.reads ≡ h.reads
  pub consulted : (levels book : ℕ) (now : ActionNow) (p : Progress) → consult g (inner_of g levels) book now p ≡ consult h (inner_of h levels) book now p
  pub acted : (levels : ℕ) (now : ActionNow) (p : Progress) → act g (inner_of g levels) now p ≡ act h (inner_of h levels) now p
