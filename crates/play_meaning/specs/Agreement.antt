-- Games that agree, place by place.
use Rattle.std.specs.Prelude.{◌≡◌, ℕ, Bool, List, Option}
use Rattle.play_meaning.specs.Doing.{Inner}
use Rattle.play_meaning.specs.Games.{Game, Question}
use Rattle.play_meaning.specs.Progress.{Progress}
use Rattle.play_meaning.specs.Settings.{Setting}
use Rattle.play_meaning.specs.Worlds.{World}
use Rattle.play_meaning.specs.declared.action.ActionNow.{ActionNow}

pub record SettingsAgree (a b : Setting) : Type 0 where
  pub count : a.count ≡ b.count
  pub name : (o : ℕ) → a.name o ≡ b.name o
  pub article : (o : ℕ) → a.article o ≡ b.article o
  pub is_of : (o kind : ℕ) → a.is_of o kind ≡ b.is_of o kind
  pub depth : (kind : ℕ) → a.depth kind ≡ b.depth kind
  pub has_flag : (o property : ℕ) → a.has_flag o property ≡ b.has_flag o property
  pub has_number : (o property : ℕ) → a.has_number o property ≡ b.has_number o property
  pub has_value : (o q : ℕ) → a.has_value o q ≡ b.has_value o q
  pub value_names : (q : ℕ) → a.value_names q ≡ b.value_names q
  pub room_beyond : (room direction : ℕ) → a.room_beyond room direction ≡ b.room_beyond room direction
  pub door_beyond : (room direction : ℕ) → a.door_beyond room direction ≡ b.door_beyond room direction
  pub has_description : (o : ℕ) → a.has_description o ≡ b.has_description o

pub record Agree (g h : Game) : Type 0 where
  pub start : g.start ≡ h.start
  pub setting : SettingsAgree g.telling.setting h.telling.setting
  pub describes : (o : ℕ) (now : ActionNow) (w : World) → g.telling.describes o now w ≡ h.telling.describes o now w
  pub books : (book : ℕ) → g.books book ≡ h.books book
  pub needs : (action : ℕ) → g.needs action ≡ h.needs action
  pub is_about : (rule : ℕ) (now : ActionNow) (w : World) → g.is_about rule now w ≡ h.is_about rule now w
  pub holds : (rule : ℕ) (now : ActionNow) (w : World) → g.holds rule now w ≡ h.holds rule now w
  pub body : (rule : ℕ) (inner : Inner) (now : ActionNow) (p : Progress) → g.body rule inner now p ≡ h.body rule inner now p
  pub scenes : g.scenes ≡ h.scenes
  pub begins : (scene : ℕ) (w : World) → g.begins scene w ≡ h.begins scene w
  pub ends : (scene : ℕ) (w : World) → g.ends scene w ≡ h.ends scene w
  pub reads : (question : Option Question) (sees : ℕ → Bool) (words : List (List ℕ)) → g.reads question sees words ≡ h.reads question sees words
