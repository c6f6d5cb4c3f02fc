-- A rule: its rulebook, what it is about, its condition and its body; and when what it is about is there.
use Rattle.std.specs.Prelude.{ℕ, Bool, true, false, ◌&&◌, ◌==◌, List, Option, None, Some}
use Rattle.play_meaning.specs.Seeing.{is_number}
use Rattle.play_meaning.specs.Settings.{Setting}
use Rattle.play_meaning.specs.Trees.{Adjective, Body, Condition}
use Rattle.play_meaning.specs.Values.{is_among}
use Rattle.play_meaning.specs.Worlds.{World, location_of, scene_of}
use Rattle.play_meaning.specs.declared.action.ActionNow.{ActionNow}

-- what a rule asks of a noun or of the place
pub data Aspect : Type 0 where
  Anything : Aspect
  Exactly : ℕ → Aspect
  -- of a kind or one below it, and so
  OfKind : ℕ → List Adjective → Aspect

-- where sentences list a rule
pub data Listed : Type 0 where
  InOrder : Listed
  -- first or last, by the number of the sentence
  ListedFirst : ℕ → Listed
  ListedLast : ℕ → Listed
  Unlisted : Listed

pub record Rule : Type 0 where
  pub book : ℕ
  pub action : Option ℕ
  pub noun : Aspect
  pub second : Aspect
  pub place : Aspect
  pub scene : Option ℕ
  pub condition : Option Condition
  pub body : Body
  pub listed : Listed

-- of nothing every aspect is false that asks anything
abbrev pub is_met : Setting → World → Aspect → Option ℕ → Bool
is_met s w Anything o = true
is_met s w (Exactly n) o = is_number o n
is_met s w (OfKind kind adjectives) None = false
is_met s w (OfKind kind adjectives) (Some o) = is_among s w adjectives (Some kind) o

-- of no action, too
abbrev pub is_action : Option ℕ → ℕ → Bool
is_action None action = true
is_action (Some n) action = (n == action)

abbrev pub is_happening : World → Option ℕ → Bool
is_happening w None = true
is_happening w (Some scene) = (scene_of w scene).happens

-- what the rule is about is there; its condition isn't looked at
unfoldable pub is_about : Setting → World → ActionNow → Rule → Bool
is_about s w now rule =
    is_action rule.action now.action && is_met s w rule.noun now.noun && is_met s w rule.second now.second
    && is_met s w rule.place (location_of w) && is_happening w rule.scene
