-- Which rules an index may pass over: a rule admits an action, a noun and a room if it names them, or a kind of the noun's
-- or the room's, or none.
use Rattle.std.specs.Prelude.{ℕ, Bool, true, ◌&&◌, Option}
use Rattle.play_meaning.specs.Rules.{Anything, Aspect, Exactly, OfKind, Rule, is_action}
use Rattle.play_meaning.specs.Seeing.{is_number}
use Rattle.play_meaning.specs.Settings.{Setting}
use Rattle.play_meaning.specs.Truth.{of_some}

-- adjectives aren't looked at
abbrev pub may_be_met : Setting → Aspect → Option ℕ → Bool
may_be_met s Anything o = true
may_be_met s (Exactly n) o = is_number o n
may_be_met s (OfKind kind adjectives) o = of_some o (λ n. s.is_of n kind)

unfoldable pub admits : Setting → Rule → ℕ → Option ℕ → Option ℕ → Bool
admits s rule action noun room = is_action rule.action action && may_be_met s rule.noun noun && may_be_met s rule.place room
