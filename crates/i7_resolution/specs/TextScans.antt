-- The texts of a source as they are looked through from the first to the last.
use Rattle.std.specs.Prelude.{◌≡◌, ℕ, List, ◌∷◌, Option, Some, None, reverse}
use Rattle.std.specs.List.{AllZip}
use Rattle.world_meaning.specs.declared.fault.FaultCode.{FaultCode}
use Rattle.world_meaning.specs.declared.fault.FaultCode.TheVariants.{TooMany, UnknownName}
use Rattle.i7_conditions.specs.declared.found.Found.{Found}
use Rattle.i7_conditions.specs.declared.found.Found.TheVariants as read
use Rattle.i7_sentences.specs.Lowest.{lower_of}
use Rattle.play_meaning.specs.declared.tree.said.Text.{Text}
use Rattle.i7_rules.specs.Knowns.{Known}
use Rattle.i7_rules.specs.RuleScans.{IsLow}
use Rattle.i7_resolution.specs.SourceTexts.{IsOver, IsTold, IsUnknown}
use Rattle.i7_resolution.specs.TextList.{TextAt}
use Rattle.i7_resolution.specs.declared.source_texts.SoFar.{SoFar}
use Rattle.i7_resolution.specs.declared.source_texts.SourceText.{SourceText}
use Rattle.i7_resolution.specs.declared.source_texts.TextsFound.{TextsFound}
use Rattle.i7_resolution.specs.declared.source_texts.TextsFound.TheVariants as whole

-- what is told of the texts so far, the last first, and the lowest lines of what is wrong
pub record State : Type 0 where
  pub texts : List SourceText
  pub unknown : Option ℕ
  pub too_many : Option ℕ

abbrev pub state_of : SoFar → State
state_of so_far = record { texts = reverse so_far.texts.items; unknown = so_far.unknown; too_many = so_far.too_many }

abbrev pub kept_of : TextAt → Text → SourceText
kept_of t text = record { line = t.line; text = text }

-- with a text that is found to say so
abbrev pub with_found : State → TextAt → Found Text → State
with_found state t (read.Read text) = record state { texts = kept_of t text ∷ state.texts }
with_found state t read.TooMany = record state { too_many = lower_of state.too_many (Some t.line) }
with_found state t read.Unread = record state { unknown = lower_of state.unknown (Some t.line) }

-- what is found of these texts, the last first
pub record IsSoFar (k : Known) (texts : List TextAt) (state : State) : Type 0 where
  pub unknown : IsLow (IsUnknown k) texts state.unknown
  pub too_many : IsLow (IsOver k) texts state.too_many
  pub told : state.unknown ≡ None → state.too_many ≡ None → AllZip (IsTold k) texts state.texts

-- ---- what is told of all

abbrev pub refused_or : FaultCode → Option ℕ → TextsFound → TextsFound
refused_or code None next = next
refused_or code (Some line) next = whole.Refused (record { code = code; line = line })

abbrev pub so_far_told : SoFar → TextsFound
so_far_told so_far = refused_or UnknownName so_far.unknown (refused_or TooMany so_far.too_many (whole.Says so_far.texts))
