-- A body as it is read from its first phrase to its last.
use Rattle.std.specs.Prelude.{◌≡◌, ℕ, List, ◌∷◌, Option, None, Some, reverse}
use Rattle.i7_sentences.specs.declared.rule.RulePhrase.{RulePhrase}
use Rattle.play_meaning.specs.Meant.{body_meant}
use Rattle.play_meaning.specs.Trees.{Body}
use Rattle.i7_conditions.specs.Nesting.{IsBody, at}
use Rattle.i7_conditions.specs.Readings.{IsFoundAs}
use Rattle.i7_conditions.specs.declared.found.Found.{Found}
use Rattle.i7_conditions.specs.declared.found.Found.TheVariants.{Read, TooMany, Unread}
use Rattle.i7_conditions.specs.declared.line.Line.{Line}
use Rattle.i7_conditions.specs.declared.line.Step.{Step}
use Rattle.i7_phrases.specs.Around.{Open, left, open_behind}
use Rattle.i7_rules.specs.Bodies.{AreLines, AreUnderstood, IsOverAt, IsUnknown}
use Rattle.i7_rules.specs.Knowns.{Known}
use Rattle.i7_rules.specs.Lines.{StatesAmong, found_stated, is_over_among}
use Rattle.i7_rules.specs.declared.body.BodyRead.{BodyRead}
use Rattle.i7_rules.specs.declared.body.BodyRead.TheVariants as read
use Rattle.i7_rules.specs.declared.body.SoFar.{SoFar}
use Rattle.i7_rules.specs.declared.body.SoFar.TheVariants as kept

-- the lines so far, the last first, or the line of a phrase that is over its limits
pub data State : Type 0 where
  Lines : List Line → State
  Over : ℕ → State

abbrev pub state_of : SoFar → State
state_of (kept.Lines lines) = Lines (reverse lines.items)
state_of (kept.TooMany line) = Over line

abbrev pub with_line : State → Line → State
with_line (Lines lines) line = Lines (line ∷ lines)
with_line (Over first) line = Over first

abbrev pub over_at : State → ℕ → State
over_at (Lines lines) line = Over line
over_at (Over first) line = Over first

-- with a phrase that is found to be this line
abbrev pub with_found : State → RulePhrase → Found Step → Option State
with_found state p (Read step) = Some (with_line state (at p.depth step))
with_found state p TooMany = Some (over_at state p.line)
with_found state p Unread = None

-- what a phrase is found to be, with these loops around the one before it
abbrev pub IsFoundAround : Known → Open → RulePhrase → Found Step → Type 0
IsFoundAround k around p found =
    let names = reverse (left p.depth around).names in
    IsFoundAs (StatesAmong k names p) (is_over_among names p) (found_stated found)

-- what was read of these phrases, the last first
abbrev pub IsSoFar : Known → List RulePhrase → State → Type 0
IsSoFar k before (Lines lines) = AreLines k before lines
IsSoFar k before (Over line) = AreUnderstood k before × IsOverAt k before line

-- what is read with one phrase more, if that is understood
abbrev pub IsReadOn : Known → List RulePhrase → RulePhrase → Option State → Type 0
IsReadOn k before p None = AreUnderstood k before × IsUnknown k before p
IsReadOn k before p (Some next) = IsSoFar k (p ∷ before) next

-- whatever was read before, with these loops around: one phrase more leads from the one state to the other
abbrev pub ReadsOn : Known → Open → State → RulePhrase → Option State → Type 0
ReadsOn k around state p next = (before : List RulePhrase) → around ≡ open_behind before → IsSoFar k before state → IsReadOn k before p next

-- what a body is found to be whose lines were read
abbrev pub IsEnded : SoFar → BodyRead → Type 0
IsEnded (kept.Lines lines) (read.Says body) = IsBody 0 lines.items (body_meant body.items)
IsEnded (kept.Lines lines) read.Unnested = (body : Body) → IsBody 0 lines.items body → ⊥
IsEnded (kept.TooMany line) (read.TooMany told) = told ≡ line
IsEnded _ _ = ⊥
