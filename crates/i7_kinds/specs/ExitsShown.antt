-- Where an exit, a direction out of a room, leads by what sentences state.
use Rattle.std.specs.Prelude.{◌≡◌, ◌⊎◌, List, Option, Some, None}
use Rattle.i7_claims.specs.declared.statements.Numbered.{Numbered}
use Rattle.i7_claims.specs.declared.statements.Numbered.TheVariants as numbered
use Rattle.i7_claims.specs.declared.statements.NumberedSentence.{NumberedSentence}
use Rattle.i7_kinds.specs.Demands.{way_back}
use Rattle.i7_kinds.specs.FirstShown.{IsShown}
use Rattle.i7_kinds.specs.RefusalsShown.{States}
use Rattle.i7_kinds.specs.declared.ways.Exit.{Exit}
use Rattle.i7_kinds.specs.declared.ways.Lead.{Lead}
use Rattle.i7_kinds.specs.declared.ways.Target.{Target}

-- what is stated implies its way back; a door has both its ways
abbrev pub Implies : Lead → Numbered → Type 0
Implies lead (numbered.Way way) = lead ≡ way_back way
Implies lead _ = ⊥

-- some statement leads an exit to a target, by the ways that it states, or by those that it implies
abbrev pub IsLed : (Lead → Numbered → Type 0) → List NumberedSentence → Exit → Target → Type 0
IsLed Leads statements exit target = IsShown (λ before s. Leads (record { exit = exit; target = target }) s.said) statements

abbrev pub IsUnled : (Lead → Numbered → Type 0) → List NumberedSentence → Exit → Type 0
IsUnled Leads statements exit = (target : Target) → IsLed Leads statements exit target → ⊥

-- and none before it leads the exit anywhere
pub record IsLedFirst (Leads : Lead → Numbered → Type 0) (statements : List NumberedSentence) (exit : Exit) (target : Target) : Type 0 where
  pub first : IsLed Leads statements exit target
  pub none_before : IsUnled Leads first.before exit

-- an exit leads where the first statement says that states it; where none states it, where the first leads that implies it;
-- and else nowhere
abbrev pub IsWayOut : List NumberedSentence → Exit → Option Target → Type 0
IsWayOut statements exit None = IsUnled States statements exit × IsUnled Implies statements exit
IsWayOut statements exit (Some target) =
    IsLedFirst States statements exit target
    ⊎ (IsUnled States statements exit × IsLedFirst Implies statements exit target)
