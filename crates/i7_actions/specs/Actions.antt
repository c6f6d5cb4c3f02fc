-- Actions by their names and how many nouns they ask for; those that every story has, as their table tells them.
use Rattle.std.specs.Prelude.{ℕ, List, map}
use Rattle.world_meaning.specs.declared.needs.Needs.{Needs}
use Rattle.world_meaning.specs.declared.needs.Slot.{Slot}
use Rattle.world_meaning.specs.declared.needs.Slot.TheVariants.{Absent}
use Rattle.i7_actions.specs.declared.action.Action.{Action}
use Rattle.i7_actions.specs.declared.action.NounCount.{NounCount}
use Rattle.i7_actions.specs.declared.action.NounCount.TheVariants.{Zero, One, Two}
use Rattle.i7_actions.specs.declared.action.TheConstants.{STANDARD_ACTIONS}

-- by number
unfoldable pub standard_actions : List Action
standard_actions = map (λ row. record { name = map (λ word. word.now) row.0.now; nouns = row.1 }) STANDARD_ACTIONS

-- how many nouns an action has that asks for these
abbrev pub counted : Slot → Slot → NounCount
counted Absent second = Zero
counted noun Absent = One
counted noun second = Two

abbrev pub count_needed : Needs → NounCount
count_needed needs = counted needs.noun needs.second

-- the action of this name that asks for so much
abbrev pub action_named : List (List ℕ) → Needs → Action
action_named name needs = record { name = name; nouns = count_needed needs }
