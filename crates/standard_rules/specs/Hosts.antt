-- Stored rules: on which actions they may be called, and why one isn't taken into their table.
use Rattle.std.specs.Prelude.{◌≡◌, ◌≢◌, ◌<◌, ◌≤◌, ℕ, ◌+◌, nat_lt, Bool, true, ◌&&◌, ◌||◌, ◌==◌, List, [], ◌∷◌, length, Option, None, Some}
use Rattle.play_meaning.specs.declared.action.ActionNow.{ActionNow}
use Rattle.standard_rules.specs.declared.host_fault.HostFault.{HostFault}
use Rattle.standard_rules.specs.declared.host_fault.HostFault.TheVariants.{Full, Memory, OutOfOrder}
use Rattle.world_store.specs.StoryWorlds.{StoryWorld}

abbrev pub has_object : StoryWorld → Option ℕ → Bool
has_object s None = true
has_object s (Some o) = nat_lt o (length s.tables.objects)

-- the story has the action and its nouns, or there are none of them
unfoldable pub are_there : StoryWorld → ActionNow → Bool
are_there s now = (nat_lt now.action (length s.tables.rules.actions) || (now.action == 255)) && has_object s now.noun && has_object s now.second

-- the rules have the numbers from this one on, in order
abbrev pub are_numbered : {R : Type 0} → (R → ℕ) → ℕ → List R → Bool
are_numbered id next [] = true
are_numbered id next (rule ∷ rules) = (id rule == next) && are_numbered id (next + 1) rules

-- why a rule of this number isn't taken into a table of so many
abbrev pub IsRefused : ℕ → ℕ → HostFault → Type 0
IsRefused count id Full = 61 ≤ count
IsRefused count id OutOfOrder = (count < 61) × (id ≢ count + 1)
IsRefused count id Memory = (count < 61) × (id ≡ count + 1)
