-- The action that words try, by going over the actions by number.
use Rattle.std.specs.Prelude.{ℕ, ◌+◌, Bool, true, ◌&&◌, List, [], ◌∷◌, Option, Some, None, if◌then◌else◌}
use Rattle.play_meaning.specs.Meant.{object_meant}
use Rattle.i7_conditions.specs.Joining.{is_read}
use Rattle.i7_conditions.specs.Readings.{one}
use Rattle.i7_conditions.specs.Scopes.{Scope}
use Rattle.i7_conditions.specs.Words.{Word}
use Rattle.i7_conditions.specs.declared.found.Found.{Found}
use Rattle.i7_conditions.specs.declared.found.Found.TheVariants.{Read, TooMany, Unread}
use Rattle.i7_actions.specs.NounForms.{nouns_said}
use Rattle.i7_actions.specs.Nouns.{Nouns}
use Rattle.i7_actions.specs.Trying.{Try, is_longer}
use Rattle.i7_actions.specs.declared.action.Action.{Action}
use Rattle.i7_actions.specs.declared.tried.Tried.{Tried}

abbrev pub try_of : ℕ → Nouns → Try
try_of number nouns = record { action = number; nouns = nouns }

abbrev pub found_try : Found Tried → Found Try
found_try (Read t) = Read (record { action = t.action; nouns = (object_meant t.noun, object_meant t.second) })
found_try TooMany = TooMany
found_try Unread = Unread

-- the best so far, with its number
abbrev pub Best : Type 0
Best = Option (ℕ × Action)

abbrev pub is_better : Action → Best → Bool
is_better a None = true
is_better a (Some best) = is_longer a best.1

abbrev pub can_try : Scope → List Word → Action → Bool
can_try s words a = is_read (nouns_said s a words)

-- an action that has a reading, as the test tells, is longer than the best so far
abbrev pub improves : (Action → Bool) → Action → Best → Bool
improves can a best = is_better a best && can a

-- the best, where the first of these actions has this number
abbrev pub best_from : (Action → Bool) → ℕ → Best → List Action → Best
best_from can number best [] = best
best_from can number best (a ∷ rest) = best_from can (number + 1) (if improves can a best then Some (number, a) else best) rest

abbrev pub tried_by : Scope → List Word → Best → Found Try
tried_by s words None = Unread
tried_by s words (Some best) = one (try_of best.0) (nouns_said s best.1 words)

unfoldable pub tried_said : List Action → Scope → List Word → Found Try
tried_said actions s words = tried_by s words (best_from (can_try s words) 0 None actions)
