-- What clauses ask, by their words.
use Rattle.std.specs.Prelude.{List, Option, Some, None, if◌then◌else◌}
use Rattle.play_meaning.specs.Trees as tree
use Rattle.i7_conditions.specs.Asking.{asked_by}
use Rattle.i7_conditions.specs.Clauses.{behind_not, is_darkness, split_is}
use Rattle.i7_conditions.specs.Readings.{or_else}
use Rattle.i7_conditions.specs.Scopes.{Scope}
use Rattle.i7_conditions.specs.Verbs.{by_verb}
use Rattle.i7_conditions.specs.Words.{Word}
use Rattle.i7_conditions.specs.declared.found.Found.{Found}
use Rattle.i7_conditions.specs.declared.found.Found.TheVariants.{Read, Unread}

abbrev pub dark_said : List Word → Found tree.Condition
dark_said words = if is_darkness words then Read tree.InDarkness else Unread

abbrev pub not_dark : Option (List Word) → Found tree.Condition
not_dark None = Unread
not_dark (Some rest) = if is_darkness rest then Read (tree.Not tree.InDarkness) else Unread

abbrev pub asked_in : Scope → List Word → Option (List Word × List Word) → Found tree.Condition
asked_in s words None = by_verb s words
asked_in s words (Some parts) = asked_by s parts.0 parts.1

abbrev pub from_not_dark : Scope → List Word → Found tree.Condition
from_not_dark s words = or_else (not_dark (behind_not words)) (asked_in s words (split_is words))

unfoldable pub clause_said : Scope → List Word → Found tree.Condition
clause_said s words = or_else (dark_said words) (from_not_dark s words)
