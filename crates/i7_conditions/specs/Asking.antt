-- What clauses with an `is` ask, by their words: one form after the other is tried.
use Rattle.std.specs.Prelude.{ℕ, Bool, List, Option, Some, None, if◌then◌else◌}
use Rattle.play_meaning.specs.Meant.{basic_meant, clause_meant}
use Rattle.play_meaning.specs.Trees as tree
use Rattle.play_meaning.specs.declared.tree.condition.Basic.{Basic}
use Rattle.play_meaning.specs.declared.tree.condition.Clause.{Clause}
use Rattle.i7_conditions.specs.Adjectives.{quality_named}
use Rattle.i7_conditions.specs.Clauses.{behind_not, behind_nots, compared, comparison_at, has_value, is_happening, scene_named}
use Rattle.i7_conditions.specs.Joining.{number_said}
use Rattle.i7_conditions.specs.Predicates.{object_said, predicate_said, said_of, so_by}
use Rattle.i7_conditions.specs.Readings.{one, or_else, two}
use Rattle.i7_conditions.specs.Scopes.{Scope}
use Rattle.i7_conditions.specs.Values.{value_said}
use Rattle.i7_conditions.specs.Words.{Word}
use Rattle.i7_conditions.specs.declared.comparison.Comparison.{Comparison}
use Rattle.i7_conditions.specs.declared.found.Found.{Found}
use Rattle.i7_conditions.specs.declared.found.Found.TheVariants.{Read, TooMany, Unread}

abbrev pub found_basic : Found Basic → Found tree.Condition
found_basic (Read basic) = Read (basic_meant basic)
found_basic TooMany = TooMany
found_basic Unread = Unread

abbrev pub found_clause : Found Clause → Found tree.Condition
found_clause (Read clause) = Read (clause_meant clause)
found_clause TooMany = TooMany
found_clause Unread = Unread

abbrev pub of_value : Scope → List Word → List Word → Found tree.Condition
of_value s subject predicate = one has_value (value_said s subject predicate)

abbrev pub of_object : Scope → List Word → List Word → Found tree.Condition
of_object s subject predicate = two said_of (object_said s subject) (predicate_said s predicate)

abbrev pub of_numbers : Scope → List Word → List Word → Found tree.Condition
of_numbers s subject predicate = two tree.Equals (number_said s subject) (number_said s predicate)

abbrev pub scene_by : Option ℕ → Bool → Found tree.Condition
scene_by None happens = Unread
scene_by (Some k) happens = if happens then Read (tree.Happens k) else Unread

abbrev pub of_scene : Scope → List Word → List Word → Found tree.Condition
of_scene s subject predicate = scene_by (scene_named s subject) (is_happening predicate)

abbrev pub from_numbers : Scope → List Word → List Word → Found tree.Condition
from_numbers s subject predicate = or_else (of_numbers s subject predicate) (of_scene s subject predicate)

abbrev pub from_object : Scope → List Word → List Word → Found tree.Condition
from_object s subject predicate = or_else (of_object s subject predicate) (from_numbers s subject predicate)

unfoldable pub plain_said : Scope → List Word → List Word → Found tree.Condition
plain_said s subject predicate = or_else (of_value s subject predicate) (from_object s subject predicate)

abbrev pub denied_by : Scope → List Word → Option (List Word) → Found tree.Condition
denied_by s subject None = Unread
denied_by s subject (Some rest) = one tree.Not (plain_said s subject rest)

abbrev pub of_adjective : Scope → List Word → List Word → Found tree.Condition
of_adjective s subject words = two said_of (object_said s subject) (so_by (quality_named s words))

abbrev pub denied_twice : Scope → List Word → Option (List Word) → Found tree.Condition
denied_twice s subject None = Unread
denied_twice s subject (Some rest) = of_adjective s subject rest

abbrev pub compared_by : Scope → List Word → Option (Comparison × List Word) → Found tree.Condition
compared_by s subject None = Unread
compared_by s subject (Some parts) = two (compared parts.0) (number_said s subject) (number_said s parts.1)

abbrev pub from_twice : Scope → List Word → List Word → Found tree.Condition
from_twice s subject predicate = or_else (denied_twice s subject (behind_nots predicate)) (compared_by s subject (comparison_at predicate))

abbrev pub from_denied : Scope → List Word → List Word → Found tree.Condition
from_denied s subject predicate = or_else (denied_by s subject (behind_not predicate)) (from_twice s subject predicate)

unfoldable pub asked_by : Scope → List Word → List Word → Found tree.Condition
asked_by s subject predicate = or_else (plain_said s subject predicate) (from_denied s subject predicate)
