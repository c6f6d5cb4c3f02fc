-- Numbers that aren't joined of others, by their words: one form after the other is tried.
use Rattle.std.specs.Prelude.{ℕ, ℤ, List, Option, Some, None, codes, if◌then◌else◌}
use Rattle.play_meaning.specs.Meant.{term_meant}
use Rattle.play_meaning.specs.Trees as tree
use Rattle.play_meaning.specs.declared.tree.number.Term.{Term}
use Rattle.i7_conditions.specs.Descriptions.{description_said}
use Rattle.i7_conditions.specs.Keys.{is_named, property_named, split_of, variable_named}
use Rattle.i7_conditions.specs.Marks.{marks_of}
use Rattle.i7_conditions.specs.Parts.{put_together}
use Rattle.i7_conditions.specs.Scopes.{Scope}
use Rattle.i7_conditions.specs.Terms.{can_stand, literal_said}
use Rattle.i7_conditions.specs.Words.{Word}
use Rattle.i7_conditions.specs.declared.found.Found.{Found}
use Rattle.i7_conditions.specs.declared.found.Found.TheVariants.{Read, TooMany, Unread}

abbrev pub found_term : Found Term → Found tree.Number
found_term (Read t) = Read (term_meant t)
found_term TooMany = TooMany
found_term Unread = Unread

abbrev pub or_else : Found tree.Number → Found tree.Number → Found tree.Number
or_else (Read t) other = Read t
or_else TooMany other = TooMany
or_else Unread other = other

abbrev pub a_literal : Option ℤ → Found tree.Number
a_literal None = Unread
a_literal (Some n) = Read (tree.Literal n)

abbrev pub a_variable : Option ℕ → Found tree.Number
a_variable None = Unread
a_variable (Some v) = Read (tree.Variable v)

abbrev pub property_of : ℕ → Found tree.Object → Found tree.Number
property_of p (Read o) = Read (tree.PropertyOf p o)
property_of p TooMany = TooMany
property_of p Unread = Unread

abbrev pub property_by : Scope → Option ℕ → List Word → Found tree.Number
property_by s None object = Unread
property_by s (Some p) object = property_of p (put_together (marks_of s object))

abbrev pub a_property : Scope → Option (List Word × List Word) → Found tree.Number
a_property s None = Unread
a_property s (Some parts) = property_by s (property_named s parts.0) parts.1

abbrev pub count_of : Found tree.Description → Found tree.Number
count_of (Read d) = Read (tree.CountOf d)
count_of TooMany = TooMany
count_of Unread = Unread

abbrev pub a_count : Scope → Option (List Word × List Word) → Found tree.Number
a_count s None = Unread
a_count s (Some parts) = if is_named (codes "number") parts.0 then count_of (description_said s parts.1) else Unread

abbrev pub turn_count : List Word → Found tree.Number
turn_count words = if is_named (codes "turn count") words then Read tree.TurnCount else Unread

-- `of` stands in both
abbrev pub around_of : Scope → Option (List Word × List Word) → Found tree.Number
around_of s parts = or_else (a_property s parts) (a_count s parts)

-- the forms from one of the list on
abbrev pub from_property : Scope → List Word → Found tree.Number
from_property s words = or_else (around_of s (split_of words)) (turn_count words)

abbrev pub from_variable : Scope → List Word → Found tree.Number
from_variable s words = or_else (a_variable (variable_named s words)) (from_property s words)

unfoldable pub from_literal : Scope → List Word → Found tree.Number
from_literal s words = or_else (a_literal (literal_said words)) (from_variable s words)

unfoldable pub term_said : Scope → List Word → Found tree.Number
term_said s words = if can_stand s words then from_literal s words else Unread
