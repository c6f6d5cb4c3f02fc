-- What holds a number, by its words: one form after the other is tried.
use Rattle.std.specs.Prelude.{ℕ, List, Option, None, Some}
use Rattle.i7_conditions.specs.Keys.{property_named, split_of, variable_named}
use Rattle.i7_conditions.specs.Predicates.{object_said}
use Rattle.i7_conditions.specs.Readings.{one, or_else}
use Rattle.i7_conditions.specs.Scopes.{Scope}
use Rattle.i7_conditions.specs.Words.{Word}
use Rattle.i7_conditions.specs.declared.found.Found.{Found}
use Rattle.i7_conditions.specs.declared.found.Found.TheVariants.{Read, TooMany, Unread}
use Rattle.i7_phrases.specs.Cells.{Cell, PropertyOf, Variable, cell_meant}
use Rattle.i7_phrases.specs.declared.cell.Cell.{Cell as Kept}

abbrev pub found_cell : Found Kept → Found Cell
found_cell (Read cell) = Read (cell_meant cell)
found_cell TooMany = TooMany
found_cell Unread = Unread

abbrev pub property_by : Scope → Option ℕ → List Word → Found Cell
property_by s None object = Unread
property_by s (Some p) object = one (PropertyOf p) (object_said s object)

abbrev pub property_around : Scope → List Word × List Word → Found Cell
property_around s parts = property_by s (property_named s parts.0) parts.1

abbrev pub property_said : Scope → Option (List Word × List Word) → Found Cell
property_said s None = Unread
property_said s (Some parts) = property_around s parts

abbrev pub variable_said : Option ℕ → Found Cell
variable_said None = Unread
variable_said (Some v) = Read (Variable v)

unfoldable pub cell_said : Scope → List Word → Found Cell
cell_said s words = or_else (property_said s (split_of words)) (variable_said (variable_named s words))
