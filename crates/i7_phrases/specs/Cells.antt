-- What holds a number that phrases may set: a variable, or a number property of an object.
use Rattle.std.specs.Prelude.{◌≡◌, ℕ, List, Some}
use Rattle.play_meaning.specs.Meant.{object_meant}
use Rattle.play_meaning.specs.Trees as tree
use Rattle.i7_conditions.specs.Keys.{property_named, split_of, variable_named}
use Rattle.i7_conditions.specs.Objects.{Means}
use Rattle.i7_conditions.specs.Readings.{FirstOf}
use Rattle.i7_conditions.specs.Scopes.{Scope}
use Rattle.i7_conditions.specs.Words.{Word}
use Rattle.i7_phrases.specs.declared.cell.Cell.{Cell as Kept}
use Rattle.i7_phrases.specs.declared.cell.Cell.TheVariants as kept

pub data Cell : Type 0 where
  Variable : ℕ → Cell
  -- `the PROPERTY of OBJECT`
  PropertyOf : ℕ → tree.Object → Cell

-- the number that it holds
abbrev pub read : Cell → tree.Number
read (Variable v) = tree.Variable v
read (PropertyOf p o) = tree.PropertyOf p o

abbrev pub set : Cell → tree.Number → tree.Phrase
set (Variable v) n = tree.NowVariable v n
set (PropertyOf p o) n = tree.NowNumber p o n

-- ---- which one words are

abbrev pub IsProperty : Scope → List Word → Cell → Type 0
IsProperty s words cell =
    (parts : List Word × List Word) × (split_of words ≡ Some parts) × ((p : ℕ) × (property_named s parts.0 ≡ Some p) × ((o : tree.Object) × Means s parts.1 o × (cell ≡ PropertyOf p o)))

abbrev pub IsVariable : Scope → List Word → Cell → Type 0
IsVariable s words cell = (v : ℕ) × (variable_named s words ≡ Some v) × (cell ≡ Variable v)

-- no name holds an `of`, so that words are at most one of the two
abbrev pub IsCell : Scope → List Word → Cell → Type 0
IsCell s words = FirstOf (IsProperty s words) (IsVariable s words)

-- ---- as it is kept

abbrev pub cell_meant : Kept → Cell
cell_meant (kept.Variable v) = Variable v
cell_meant (kept.PropertyOf p o) = PropertyOf p (object_meant o)
