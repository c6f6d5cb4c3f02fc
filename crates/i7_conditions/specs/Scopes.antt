-- What the words of a phrase may name.
use Rattle.std.specs.Prelude.{ℕ, Bool, ◌||◌, List}
use Rattle.std.specs.List.{list_any}
use Rattle.i7_conditions.specs.Meanings.{Meanings, Plurals}
use Rattle.i7_conditions.specs.NamesOf.{has_operators, meanings_of, plurals_of}
use Rattle.i7_conditions.specs.Operators.{holds_operator}
use Rattle.i7_conditions.specs.declared.scope.Scope.{Scope as Lent}

-- what a tale's names stand for, and the names that open repeats give to their objects, the outermost first
pub record Scope : Type 0 where
  pub meanings : Meanings
  pub plurals : Plurals
  pub repeats : List (List ℕ)
  -- `plus`, `minus` or `times` is a word of one of all these names
  pub has_operators : Bool

abbrev pub scope_of : Lent → Scope
scope_of s = record {
  meanings = meanings_of s.names.now;
  plurals = plurals_of s.names.now;
  repeats = s.repeats.now;
  has_operators = has_operators s.names.now || list_any holds_operator s.repeats.now;
}
