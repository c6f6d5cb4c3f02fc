-- What names and plurals stand for, and what is added to it.
use Rattle.std.specs.Prelude.{ℕ, Bool, false, ◌||◌, List, Option, Some, None}
use Rattle.world_meaning.specs.Spelling.{lowered}
use Rattle.i7_conditions.specs.Meanings.{Meanings, Plurals, no_kinds, no_meanings, with_kind, with_meaning}
use Rattle.i7_conditions.specs.NamesOf.{has_operators, meanings_of, plurals_of}
use Rattle.i7_conditions.specs.Operators.{holds_operator}
use Rattle.i7_conditions.specs.declared.meaning.Meaning.{Meaning}
use Rattle.i7_conditions.specs.declared.names.Names.{Names}

pub record Known : Type 0 where
  pub meanings : Meanings
  pub plurals : Plurals
  -- `plus`, `minus` or `times` is a word of one of these names
  pub has_operators : Bool

abbrev pub known_of : Names → Known
known_of names = record { meanings = meanings_of names; plurals = plurals_of names; has_operators = has_operators names }

abbrev pub nothing_known : Known
nothing_known = record { meanings = no_meanings; plurals = no_kinds; has_operators = false }

-- a name, where it stands for something
abbrev pub with_name : Known → List ℕ → Option Meaning → Known
with_name known name None = known
with_name known name (Some meaning) = record {
  meanings = with_meaning known.meanings (lowered name) meaning;
  plurals = known.plurals;
  has_operators = known.has_operators || holds_operator name;
}

-- a plural, where it is a kind's
abbrev pub with_plural : Known → List ℕ → Option ℕ → Known
with_plural known plural None = known
with_plural known plural (Some kind) = record {
  meanings = known.meanings;
  plurals = with_kind known.plurals (lowered plural) kind;
  has_operators = known.has_operators || holds_operator plural;
}
