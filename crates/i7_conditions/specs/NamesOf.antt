-- The names of a tale as contracts see them.
use Rattle.std.specs.Prelude.{Bool}
use Rattle.i7_conditions.specs.Meanings.{Meanings, Plurals, meaning_at, plural_at}
use Rattle.i7_conditions.specs.declared.names.Names.{Names}

abbrev pub meanings_of : Names → Meanings
meanings_of names = meaning_at names.meanings

abbrev pub plurals_of : Names → Plurals
plurals_of names = plural_at names.plurals

-- `plus`, `minus` or `times` is a word of a name or of a plural
abbrev pub has_operators : Names → Bool
has_operators names = names.with_operator
