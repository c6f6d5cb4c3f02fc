-- What names stand for is there.
use Rattle.std.specs.Prelude.{◌≡◌, ◌<◌, ℕ, List, Some}
use Rattle.i7_conditions.specs.Meanings.{Meanings, Plurals}
use Rattle.i7_conditions.specs.declared.meaning.Meaning.{Meaning}
use Rattle.i7_conditions.specs.declared.meaning.Meaning.TheVariants as meaning

-- how many there are of each sort
pub record Counts : Type 0 where
  pub objects : ℕ
  pub kinds : ℕ
  -- either-or properties
  pub qualities : ℕ
  -- number properties
  pub numbers : ℕ
  pub variables : ℕ
  pub scenes : ℕ
  -- of each kind of value, none of what is no kind of value
  pub values : ℕ → ℕ

abbrev pub IsThere : Counts → Meaning → Type 0
IsThere z (meaning.Object o) = o < z.objects
IsThere z (meaning.Kind kind) = kind < z.kinds
IsThere z (meaning.Quality p side) = p < z.qualities
IsThere z (meaning.Number p) = p < z.numbers
IsThere z (meaning.Variable v) = v < z.variables
IsThere z (meaning.Scene scene) = scene < z.scenes
IsThere z (meaning.ValueKind q) = 0 < z.values q
IsThere z (meaning.Value q v) = v < z.values q

abbrev pub AreNamesThere : Counts → Meanings → Type 0
AreNamesThere z meanings = (name : List ℕ) (m : Meaning) → meanings name ≡ Some m → IsThere z m

abbrev pub ArePluralsThere : Counts → Plurals → Type 0
ArePluralsThere z plurals = (name : List ℕ) (kind : ℕ) → plurals name ≡ Some kind → kind < z.kinds

-- the player and things are there, and what names and plurals stand for
pub record AreThere (z : Counts) (meanings : Meanings) (plurals : Plurals) : Type 0 where
  pub player : 0 < z.objects
  pub things : 0 < z.kinds
  pub names : AreNamesThere z meanings
  pub plural_kinds : ArePluralsThere z plurals
