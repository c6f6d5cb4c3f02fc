-- What says that an object has a value: `the colour of the ball`, and `red` (*Writing with Inform*, chapter 4).
use Rattle.std.specs.Prelude.{◌≡◌, ℕ, ◌==◌, Bool, List, Option, Some, None, if◌then◌else◌}
use Rattle.play_meaning.specs.Meant.{object_meant}
use Rattle.play_meaning.specs.Trees as tree
use Rattle.play_meaning.specs.declared.tree.object.Quality.{Quality}
use Rattle.play_meaning.specs.declared.tree.object.Quality.TheVariants as quality
use Rattle.i7_conditions.specs.Adjectives.{quality_named}
use Rattle.i7_conditions.specs.Keys.{split_of, value_kind_named}
use Rattle.i7_conditions.specs.Objects.{Means}
use Rattle.i7_conditions.specs.Predicates.{is_deep, object_said}
use Rattle.i7_conditions.specs.Readings.{one}
use Rattle.i7_conditions.specs.Scopes.{Scope}
use Rattle.i7_conditions.specs.Words.{Word, without_article}
use Rattle.i7_conditions.specs.declared.found.Found.{Found}
use Rattle.i7_conditions.specs.declared.found.Found.TheVariants.{Read, TooMany, Unread}
use Rattle.i7_conditions.specs.declared.value.Valuing.{Valuing as Kept}

-- that an object has this value of this kind of value
pub record Valuing : Type 0 where
  pub object : tree.Object
  pub kind : ℕ
  pub value : ℕ

abbrev pub valuing : ℕ → ℕ → tree.Object → Valuing
valuing kind value o = record { object = o; kind = kind; value = value }

-- more than 8 `from`s within one another
abbrev pub is_over : Valuing → Bool
is_over v = is_deep v.object

-- ---- names

abbrev pub value_in : ℕ → Option Quality → Option ℕ
value_in kind None = None
value_in kind (Some (quality.Valued q value)) = if q == kind then Some value else None
value_in kind (Some _) = None

-- the value of this kind that words name, one article in front being free
abbrev pub value_named : Scope → ℕ → List Word → Option ℕ
value_named s kind words = value_in kind (quality_named s (without_article words))

abbrev pub with_object : Option ℕ → List Word → Option (ℕ × List Word)
with_object None object = None
with_object (Some kind) object = Some (kind, object)

abbrev pub around_of : Scope → Option (List Word × List Word) → Option (ℕ × List Word)
around_of s None = None
around_of s (Some parts) = with_object (value_kind_named s parts.0) parts.1

-- the kind of value that words name in front of their first `of`, and the words behind that
abbrev pub kind_and_object : Scope → List Word → Option (ℕ × List Word)
kind_and_object s words = around_of s (split_of words)

-- ---- `the KIND of OBJECT`, and `VALUE`

-- a value of another kind of value says nothing
abbrev pub SaysValue : Scope → List Word → List Word → Valuing → Type 0
SaysValue s subject behind v =
    (parts : ℕ × List Word) × (kind_and_object s subject ≡ Some parts)
    × ((value : ℕ) × (value_named s parts.0 behind ≡ Some value) × ((o : tree.Object) × Means s parts.1 o × (v ≡ valuing parts.0 value o)))

-- ---- by their words

abbrev pub value_by : Scope → ℕ × List Word → Option ℕ → Found Valuing
value_by s parts None = Unread
value_by s parts (Some value) = one (valuing parts.0 value) (object_said s parts.1)

abbrev pub value_behind : Scope → Option (ℕ × List Word) → List Word → Found Valuing
value_behind s None behind = Unread
value_behind s (Some parts) behind = value_by s parts (value_named s parts.0 behind)

abbrev pub value_said : Scope → List Word → List Word → Found Valuing
value_said s subject behind = value_behind s (kind_and_object s subject) behind

-- ---- as it is kept

abbrev pub valuing_meant : Kept → Valuing
valuing_meant v = record { object = object_meant v.object; kind = v.kind; value = v.value }

abbrev pub found_valuing : Found Kept → Found Valuing
found_valuing (Read v) = Read (valuing_meant v)
found_valuing TooMany = TooMany
found_valuing Unread = Unread
