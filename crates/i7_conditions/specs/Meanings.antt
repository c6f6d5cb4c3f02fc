-- What names stand for, each in small letters, and the kinds of plurals.
use Rattle.std.specs.Prelude.{ℕ, List, Option, Some, None, bytes_eq, if◌then◌else◌}
use Rattle.std.specs.Option.{option_or}
use Rattle.indexmap.specs.IndexMap.{IndexMap, get_by}
use Rattle.std.specs.Global.{Vec}
use Rattle.i7_conditions.specs.declared.meaning.Meaning.{Meaning}

abbrev pub Meanings : Type 0
Meanings = List ℕ → Option Meaning

-- the kinds that plurals are of
abbrev pub Plurals : Type 0
Plurals = List ℕ → Option ℕ

abbrev pub no_meanings : Meanings
no_meanings name = None

abbrev pub no_kinds : Plurals
no_kinds name = None

abbrev pub given : {X : Type 0} → List ℕ → X → List ℕ → Option X
given key value name = if bytes_eq name key then Some value else None

-- the first that is told of a name stays
abbrev pub with_meaning : Meanings → List ℕ → Meaning → Meanings
with_meaning meanings key meaning name = option_or (meanings name) (given key meaning name)

abbrev pub with_kind : Plurals → List ℕ → ℕ → Plurals
with_kind plurals key kind name = option_or (plurals name) (given key kind name)

-- what a map tells of a name
abbrev pub told_at : {X S : Type 0} → IndexMap (Vec ℕ) X S → List ℕ → Option X
told_at map name = get_by (λ key. bytes_eq name key.items) map

abbrev pub meaning_at : {S : Type 0} → IndexMap (Vec ℕ) Meaning S → Meanings
meaning_at map name = told_at map name

abbrev pub plural_at : {S : Type 0} → IndexMap (Vec ℕ) ℕ S → Plurals
plural_at map name = told_at map name
