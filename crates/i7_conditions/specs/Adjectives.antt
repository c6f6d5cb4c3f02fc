-- Adjectives and kinds by the words of their names.
use Rattle.std.specs.Prelude.{ℕ, Bool, true, false, nat_lt, List, [], ◌∷◌, length, Option, Some, None, codes, if◌then◌else◌}
use Rattle.std.specs.Option.{option_or}
use Rattle.world_meaning.specs.Spelling.{is_spelled}
use Rattle.play_meaning.specs.declared.tree.object.Adjective.{Adjective}
use Rattle.play_meaning.specs.declared.tree.object.Quality.{Quality}
use Rattle.play_meaning.specs.declared.tree.object.Quality.TheVariants as quality
use Rattle.i7_conditions.specs.Scopes.{Scope}
use Rattle.i7_conditions.specs.Words.{Word, is_not, key_of}
use Rattle.i7_conditions.specs.declared.meaning.Meaning.{Meaning}
use Rattle.i7_conditions.specs.declared.meaning.Meaning.TheVariants as meaning

-- ---- adjectives

-- an either-or property, or a value, which is an adjective too
abbrev pub in_quality : Meaning → Option Quality
in_quality (meaning.Quality property side) = Some (quality.Is property side)
in_quality (meaning.Value kind value) = Some (quality.Valued kind value)
in_quality _ = None

abbrev pub in_qualities : Option Meaning → Option Quality
in_qualities None = None
in_qualities (Some meaning) = in_quality meaning

abbrev pub fixed_quality : List ℕ → Option Quality
fixed_quality key = if is_spelled key (codes "visible") then Some quality.Visible else (if is_spelled key (codes "touchable") then Some quality.Touchable else None)

-- a declared name goes before `visible` and `touchable`
abbrev pub quality_known : Scope → List ℕ → Option Quality
quality_known s key = option_or (in_qualities (s.meanings key)) (fixed_quality key)

-- a name has at most 32 words
abbrev pub quality_named : Scope → List Word → Option Quality
quality_named s words = if nat_lt 32 (length words) then None else quality_known s (key_of words)

abbrev pub adjective_by : Bool → Option Quality → Option Adjective
adjective_by denied None = None
adjective_by denied (Some quality) = Some (record { quality = quality; denied = denied })

-- the adjective that words are, perhaps behind `not`
unfoldable pub adjective_named : Scope → List Word → Option Adjective
adjective_named s [] = None
adjective_named s (first ∷ rest) = if is_not first then adjective_by true (quality_named s rest) else adjective_by false (quality_named s (first ∷ rest))

-- ---- kinds

abbrev pub in_kind : Meaning → Option ℕ
in_kind (meaning.Kind kind) = Some kind
in_kind _ = None

abbrev pub in_kinds : Option Meaning → Option ℕ
in_kinds None = None
in_kinds (Some meaning) = in_kind meaning

-- `something` is a thing
abbrev pub something : List ℕ → Option ℕ
something key = if is_spelled key (codes "something") then Some 0 else None

abbrev pub kind_known : Scope → List ℕ → Option ℕ
kind_known s key = option_or (in_kinds (s.meanings key)) (option_or (s.plurals key) (something key))

-- the kind that words name, or whose plural they are
unfoldable pub kind_named : Scope → List Word → Option ℕ
kind_named s [] = None
kind_named s (word ∷ words) = if nat_lt 32 (length (word ∷ words)) then None else kind_known s (key_of (word ∷ words))
