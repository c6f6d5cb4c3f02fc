-- Names that are no objects, by their words, and words cut at their first `of`.
use Rattle.std.specs.Prelude.{ℕ, Bool, false, nat_lt, List, [], ◌∷◌, length, take, drop, Option, Some, None, codes, if◌then◌else◌}
use Rattle.std.specs.List.{position_or_len}
use Rattle.world_meaning.specs.Spelling.{is_spelled}
use Rattle.i7_conditions.specs.Scopes.{Scope}
use Rattle.i7_conditions.specs.Words.{Word, key_of, without_article}
use Rattle.i7_conditions.specs.declared.meaning.Meaning.{Meaning}
use Rattle.i7_conditions.specs.declared.meaning.Meaning.TheVariants as meaning

-- a name has at most 32 words
abbrev pub key_within : List Word → Option (List ℕ)
key_within [] = None
key_within (word ∷ words) = if nat_lt 32 (length (word ∷ words)) then None else Some (key_of (word ∷ words))

-- the name that words spell, in small letters, one article in front being free
unfoldable pub plain_key : List Word → Option (List ℕ)
plain_key words = key_within (without_article words)

abbrev pub known : Scope → Option (List ℕ) → Option Meaning
known s None = None
known s (Some key) = s.meanings key

abbrev pub variable_in : Option Meaning → Option ℕ
variable_in None = None
variable_in (Some (meaning.Variable v)) = Some v
variable_in (Some _) = None

abbrev pub property_in : Option Meaning → Option ℕ
property_in None = None
property_in (Some (meaning.Number p)) = Some p
property_in (Some _) = None

abbrev pub value_kind_in : Option Meaning → Option ℕ
value_kind_in None = None
value_kind_in (Some (meaning.ValueKind kind)) = Some kind
value_kind_in (Some _) = None

-- the variable that words name
abbrev pub variable_named : Scope → List Word → Option ℕ
variable_named s words = variable_in (known s (plain_key words))

-- the number property that words name
abbrev pub property_named : Scope → List Word → Option ℕ
property_named s words = property_in (known s (plain_key words))

-- the kind of value that words name
abbrev pub value_kind_named : Scope → List Word → Option ℕ
value_kind_named s words = value_kind_in (known s (plain_key words))

abbrev pub has_key : List ℕ → Option (List ℕ) → Bool
has_key name None = false
has_key name (Some key) = is_spelled key name

-- words spell this name, one article in front being free
abbrev pub is_named : List ℕ → List Word → Bool
is_named name words = has_key name (plain_key words)

unfoldable pub is_of : Word → Bool
is_of word = is_spelled word (codes "of")

abbrev pub around : List Word → List Word → Option (List Word × List Word)
around front [] = None
around front (word ∷ behind) = Some (front, behind)

-- the words in front of the first `of`, and those behind it
abbrev pub split_of : List Word → Option (List Word × List Word)
split_of words = around (take (position_or_len is_of words) words) (drop (position_or_len is_of words) words)
