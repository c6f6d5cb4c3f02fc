-- What names are claimed to stand for, by their numbers.
use Rattle.std.specs.Prelude.{ℕ, ◌&&◌, nat_le, nat_lt, get_or, List, Option, Some, None, option_map, fold, if◌then◌else◌}
use Rattle.play_meaning.specs.declared.tree.object.Side.{Side}
use Rattle.play_meaning.specs.declared.tree.object.Side.TheVariants.{First, Second}
use Rattle.i7_conditions.specs.declared.meaning.Meaning.{Meaning}
use Rattle.i7_conditions.specs.declared.meaning.Meaning.TheVariants as meaning
use Rattle.i7_claims.specs.Standings.{built_in_namings}
use Rattle.i7_claims.specs.declared.claim.Claim.{Claim}
use Rattle.i7_claims.specs.declared.claim.Fact.{Fact}
use Rattle.i7_claims.specs.declared.claim.Fact.TheVariants.{Stands}
use Rattle.i7_claims.specs.declared.claim.Naming.{Naming}
use Rattle.i7_claims.specs.declared.claim.Standing.{Standing}
use Rattle.i7_claims.specs.declared.claim.Standing.TheVariants as stands
use Rattle.i7_names.specs.Known.{Known, nothing_known, with_name}
use Rattle.i7_names.specs.Numbering.{Numbering}
use Rattle.i7_names.specs.Numbers.{object_number, small_number}

abbrev pub quality_on : Side → ℕ → Meaning
quality_on side property = meaning.Quality property side

-- how many values there are of a kind of value
abbrev pub value_count : Numbering → ℕ → ℕ
value_count n q = get_or n.value_counts q 0

-- a kind of value that has some
abbrev pub value_kind_at : Numbering → Option ℕ → Option Meaning
value_kind_at n None = None
value_kind_at n (Some q) = if nat_lt 0 (value_count n q) then Some (meaning.ValueKind q) else None

-- the value at a place that its kind has, if a byte holds it
abbrev pub value_at : Numbering → ℕ → Option ℕ → Option Meaning
value_at n place None = None
value_at n place (Some q) = if nat_lt place (value_count n q) && nat_le place 255 then Some (meaning.Value q place) else None

-- a property's second name has the number of its first
abbrev pub meaning_as : Numbering → List ℕ → Standing → Option Meaning
meaning_as n name stands.Reserved = None
meaning_as n name stands.Kind = option_map meaning.Kind (small_number n.kinds name)
meaning_as n name (stands.First second) = option_map (quality_on First) (small_number n.qualities name)
meaning_as n name (stands.Second first) = option_map (quality_on Second) (small_number n.qualities first)
meaning_as n name stands.Number = option_map meaning.Number (small_number n.numbers name)
meaning_as n name stands.Variable = option_map meaning.Variable (small_number n.variables name)
meaning_as n name (stands.Scene recurs) = option_map meaning.Scene (small_number n.scenes name)
meaning_as n name stands.Object = option_map meaning.Object (object_number n.objects name)
meaning_as n name stands.ValueKind = value_kind_at n (small_number n.value_kinds name)
meaning_as n name (stands.Value value) = value_at n value.place (small_number n.value_kinds value.kind)

abbrev pub with_naming : Numbering → Known → Naming → Known
with_naming n known naming = with_name known naming.name (meaning_as n naming.name naming.standing)

abbrev pub with_fact : Numbering → Known → Fact → Known
with_fact n known (Stands naming) = with_naming n known naming
with_fact n known _ = known

abbrev pub with_claim : Numbering → Known → Claim → Known
with_claim n known claim = with_fact n known claim.fact

-- what names stand for: what is claimed of each first, the words of the language before any sentence
unfoldable pub named_in : Numbering → List Claim → Known
named_in n claims = fold (with_claim n) (fold (with_naming n) nothing_known built_in_namings) claims
