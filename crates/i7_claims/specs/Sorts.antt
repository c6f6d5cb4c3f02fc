-- The names of each sort but kinds, in the order of their first claims, and how many there may be.
use Rattle.std.specs.Prelude.{◌≡◌, ℕ, ◌≤◌, Bool, true, false, not, ◌&&◌, nat_le, nat_lt, ◌<◌, List, [], length, map, fold, Option, Some, None}
use Rattle.world_meaning.specs.declared.kinds.TheConstants.{KINDS, PROPERTIES}
use Rattle.object_words.specs.Mentions.{mention}
use Rattle.i7_claims.specs.Scans.{earlier, lowest}
use Rattle.i7_claims.specs.Standings.{has_name}
use Rattle.i7_claims.specs.declared.claim.Claim.{Claim}
use Rattle.i7_claims.specs.declared.claim.Fact.{Fact}
use Rattle.i7_claims.specs.declared.claim.Fact.TheVariants.{Stands, Rulebook, Values}
use Rattle.i7_claims.specs.declared.claim.Standing.{Standing}
use Rattle.i7_claims.specs.declared.claim.Standing.TheVariants as stands
use Rattle.i7_claims.specs.declared.sorts.Sort.{Sort}
use Rattle.i7_claims.specs.declared.sorts.Sort.TheVariants as sort

-- built-in properties are counted
abbrev pub most_names : Sort → ℕ
most_names sort.Scene = 50
most_names _ = 100

abbrev pub is_either_or : Sort → Bool
is_either_or sort.EitherOr = true
is_either_or _ = false

abbrev pub is_number : Sort → Bool
is_number sort.Number = true
is_number _ = false

abbrev pub is_variable : Sort → Bool
is_variable sort.Variable = true
is_variable _ = false

abbrev pub is_rulebook : Sort → Bool
is_rulebook sort.Rulebook = true
is_rulebook _ = false

abbrev pub is_scene : Sort → Bool
is_scene sort.Scene = true
is_scene _ = false

abbrev pub is_value_kind : Sort → Bool
is_value_kind sort.ValueKind = true
is_value_kind _ = false

-- an either-or property is counted by its first name
abbrev pub is_of : Sort → Standing → Bool
is_of s (stands.First second) = is_either_or s
is_of s stands.Number = is_number s
is_of s stands.Variable = is_variable s
is_of s (stands.Scene recurs) = is_scene s
is_of s stands.ValueKind = is_value_kind s
is_of s _ = false

abbrev pub named_if : Bool → List ℕ → Option (List ℕ)
named_if true name = Some name
named_if false name = None

-- the name that a fact claims as one of the sort
abbrev pub claimed_as : Sort → Fact → Option (List ℕ)
claimed_as s (Stands n) = named_if (is_of s n.standing) n.name
claimed_as s (Rulebook name) = named_if (is_rulebook s) name
claimed_as s _ = None

abbrev pub with_name : List (List ℕ) → Option (List ℕ) → List (List ℕ)
with_name names None = names
with_name names (Some name) = mention names name

abbrev pub mention_firsts : List (List ℕ) → List (List ℕ) → List (List ℕ)
mention_firsts names more = fold mention names more

unfoldable pub built_in_kinds : List (List ℕ)
built_in_kinds = mention_firsts [] (map (λ kind. kind.0.now) KINDS)

unfoldable pub built_in_either_ors : List (List ℕ)
built_in_either_ors = mention_firsts [] (map (λ property. property.0.now) PROPERTIES)

abbrev pub built_in_names : Sort → List (List ℕ)
built_in_names sort.EitherOr = built_in_either_ors
built_in_names _ = []

abbrev pub with_claimed : Sort → List (List ℕ) → Claim → List (List ℕ)
with_claimed s names c = with_name names (claimed_as s c.fact)

-- the names of a sort, each once, the built-in ones first
abbrev pub names_as : Sort → List Claim → List (List ℕ)
names_as s claims = fold (with_claimed s) (built_in_names s) claims

-- the names of the properties: of the either-or ones the first, then those of the number properties and of the kinds of value
abbrev pub property_names : List Claim → List (List ℕ)
property_names claims = fold (with_claimed sort.ValueKind) (fold (with_claimed sort.Number) (names_as sort.EitherOr claims) claims) claims

-- a new name of a sort where there are as many as there may be
abbrev pub IsTooMany : Sort → List Claim → Fact → Type 0
IsTooMany s before fact = (name : List ℕ) × (claimed_as s fact ≡ Some name) × (has_name (names_as s before) name ≡ false) × (most_names s ≤ length (names_as s before))

abbrev pub is_too_many : ℕ → List (List ℕ) → Option (List ℕ) → Bool
is_too_many most names None = false
is_too_many most names (Some name) = not (has_name names name) && nat_le most (length names)

abbrev pub shows_too_many : Sort → List (List ℕ) → Claim → Bool
shows_too_many s names c = is_too_many (most_names s) names (claimed_as s c.fact)

abbrev pub too_many_as : Sort → List Claim → Option ℕ
too_many_as s claims = lowest (shows_too_many s) (with_claimed s) (built_in_names s) claims None

-- ---- values

-- more than a hundred values are listed
abbrev pub IsListTooLong : Fact → Type 0
IsListTooLong (Values listing) = 100 < length listing.values
IsListTooLong _ = ⊥

abbrev pub is_list_too_long : Fact → Bool
is_list_too_long (Values listing) = nat_lt 100 (length listing.values)
is_list_too_long _ = false

abbrev pub shows_long_list : Unit {0} → Claim → Bool
shows_long_list u c = is_list_too_long c.fact

-- the lowest line at which a kind of value gets too many values
abbrev pub list_too_long : List Claim → Option ℕ
list_too_long claims = lowest shows_long_list (λ u c. u) tt claims None

-- the lowest line of a name that is one too many of its sort, or of a list of values that is too long
abbrev pub name_too_many : List Claim → Option ℕ
name_too_many claims =
    earlier (too_many_as sort.EitherOr claims) (earlier (too_many_as sort.Number claims)
    (earlier (too_many_as sort.Variable claims) (earlier (too_many_as sort.Rulebook claims) (earlier (too_many_as sort.Scene claims)
    (earlier (too_many_as sort.ValueKind claims) (list_too_long claims))))))
