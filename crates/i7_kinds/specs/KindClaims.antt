-- The kinds of a source: the built-in ones, then the author's in the order of their sentences; and which kinds there
-- may not be.
use Rattle.std.specs.Prelude.{◌≡◌, ℕ, ◌+◌, ◌≤◌, Bool, true, false, not, ◌&&◌, nat_le, List, [], ◌∷◌, ◌++◌, length, fold, map, Option, Some, None, ⊤, ℤ, pos, bytes_eq, if◌then◌else◌}
use Rattle.std.specs.List.{list_any}
use Rattle.world_meaning.specs.Kinds.{Under, built_in_parents, is_under}
use Rattle.world_meaning.specs.declared.declared.Declared.{Declared}
use Rattle.world_meaning.specs.declared.declared.Granted.{Granted}
use Rattle.world_meaning.specs.declared.declared.ValueKind.{ValueKind}
use Rattle.i7_kinds.specs.ValueKinds.{value_kinds_from}
use Rattle.i7_kinds.specs.Grants.{built_in_bases, flags_from, givens_of}
use Rattle.i7_kinds.specs.declared.grants.Given.{Given}
pub use Rattle.i7_claims.specs.KindNames.{kind_names, with_kind, with_kind_of}
use Rattle.i7_claims.specs.Scans.{lowest}
use Rattle.i7_claims.specs.Sorts.{names_as, property_names}
use Rattle.i7_claims.specs.declared.sorts.Sort.TheVariants as sort
use Rattle.i7_claims.specs.Standings.{has_name}
use Rattle.i7_claims.specs.Statements.{number_in}
use Rattle.i7_claims.specs.declared.claim.Claim.{Claim}
use Rattle.i7_claims.specs.declared.claim.Fact.{Fact}
use Rattle.i7_claims.specs.declared.claim.Fact.TheVariants.{Stands, Lies, CanBe, HasNumber, HasValue, Demands, Usually, Starts, Unread}
use Rattle.i7_claims.specs.declared.claim.Standing.{Standing}
use Rattle.i7_claims.specs.declared.claim.Standing.TheVariants as stands

abbrev pub with_parent : List (List ℕ) → List (Option ℕ) → Fact → List (Option ℕ)
with_parent names parents (Lies l) = parents ++ Some (number_in names l.parent) ∷ []
with_parent names parents _ = parents

abbrev pub with_parent_of : List (List ℕ) → List (Option ℕ) → Claim → List (Option ℕ)
with_parent_of names parents c = with_parent names parents c.fact

-- of each kind, by number, the kind above it, where the kinds have these names
abbrev pub parents_of : List (List ℕ) → List Claim → List (Option ℕ)
parents_of names claims = fold (with_parent_of names) built_in_parents claims

abbrev pub with_count : ℕ → Fact → ℕ
with_count count (Lies l) = count + 1
with_count count _ = count

abbrev pub with_count_of : ℕ → Claim → ℕ
with_count_of count c = with_count count c.fact

-- how many kinds are declared, the ten built-in ones with them
abbrev pub kind_count : List Claim → ℕ
kind_count claims = fold with_count_of 10 claims

abbrev pub start_in : List ℕ → Fact → ℤ → ℤ
start_in name (Starts v) other = if bytes_eq name v.variable then v.number else other
start_in name _ other = other

-- a variable starts at what the first sentence says that says it, and else at 0
abbrev pub start_of : List Claim → List ℕ → ℤ
start_of [] name = pos 0
start_of (c ∷ claims) name = start_in name c.fact (start_of claims name)

abbrev pub starts_of : List Claim → List (List ℕ) → List ℤ
starts_of claims names = map (start_of claims) names

-- a scene that may happen again
abbrev pub is_recurring : Standing → Bool
is_recurring (stands.Scene recurs) = recurs
is_recurring _ = false

abbrev pub recurs_by : List ℕ → Fact → Bool
recurs_by name (Stands n) = is_recurring n.standing && bytes_eq name n.name
recurs_by name _ = false

abbrev pub says_recurring : List ℕ → Claim → Bool
says_recurring name c = recurs_by name c.fact

-- a scene may happen again if a sentence says so
abbrev pub is_recurring_by : List Claim → List ℕ → Bool
is_recurring_by claims name = list_any (says_recurring name) claims

abbrev pub scenes_of : List Claim → List (List ℕ) → List Bool
scenes_of claims names = map (is_recurring_by claims) names

-- what sentences give to kinds
abbrev pub givens_by : List Claim → List Given
givens_by claims = givens_of (property_names claims) (kind_names claims) claims

-- the either-or properties
abbrev pub flags_by : List Claim → List Granted
flags_by claims = flags_from (parents_of (kind_names claims) claims) (givens_by claims) 0 built_in_bases (names_as sort.EitherOr claims)

-- the number properties, whose numbers go on behind those
abbrev pub numbers_by : List Claim → List Granted
numbers_by claims = flags_from (parents_of (kind_names claims) claims) (givens_by claims) (length (flags_by claims)) [] (names_as sort.Number claims)

-- the kinds of value, whose numbers go on behind those
abbrev pub value_kinds_by : List Claim → List ValueKind
value_kinds_by claims =
    value_kinds_from (parents_of (kind_names claims) claims) (givens_by claims) (length (flags_by claims) + length (numbers_by claims)) claims (names_as sort.ValueKind claims)

-- what a source declares besides objects; nothing is claimed of its actions
abbrev pub declared_by : List Claim → Declared
declared_by claims = record {
  kinds = parents_of (kind_names claims) claims;
  flags = flags_by claims;
  numbers = numbers_by claims;
  variables = starts_of claims (names_as sort.Variable claims);
  scenes = scenes_of claims (names_as sort.Scene claims);
  rulebooks = length (names_as sort.Rulebook claims);
  actions = [];
  values = value_kinds_by claims;
}

-- ---- refusals

-- a kind is named that none of these is, or words name nothing
abbrev pub IsUnknown : List (List ℕ) → Fact → Type 0
IsUnknown names (Lies l) = has_name names l.parent ≡ false
IsUnknown names (CanBe g) = has_name names g.kind ≡ false
IsUnknown names (HasNumber g) = has_name names g.kind ≡ false
IsUnknown names (HasValue g) = has_name names g.kind ≡ false
IsUnknown names (Demands d) = has_name names d.kind ≡ false
IsUnknown names (Usually u) = has_name names u.kind ≡ false
IsUnknown names (Unread words) = ⊤
IsUnknown names _ = ⊥

-- a kind, which takes the next number, closes a cycle with those before it
abbrev pub IsCycle : List (List ℕ) → List Claim → Fact → Type 0
IsCycle names before (Lies l) = Under (parents_of names before) (number_in names l.parent) (length (parents_of names before))
IsCycle names before _ = ⊥

-- a kind is declared where there are as many as there may be
abbrev pub IsKindTooMany : List Claim → Fact → Type 0
IsKindTooMany before (Lies l) = 100 ≤ kind_count before
IsKindTooMany before _ = ⊥

-- ---- found from left to right

abbrev pub is_unknown : List (List ℕ) → Fact → Bool
is_unknown names (Lies l) = not (has_name names l.parent)
is_unknown names (CanBe g) = not (has_name names g.kind)
is_unknown names (HasNumber g) = not (has_name names g.kind)
is_unknown names (HasValue g) = not (has_name names g.kind)
is_unknown names (Demands d) = not (has_name names d.kind)
is_unknown names (Usually u) = not (has_name names u.kind)
is_unknown names (Unread words) = true
is_unknown names _ = false

abbrev pub shows_unknown : List (List ℕ) → Claim → Bool
shows_unknown names c = is_unknown names c.fact

abbrev pub same_names : List (List ℕ) → Claim → List (List ℕ)
same_names names c = names

abbrev pub unknown_kind : List (List ℕ) → List Claim → Option ℕ
unknown_kind names claims = lowest shows_unknown same_names names claims None

abbrev pub is_cycle : List (List ℕ) → List (Option ℕ) → Fact → Bool
is_cycle names parents (Lies l) = is_under parents (number_in names l.parent) (length parents)
is_cycle names parents _ = false

abbrev pub shows_cycle : List (List ℕ) → List (Option ℕ) → Claim → Bool
shows_cycle names parents c = is_cycle names parents c.fact

abbrev pub kind_cycle : List (List ℕ) → List Claim → Option ℕ
kind_cycle names claims = lowest (shows_cycle names) (with_parent_of names) built_in_parents claims None

abbrev pub is_kind_too_many : ℕ → Fact → Bool
is_kind_too_many count (Lies l) = nat_le 100 count
is_kind_too_many count _ = false

abbrev pub shows_kind_too_many : ℕ → Claim → Bool
shows_kind_too_many count c = is_kind_too_many count c.fact

abbrev pub kind_too_many : List Claim → Option ℕ
kind_too_many claims = lowest shows_kind_too_many with_count_of 10 claims None

-- ---- numbers that a byte holds

abbrev pub IsSmallKind : Option ℕ → Type 0
IsSmallKind None = ⊤
IsSmallKind (Some kind) = kind ≤ 100

abbrev pub AreSmallKinds : List (Option ℕ) → Type 0
AreSmallKinds [] = ⊤
AreSmallKinds (parent ∷ parents) = IsSmallKind parent × AreSmallKinds parents
