-- The kinds of value of a source and their values, and which one an object begins with.
use Rattle.std.specs.Prelude.{◌≡◌, ℕ, ◌+◌, ◌≤◌, ⊤, Bool, true, false, ◌&&◌, nat_lt, List, [], ◌∷◌, length, Option, Some, None, if◌then◌else◌}
use Rattle.world_meaning.specs.declared.declared.ValueKind.{ValueKind}
use Rattle.i7_claims.specs.Listings.{values_listed}
use Rattle.i7_claims.specs.Scans.{lowest}
use Rattle.i7_claims.specs.declared.claim.Claim.{Claim}
use Rattle.i7_claims.specs.declared.claim.Fact.{Fact}
use Rattle.i7_claims.specs.declared.claim.Fact.TheVariants.{Stands}
use Rattle.i7_claims.specs.declared.claim.Standing.{Standing}
use Rattle.i7_claims.specs.declared.claim.Standing.TheVariants as stands
use Rattle.i7_claims.specs.declared.claim.Value.{Value}
use Rattle.i7_claims.specs.declared.claim.Value.TheVariants.{Choice}
use Rattle.i7_kinds.specs.Grants.{flag_of}
use Rattle.i7_kinds.specs.declared.grants.Given.{Given}

-- a kind of value of this name, and the kinds whose objects have one of its values
abbrev pub value_kind_of : {X : Type 0} → List X → List Given → ℕ → List Claim → List ℕ → ValueKind
value_kind_of kinds givens property claims name = record { names = values_listed claims name; given = flag_of kinds givens property [] }

-- those of these names, whose numbers as properties go on from this one
abbrev pub value_kinds_from : {X : Type 0} → List X → List Given → ℕ → List Claim → List (List ℕ) → List ValueKind
value_kinds_from kinds givens property claims [] = []
value_kinds_from kinds givens property claims (name ∷ names) = value_kind_of kinds givens property claims name ∷ value_kinds_from kinds givens (property + 1) claims names

-- each has a hundred values at most
abbrev pub AreFewValues : List ValueKind → Type 0
AreFewValues [] = ⊤
AreFewValues (q ∷ kinds) = (length q.names ≤ 100) × AreFewValues kinds

-- ---- which value an object begins with

-- the value at the place that is told, if there is one
abbrev pub choice_or : ℕ → Option Value → ℕ → ℕ
choice_or count (Some (Choice place)) other = if nat_lt place count then place else other
choice_or count _ other = other

-- ---- C16: a kind of value without values

abbrev pub is_value_kind : Standing → Bool
is_value_kind stands.ValueKind = true
is_value_kind _ = false

abbrev pub is_empty : List (List ℕ) → Bool
is_empty [] = true
is_empty (value ∷ values) = false

abbrev pub IsUnlisted : List Claim → Fact → Type 0
IsUnlisted claims (Stands n) = (n.standing ≡ stands.ValueKind) × (values_listed claims n.name ≡ [])
IsUnlisted claims _ = ⊥

abbrev pub is_unlisted : List Claim → Fact → Bool
is_unlisted claims (Stands n) = is_value_kind n.standing && is_empty (values_listed claims n.name)
is_unlisted claims _ = false

abbrev pub shows_unlisted : List Claim → Claim → Bool
shows_unlisted claims c = is_unlisted claims c.fact

abbrev pub same_claims : List Claim → Claim → List Claim
same_claims claims c = claims

-- the lowest line that declares a kind of value of which no sentence lists a value
abbrev pub unlisted : List Claim → Option ℕ
unlisted claims = lowest shows_unlisted same_claims claims claims None
