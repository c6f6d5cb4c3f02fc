-- Doors: of which objects sentences demand one, and which sentences tell the rooms of a door again.
use Rattle.std.specs.Prelude.{◌≡◌, ℕ, Bool, true, false, ◌&&◌, List, [], fold, Option, Some, None}
use Rattle.world_meaning.specs.Kinds.{Under, door_kind, is_under}
use Rattle.i7_claims.specs.Numbers.{has_name, number_in}
use Rattle.i7_claims.specs.Scans.{ShownBy, lowest}
use Rattle.i7_claims.specs.Sorts.{named_if, with_name}
use Rattle.i7_claims.specs.declared.claim.Claim.{Claim}
use Rattle.i7_claims.specs.declared.claim.Fact.{Fact}
use Rattle.i7_claims.specs.declared.claim.Fact.TheVariants.{Demands, Between}

-- ---- names that facts tell

abbrev pub with_told : (Fact → Option (List ℕ)) → List (List ℕ) → Claim → List (List ℕ)
with_told told names c = with_name names (told c.fact)

-- each once
abbrev pub all_told : (Fact → Option (List ℕ)) → List Claim → List (List ℕ)
all_told told claims = fold (with_told told) [] claims

-- some claim tells a name
abbrev pub IsTold : (Fact → Option (List ℕ)) → List Claim → List ℕ → Type 0
IsTold told claims name = (line : ℕ) × ShownBy (λ before c. told c.fact ≡ Some name) claims line

-- ---- what is a door

-- a kind is that of doors, or one below it
abbrev pub is_door_kind : List (List ℕ) → List (Option ℕ) → List ℕ → Bool
is_door_kind kinds parents kind = has_name kinds kind && is_under parents (number_in kinds kind) door_kind

-- the object of which a fact demands a door
abbrev pub door_demanded : List (List ℕ) → List (Option ℕ) → Fact → Option (List ℕ)
door_demanded kinds parents (Demands d) = named_if (is_door_kind kinds parents d.kind) d.object
door_demanded kinds parents _ = None

-- the objects of which doors are demanded
abbrev pub doors_of : List (List ℕ) → List (Option ℕ) → List Claim → List (List ℕ)
doors_of kinds parents claims = all_told (door_demanded kinds parents) claims

abbrev pub DemandsDoor : List (List ℕ) → List (Option ℕ) → List ℕ → Fact → Type 0
DemandsDoor kinds parents object (Demands d) = (d.object ≡ object) × (has_name kinds d.kind ≡ true) × Under parents (number_in kinds d.kind) door_kind
DemandsDoor kinds parents object _ = ⊥

-- some sentence demands a door of an object
abbrev pub IsDoorDemanded : List (List ℕ) → List (Option ℕ) → List Claim → List ℕ → Type 0
IsDoorDemanded kinds parents claims object = (line : ℕ) × ShownBy (λ before c. DemandsDoor kinds parents object c.fact) claims line

-- ---- C10: the rooms of a door told again

-- the door whose rooms a fact tells
abbrev pub door_told : Fact → Option (List ℕ)
door_told (Between door) = Some door
door_told _ = None

-- a door's rooms were told
abbrev pub IsToldAgain : List Claim → Fact → Type 0
IsToldAgain before (Between door) = IsTold door_told before door
IsToldAgain before _ = ⊥

abbrev pub is_told_again : List (List ℕ) → Fact → Bool
is_told_again doors (Between door) = has_name doors door
is_told_again doors _ = false

abbrev pub shows_told_again : List (List ℕ) → Claim → Bool
shows_told_again doors c = is_told_again doors c.fact

abbrev pub door_twice : List Claim → Option ℕ
door_twice claims = lowest shows_told_again (with_told door_told) [] claims None
