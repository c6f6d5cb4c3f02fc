-- Which kind each object is meant to have, by what is claimed anywhere in a source, in names and in no order.
use Rattle.std.specs.Prelude.{◌≡◌, ◌≢◌, ◌⊎◌, ℕ, ◌<◌, Bool, true, false, List, [], ◌∷◌, length, codes, slice_get, Option, Some, Ok}
use Rattle.world_meaning.specs.Directions.{direction_name}
use Rattle.world_meaning.specs.Kinds.{Under, built_in_parents}
use Rattle.world_meaning.specs.declared.direction.Direction.{Direction}
use Rattle.world_meaning.specs.declared.place.Rel.TheVariants.{In}
use Rattle.world_meaning.specs.declared.tale.Object.{Object}
use Rattle.world_meaning.specs.declared.tale.Tale.{Tale}
use Rattle.i7_sentences.specs.declared.sentence.Assertion.{Assertion}
use Rattle.i7_sentences.specs.declared.sentence.Assertion.TheVariants as assertion
use Rattle.i7_sentences.specs.declared.sentence.Sentence.{Sentence}
use Rattle.i7_claims.specs.Claims.{claims_of}
use Rattle.i7_claims.specs.KindNames.{kind_names}
use Rattle.i7_claims.specs.Numbers.{has_name}
use Rattle.i7_claims.specs.Sorts.{built_in_kinds}
use Rattle.i7_claims.specs.Statements.{key_of}
use Rattle.i7_claims.specs.declared.claim.Claim.{Claim}
use Rattle.i7_claims.specs.declared.claim.Fact.{Fact}
use Rattle.i7_claims.specs.declared.claim.Fact.TheVariants.{Demands, Lies, Placed, RoomUnlessDoor}
use Rattle.i7_kinds.specs.Tales.{tale_said}

-- some claim says so, on whatever line
abbrev pub IsClaimed : List Claim → Fact → Type 0
IsClaimed [] fact = ⊥
IsClaimed (c ∷ claims) fact = (c.fact ≡ fact) ⊎ IsClaimed claims fact

-- ---- which kind lies under which, by their names

-- of a built-in kind the kind right above it, by their table
pub record IsBuiltIn (kind parent : List ℕ) : Type 0 where
  pub row : ℕ
  pub above : ℕ
  pub named : slice_get built_in_kinds row ≡ Some kind
  pub lies : slice_get built_in_parents row ≡ Some (Some above)
  pub parent_named : slice_get built_in_kinds above ≡ Some parent

-- a kind is right above another, by the table or by a claim
abbrev pub IsAbove : List Claim → List ℕ → List ℕ → Type 0
IsAbove claims kind parent = IsBuiltIn kind parent ⊎ IsClaimed claims (Lies (record { kind = kind; parent = parent }))

-- A kind lies under another, or is it.
pub data LiesUnder (claims : List Claim) : List ℕ → List ℕ → Type 0 where
  itself : {kind : List ℕ} → LiesUnder claims kind kind
  above : {kind parent other : List ℕ} → IsAbove claims kind parent → LiesUnder claims parent other → LiesUnder claims kind other

-- ---- what is demanded of an object

-- a claim demands a door of it
abbrev pub IsSaidDoor : List Claim → List ℕ → Type 0
IsSaidDoor claims name = (kind : List ℕ) × IsClaimed claims (Demands (record { object = name; kind = kind })) × LiesUnder claims kind (codes "door")

-- The object of this name is demanded to be of this kind: the player to be a person, a direction a direction, an object
-- what a claim demands, and what lies in a direction of a room to be a room, unless a claim demands a door of it.
pub data IsDemanded (claims : List Claim) (name kind : List ℕ) : Type 0 where
  of_player : name ≡ codes "yourself" → kind ≡ codes "person" → IsDemanded claims name kind
  of_direction : (direction : Direction) → name ≡ direction_name direction → kind ≡ codes "direction" → IsDemanded claims name kind
  by_claim : IsClaimed claims (Demands (record { object = name; kind = kind })) → IsDemanded claims name kind
  by_way : IsClaimed claims (RoomUnlessDoor name) → (IsSaidDoor claims name → ⊥) → kind ≡ codes "room" → IsDemanded claims name kind

-- nothing deeper than a thing is demanded of it, if anything is
abbrev pub IsThingAtMost : List Claim → List ℕ → Type 0
IsThingAtMost claims name = (kind : List ℕ) → IsDemanded claims name kind → kind ≡ codes "thing"

-- a claim places something in it
abbrev pub HoldsSomething : List Claim → List ℕ → Type 0
HoldsSomething claims name = (thing : List ℕ) × IsClaimed claims (Placed (record { thing = thing; relation = In; holder = name }))

-- The kind that the object of this name has: the demanded kind that lies under each demanded one; or where nothing deeper
-- than a thing is demanded, a container if something is placed in it, and else a thing.
pub data HasKind (claims : List Claim) (name kind : List ℕ) : Type 0 where
  deepest : IsDemanded claims name kind → kind ≢ codes "thing" → ((other : List ℕ) → IsDemanded claims name other → LiesUnder claims kind other) → HasKind claims name kind
  container : IsThingAtMost claims name → HoldsSomething claims name → kind ≡ codes "container" → HasKind claims name kind
  thing : IsThingAtMost claims name → (HoldsSomething claims name → ⊥) → kind ≡ codes "thing" → HasKind claims name kind

-- ---- the laws

-- the name of a source's kind of this number
abbrev pub IsKindNamed : List Sentence → ℕ → List ℕ → Type 0
IsKindNamed sentences number name = slice_get (kind_names (claims_of sentences)) number ≡ Some name

-- a kind is built in, or a claim declares it
abbrev pub IsKind : List Claim → List ℕ → Type 0
IsKind claims kind = (has_name built_in_kinds kind ≡ true) ⊎ ((parent : List ℕ) × IsClaimed claims (Lies (record { kind = kind; parent = parent })))

-- These kinds, by number the kind above each, are those of a source, each of one number, and lie under each other as is claimed.
pub record AreItsKinds (sentences : List Sentence) (kinds : List (Option ℕ)) : Type 0 where
  pub named : (number : ℕ) → number < length kinds → (kind : List ℕ) × IsKindNamed sentences number kind
  pub within : (number : ℕ) (kind : List ℕ) → IsKindNamed sentences number kind → number < length kinds
  pub once : (number other : ℕ) (kind : List ℕ) → IsKindNamed sentences number kind → IsKindNamed sentences other kind → number ≡ other
  pub kind : (number : ℕ) (kind : List ℕ) → IsKindNamed sentences number kind → IsKind (claims_of sentences) kind
  pub numbered : (kind : List ℕ) → IsKind (claims_of sentences) kind → (number : ℕ) × IsKindNamed sentences number kind
  pub lies : (number other : ℕ) (kind above : List ℕ) → IsKindNamed sentences number kind → IsKindNamed sentences other above
      → (Under kinds number other → LiesUnder (claims_of sentences) kind above) × (LiesUnder (claims_of sentences) kind above → Under kinds number other)

-- the kinds of the tale of an accepted source
abbrev pub KindsLieAsClaimed : Type 0
KindsLieAsClaimed = (sentences : List Sentence) (tale : Tale) → tale_said sentences ≡ Ok tale → AreItsKinds sentences tale.declared.kinds

-- each object of an accepted source has the kind that is meant for its name
abbrev pub KindsAreMeant : Type 0
KindsAreMeant =
    (sentences : List Sentence) (tale : Tale) (o : ℕ) (object : Object) → tale_said sentences ≡ Ok tale → slice_get tale.objects o ≡ Some object
    → (kind : List ℕ) × IsKindNamed sentences object.kind kind × HasKind (claims_of sentences) (key_of object.name) kind

-- no other kind is meant for a name
abbrev pub KindsAreOne : Type 0
KindsAreOne =
    (sentences : List Sentence) (tale : Tale) (name kind other : List ℕ) → tale_said sentences ≡ Ok tale
    → HasKind (claims_of sentences) name kind → HasKind (claims_of sentences) name other → kind ≡ other

-- an assertion may claim something: no title and heading does, no text that stands alone, no rule, no listing of one, no action, nothing
-- that a scene begins or ends on, and nothing that tells what commands mean
abbrev pub is_claiming : Assertion → Bool
is_claiming assertion.Aside = false
is_claiming (assertion.Description text) = false
is_claiming (assertion.Rule rule) = false
is_claiming (assertion.SceneChange change) = false
is_claiming (assertion.Understand understanding) = false
is_claiming (assertion.Listing listing) = false
is_claiming (assertion.Action action) = false
is_claiming _ = true

-- a sentence asserts this
abbrev pub IsSaid : List Sentence → Assertion → Type 0
IsSaid [] said = ⊥
IsSaid (sentence ∷ sentences) said = (sentence.said ≡ said) ⊎ IsSaid sentences said

-- two sources assert the same that claims anything, in whatever order and on whatever lines
abbrev pub SayTheSame : List Sentence → List Sentence → Type 0
SayTheSame these those = (said : Assertion) → is_claiming said ≡ true → (IsSaid these said → IsSaid those said) × (IsSaid those said → IsSaid these said)

-- each object of one of two accepted sources that assert the same has one of its name in the other
abbrev pub OrderIsNothingToObjects : Type 0
OrderIsNothingToObjects =
    (these those : List Sentence) (tale other : Tale) → SayTheSame these those → tale_said these ≡ Ok tale → tale_said those ≡ Ok other
    → (i : ℕ) (object : Object) → slice_get tale.objects i ≡ Some object → (j : ℕ) × (same : Object) × (slice_get other.objects j ≡ Some same) × (key_of object.name ≡ key_of same.name)

-- objects of one name have kinds of one name in two accepted sources that assert the same
abbrev pub OrderIsNothingToKinds : Type 0
OrderIsNothingToKinds =
    (these those : List Sentence) (tale other : Tale) → SayTheSame these those → tale_said these ≡ Ok tale → tale_said those ≡ Ok other
    → (i j : ℕ) (object same : Object) → slice_get tale.objects i ≡ Some object → slice_get other.objects j ≡ Some same → key_of object.name ≡ key_of same.name
    → (kind : List ℕ) × IsKindNamed these object.kind kind × IsKindNamed those same.kind kind
