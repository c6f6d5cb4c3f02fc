-- What is refused in what sentences state and claim, each said of a statement or a claim with those before it.
use Rattle.std.specs.Prelude.{◌≡◌, ◌≢◌, ◌⊎◌, ℕ, ◌+◌, ◌≤◌, ◌<◌, false, true, List, [], ◌∷◌, ◌++◌, length, slice_get, Option, Some, None}
use Rattle.std.specs.List.{Any}
use Rattle.world_meaning.specs.Kinds.{Under, container_kind, direction_kind, door_kind, person_kind, room_kind, supporter_kind, thing_kind}
use Rattle.world_meaning.specs.declared.place.Place.{Place}
use Rattle.world_meaning.specs.declared.place.Rel.{Rel}
use Rattle.world_meaning.specs.declared.place.Rel.TheVariants.{In, On, Carried, Worn, Part}
use Rattle.object_words.specs.Words.{words_for}
use Rattle.i7_claims.specs.Numbers.{has_name, number_in}
use Rattle.i7_claims.specs.Statements.{NameAt}
use Rattle.i7_claims.specs.declared.claim.Claim.{Claim}
use Rattle.i7_claims.specs.declared.claim.Fact.{Fact}
use Rattle.i7_claims.specs.declared.claim.Value.{Value}
use Rattle.i7_claims.specs.declared.claim.Value.TheVariants.{Never}
use Rattle.i7_claims.specs.declared.claim.Fact.TheVariants.{Demands, Has, Placed, RoomUnlessDoor, Usually}
use Rattle.i7_claims.specs.declared.statements.Numbered.{Numbered}
use Rattle.i7_claims.specs.declared.statements.Numbered.TheVariants as numbered
use Rattle.i7_claims.specs.declared.statements.NumberedSentence.{NumberedSentence}
use Rattle.i7_kinds.specs.Demands.{first_of_author, subject_of, way_there, way_through}
use Rattle.i7_kinds.specs.FirstShown.{IsShown}
use Rattle.i7_kinds.specs.Grants.{built_in_bases}
use Rattle.i7_kinds.specs.Knowns.{Scope, kind_of, known_at}
use Rattle.i7_kinds.specs.Places.{place_of, thing_of}
use Rattle.i7_kinds.specs.Suits.{kinds_in}
use Rattle.i7_kinds.specs.declared.knowns.Demanded.TheVariants.{Parted}
use Rattle.i7_kinds.specs.declared.knowns.Known.{Known}
use Rattle.i7_kinds.specs.declared.ways.Lead.{Lead}

-- ---- C10: an exit that leads elsewhere

-- what is stated leads an exit to a target
abbrev pub States : Lead → Numbered → Type 0
States lead (numbered.Way way) = lead ≡ way_there way
States lead (numbered.Door d) = (lead ≡ way_through d.door d.first d.second) ⊎ (lead ≡ way_through d.door d.second d.first)
States lead _ = ⊥

-- a statement leads an exit elsewhere than one before it
pub record IsLedElsewhere (before : List NumberedSentence) (statement : NumberedSentence) : Type 0 where
  pub lead : Lead
  pub other : Lead
  pub states : States lead statement.said
  pub stated : IsShown (λ earlier s. States other s.said) before
  pub exit : lead.exit ≡ other.exit
  pub differ : lead.target ≢ other.target

-- ---- kinds of objects

-- an object is of a kind or of one below it
pub record IsOf (parents : List (Option ℕ)) (knowns : List Known) (kind o : ℕ) : Type 0 where
  pub known : Known
  pub at : slice_get knowns o ≡ Some known
  pub under : Under parents (kind_of known) kind

-- the demands of an object lie on no one path, so that its kind isn't known
pub record IsApart (knowns : List Known) (o : ℕ) : Type 0 where
  pub known : Known
  pub at : slice_get knowns o ≡ Some known
  pub parted : known.demanded ≡ Parted

abbrev pub IsRoom : List (Option ℕ) → List Known → ℕ → Type 0
IsRoom parents knowns o = IsOf parents knowns room_kind o

abbrev pub IsDoor : List (Option ℕ) → List Known → ℕ → Type 0
IsDoor parents knowns o = IsOf parents knowns door_kind o

-- ---- C9: an object described again

-- the last of these statements is about this object
pub record EndsAbout (statements : List NumberedSentence) (o : ℕ) : Type 0 where
  pub earlier : List NumberedSentence
  pub last : NumberedSentence
  pub parts : statements ≡ earlier ++ last ∷ []
  pub about : subject_of last.said ≡ Some o

-- what is stated behind these statements describes an object with a text: it names the object, or is a text alone
-- behind a statement about the object, which is a room
abbrev pub Describes : List (Option ℕ) → List Known → ℕ → List ℕ → List NumberedSentence → Numbered → Type 0
Describes parents knowns o text before (numbered.Describes object other) = (object ≡ o) × (other ≡ text)
Describes parents knowns o text before (numbered.Description other) = EndsAbout before o × IsRoom parents knowns o × (other ≡ text)
Describes parents knowns o text before _ = ⊥

-- a statement describes an object otherwise than one before it
pub record IsDescribedAgain (parents : List (Option ℕ)) (knowns : List Known) (before : List NumberedSentence) (statement : NumberedSentence) : Type 0 where
  pub object : ℕ
  pub text : List ℕ
  pub other : List ℕ
  pub describes : Describes parents knowns object text before statement.said
  pub described : IsShown (λ earlier s. Describes parents knowns object other earlier s.said) before
  pub differ : text ≢ other

-- ---- C8: what the kinds don't allow, where they are known

-- the object's kind is known, and it is no room
abbrev pub IsNoRoom : List (Option ℕ) → List Known → ℕ → Type 0
IsNoRoom parents knowns o = (IsApart knowns o → ⊥) × (IsRoom parents knowns o → ⊥)

-- a text alone is wrong where the statement before it is about no object, or about one that is no room; a way where one of
-- its ends is no room; a door where it is none or doesn't stand between rooms
abbrev pub IsWrong : List (Option ℕ) → List Known → List NumberedSentence → Numbered → Type 0
IsWrong parents knowns before (numbered.Description text) = (o : ℕ) → EndsAbout before o → IsNoRoom parents knowns o
IsWrong parents knowns before (numbered.Way way) =
    ((IsApart knowns way.subject → ⊥) × (IsApart knowns way.room → ⊥))
    × ((IsRoom parents knowns way.subject → ⊥) ⊎ (IsRoom parents knowns way.room → ⊥))
IsWrong parents knowns before (numbered.Door d) =
    ((IsApart knowns d.door → ⊥) × ((IsApart knowns d.first.room → ⊥) × (IsApart knowns d.second.room → ⊥)))
    × ((IsDoor parents knowns d.door → ⊥) ⊎ ((IsRoom parents knowns d.first.room → ⊥) ⊎ (IsRoom parents knowns d.second.room → ⊥)))
IsWrong parents knowns before _ = ⊥

-- a holder of its kind holds so
abbrev pub Holds : List (Option ℕ) → List Known → Rel → ℕ → Type 0
Holds parents knowns In holder = IsRoom parents knowns holder ⊎ IsOf parents knowns container_kind holder
Holds parents knowns On holder = IsOf parents knowns supporter_kind holder
Holds parents knowns Carried holder = IsOf parents knowns person_kind holder
Holds parents knowns Worn holder = IsOf parents knowns person_kind holder
Holds parents knowns Part holder = IsOf parents knowns thing_kind holder

-- a thing that is no door may stand in this place; the player only directly in a room
pub record Suits (parents : List (Option ℕ)) (knowns : List Known) (o : ℕ) (place : Place) : Type 0 where
  pub thing : IsOf parents knowns thing_kind o
  pub no_door : IsDoor parents knowns o → ⊥
  pub holds : Holds parents knowns place.relation place.holder
  pub player : o ≡ 0 → (place.relation ≡ In) × IsRoom parents knowns place.holder

-- a kind has a property: it is built in so, or given by sentences, of the kind itself or of one above it
abbrev pub HasProperty : Scope → ℕ → ℕ → Type 0
HasProperty s kind property =
    Any (λ base. Under s.parents kind base) (kinds_in (slice_get built_in_bases property))
    ⊎ Any (λ given. (given.property ≡ property) × Under s.parents kind given.kind) s.givens

-- the kind of an object is known, and lacks a property, or the value that is said is none of the property's
pub record IsLacking (s : Scope) (knowns : List Known) (o property : ℕ) (value : Value) : Type 0 where
  pub apart : IsApart knowns o → ⊥
  pub lacks : (value ≡ Never) ⊎ (HasProperty s (kind_of (known_at knowns o)) property → ⊥)

-- a fact that the kinds don't allow, where they are known: a place, a property of an object or a value that is none of the property's,
-- or what is usual of a kind
abbrev pub IsUnsuited : Scope → List Known → Fact → Type 0
IsUnsuited s knowns (Placed p) =
    ((IsApart knowns (thing_of s.objects p) → ⊥) × (IsApart knowns (place_of s.objects p).holder → ⊥))
    × (Suits s.parents knowns (thing_of s.objects p) (place_of s.objects p) → ⊥)
IsUnsuited s knowns (Has h) = IsLacking s knowns (number_in s.objects h.object) (number_in s.properties h.property) h.value
IsUnsuited s knowns (Usually u) = (u.value ≡ Never) ⊎ (HasProperty s (number_in s.kinds u.kind) (number_in s.properties u.property) → ⊥)
IsUnsuited s knowns _ = ⊥

-- ---- C12: limits, and C13: a source without a room

-- with the mentions before there are 1,000 objects, the player and the directions among them
abbrev pub IsOneTooMany : List NameAt → NameAt → Type 0
IsOneTooMany before at = 1000 ≤ first_of_author + length before

-- a name of more bytes or words than it may have
abbrev pub IsLongName : List ℕ → Type 0
IsLongName name = (65535 < length name) ⊎ (32 < length (words_for first_of_author name))

-- a statement describes an object with a text of more bytes than it may have
pub record DescribesAtLength (parents : List (Option ℕ)) (knowns : List Known) (before : List NumberedSentence) (statement : NumberedSentence) : Type 0 where
  pub object : ℕ
  pub text : List ℕ
  pub describes : Describes parents knowns object text before statement.said
  pub long : 65535 < length text

-- one of the author's objects is a room, and those before it aren't
pub record IsFirstRoom (parents : List (Option ℕ)) (knowns : List Known) (o : ℕ) : Type 0 where
  pub of_author : first_of_author ≤ o
  pub room : IsRoom parents knowns o
  pub none_before : (other : ℕ) → first_of_author ≤ other → other < o → IsRoom parents knowns other → ⊥

-- none of the author's objects is a room
abbrev pub HasNoRoom : List (Option ℕ) → List Known → Type 0
HasNoRoom parents knowns = (o : ℕ) → first_of_author ≤ o → IsRoom parents knowns o → ⊥

-- the first room is this one, or there is none
abbrev pub IsRoomFound : List (Option ℕ) → List Known → Option ℕ → Type 0
IsRoomFound parents knowns None = HasNoRoom parents knowns
IsRoomFound parents knowns (Some o) = IsFirstRoom parents knowns o

-- a source is refused for it, at line 1, just where none of the author's objects is a room
abbrev pub IsRefusedRoomless : List (Option ℕ) → List Known → Option ℕ → Type 0
IsRefusedRoomless parents knowns None = HasNoRoom parents knowns → ⊥
IsRefusedRoomless parents knowns (Some line) = HasNoRoom parents knowns × (line ≡ 1)

-- ---- C8: demands on no one path

-- a fact demands of an object, by its number, to be of a kind that is there; a way demands a room, unless a door is demanded
abbrev pub DemandsKind : Scope → ℕ → ℕ → Fact → Type 0
DemandsKind s o kind (Demands d) = (has_name s.kinds d.kind ≡ true) × (number_in s.objects d.object ≡ o) × (number_in s.kinds d.kind ≡ kind)
DemandsKind s o kind (RoomUnlessDoor object) = (has_name s.doors object ≡ false) × (number_in s.objects object ≡ o) × (room_kind ≡ kind)
DemandsKind s o kind _ = ⊥

-- before any sentence the player is a person, and the directions are directions
abbrev pub IsBuiltIn : ℕ → ℕ → Type 0
IsBuiltIn o kind = ((o ≡ 0) × (person_kind ≡ kind)) ⊎ ((0 < o) × (o < first_of_author) × (direction_kind ≡ kind))

-- a kind is demanded of an object, by one of these claims or before any
abbrev pub IsDemanded : Scope → List Claim → ℕ → ℕ → Type 0
IsDemanded s claims o kind = IsBuiltIn o kind ⊎ IsShown (λ before c. DemandsKind s o kind c.fact) claims

abbrev pub AreOnOnePath : List (Option ℕ) → ℕ → ℕ → Type 0
AreOnOnePath parents a b = Under parents a b ⊎ Under parents b a

-- a claim demands a kind of an object, and then two kinds are demanded of it neither of which lies under the other
pub record IsOffPath (s : Scope) (before : List Claim) (c : Claim) : Type 0 where
  pub object : ℕ
  pub there : object < length s.objects
  pub kind : ℕ
  pub demands : DemandsKind s object kind c.fact
  pub first : ℕ
  pub second : ℕ
  pub first_demanded : IsDemanded s (before ++ c ∷ []) object first
  pub second_demanded : IsDemanded s (before ++ c ∷ []) object second
  pub apart : AreOnOnePath s.parents first second → ⊥
