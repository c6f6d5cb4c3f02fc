-- What the player can see and touch, and whether there is light.
use Rattle.std.specs.Prelude.{◌≡◌, ◌⊎◌, ℕ, Bool, true, false, not, ◌&&◌, IsTrue, List, Option, Some, None}
use Rattle.std.specs.List.{list_any}
use Rattle.world_meaning.specs.Chains.{IsChain, StandsIn, top_of}
use Rattle.world_meaning.specs.Tale.{holder_in}
use Rattle.world_meaning.specs.declared.place.Place.{Place}
use Rattle.world_meaning.specs.declared.place.Rel.{Rel}
use Rattle.world_meaning.specs.declared.place.Rel.TheVariants.{In, On, Carried, Worn, Part}

-- the root of the kinds that an object is of
pub data Root : Type 0 where
  thing : Root
  room : Root
  direction : Root

-- what decides of sight, object by object; a number that no object has has no root
pub record Sights : Type 0 where
  pub place : ℕ → Option Place
  pub root : ℕ → Option Root
  pub is_container : ℕ → Bool
  pub is_open : ℕ → Bool
  pub is_transparent : ℕ → Bool
  pub is_lit : ℕ → Bool
  pub is_lighted : ℕ → Bool
  -- a door stands in a room
  pub door_in : ℕ → ℕ → Bool

-- the room in which the player is
abbrev pub location_of : Sights → ℕ
location_of w = holder_in (w.place 0)

abbrev pub is_in : Rel → Bool
is_in In = true
is_in On = false
is_in Carried = false
is_in Worn = false
is_in Part = false

-- a step out of a closed container, and out of one that is opaque
abbrev pub blocks_touch : Sights → Place → Bool
blocks_touch w step = is_in step.relation && (w.is_container step.holder && not (w.is_open step.holder))

abbrev pub blocks_sight : Sights → Place → Bool
blocks_sight w step = blocks_touch w step && not (w.is_transparent step.holder)

-- the chain of a thing ends in the location, with no step blocked for sight
pub record IsInView (w : Sights) (object : ℕ) (steps : List Place) : Type 0 where
  pub chain : IsChain w.place object steps
  pub ends : top_of steps ≡ Some (location_of w)
  pub clear : list_any (blocks_sight w) steps ≡ false

-- the location is lighted, or light comes from a lit thing
abbrev pub HasLight : Sights → Type 0
HasLight w = IsTrue (w.is_lighted (location_of w)) ⊎ ((object : ℕ) × (IsTrue (w.is_lit object) × ((steps : List Place) × IsInView w object steps)))

-- a thing that is visible: the player; a door of the location in light; what is in view, in light or with the player in its chain
abbrev pub IsVisibleThing : Sights → ℕ → Type 0
IsVisibleThing w object = (object ≡ 0) ⊎ ((IsTrue (w.door_in object (location_of w)) × HasLight w) ⊎ ((steps : List Place) × (IsInView w object steps × (HasLight w ⊎ StandsIn 0 steps))))

abbrev pub IsVisibleAs : Option Root → Sights → ℕ → Type 0
IsVisibleAs None w object = ⊥
IsVisibleAs (Some thing) w object = IsVisibleThing w object
IsVisibleAs (Some room) w object = object ≡ location_of w
IsVisibleAs (Some direction) w object = Unit {0}

abbrev pub IsVisible : Sights → ℕ → Type 0
IsVisible w object = IsVisibleAs (w.root object) w object

-- what is visible, and no step of its chain is blocked for touch; rooms and directions are not
abbrev pub IsTouchable : Sights → ℕ → Type 0
IsTouchable w object = (w.root object ≡ Some thing) × (IsVisible w object × ((steps : List Place) × (IsChain w.place object steps × (list_any (blocks_touch w) steps ≡ false))))
