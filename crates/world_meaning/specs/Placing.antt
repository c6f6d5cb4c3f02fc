-- What may hold what, and how: what a change of the world may do.
use Rattle.std.specs.Prelude.{ℕ, Bool, not, ◌==◌, ◌&&◌, ◌||◌, IsTrue, Option}
use Rattle.world_meaning.specs.Chains.{WouldCycle}
use Rattle.world_meaning.specs.Sight.{is_in}
use Rattle.world_meaning.specs.declared.place.Place.{Place}
use Rattle.world_meaning.specs.declared.place.Rel.{Rel}
use Rattle.world_meaning.specs.declared.place.Rel.TheVariants.{In, On, Carried, Worn, Part}

-- which objects are of these kinds, or of kinds below them
pub record Kinds : Type 0 where
  pub is_thing : ℕ → Bool
  pub is_room : ℕ → Bool
  pub is_door : ℕ → Bool
  pub is_container : ℕ → Bool
  pub is_supporter : ℕ → Bool
  pub is_person : ℕ → Bool

-- in a room or a container, on a supporter, carried or worn by a person, part of a thing
abbrev pub can_hold : Kinds → Rel → ℕ → Bool
can_hold kinds In holder = kinds.is_room holder || kinds.is_container holder
can_hold kinds On holder = kinds.is_supporter holder
can_hold kinds Carried holder = kinds.is_person holder
can_hold kinds Worn holder = kinds.is_person holder
can_hold kinds Part holder = kinds.is_thing holder

-- things are held, but for doors
abbrev pub can_be_held : Kinds → ℕ → Bool
can_be_held kinds object = kinds.is_thing object && not (kinds.is_door object)

-- the player is directly in a room
abbrev pub keeps_player : Kinds → ℕ → Place → Bool
keeps_player kinds object to = not (object == 0) || (is_in to.relation && kinds.is_room to.holder)

-- a change may put an object somewhere
pub record MayBePut (kinds : Kinds) (place : ℕ → Option Place) (object : ℕ) (to : Place) : Type 0 where
  pub held : IsTrue (can_be_held kinds object)
  pub holds : IsTrue (can_hold kinds to.relation to.holder)
  pub player : IsTrue (keeps_player kinds object to)
  pub no_cycle : WouldCycle place object to.holder → ⊥

-- a change may take an object away from where it is
abbrev pub may_be_taken : Kinds → ℕ → Bool
may_be_taken kinds object = can_be_held kinds object && not (object == 0)
