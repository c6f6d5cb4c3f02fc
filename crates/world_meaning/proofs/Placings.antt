-- What may be put somewhere, by the definitions alone.
use Rattle.std.proofs.Common.{◌≡◌, ℕ, Bool, true, false, ◌&&◌, refl, inl}
use Rattle.std.specs.Prelude.{Option, IsTrue, not}
use Rattle.std.proofs.lemmas.Bool.{false≢true}
use Rattle.world_meaning.specs.Placing.{Kinds, MayBePut, keeps_player}
use Rattle.world_meaning.specs.declared.place.Place.{Place}
use Rattle.world_meaning.specs.declared.place.Rel.{Rel}
use Rattle.world_meaning.specs.declared.place.Rel.TheVariants.{In, On, Carried, Worn, Part}

pub player_in_room : (kinds : Kinds) (place : ℕ → Option Place) (to : Place) → MayBePut kinds place 0 to → (to.relation ≡ In) × IsTrue (kinds.is_room to.holder)
player_in_room kinds place to may = by_relation to.relation to.holder may.player
  where
    by_relation : (relation : Rel) (holder : ℕ) → IsTrue (keeps_player kinds 0 (record { relation = relation; holder = holder })) → (relation ≡ In) × IsTrue (kinds.is_room holder)
    by_relation In holder e = (refl, e)
    by_relation On holder e = absurd (false≢true e)
    by_relation Carried holder e = absurd (false≢true e)
    by_relation Worn holder e = absurd (false≢true e)
    by_relation Part holder e = absurd (false≢true e)

pub not_in_itself : (kinds : Kinds) (place : ℕ → Option Place) (object : ℕ) (relation : Rel) → MayBePut kinds place object (record { relation = relation; holder = object }) → ⊥
not_in_itself kinds place object relation may = may.no_cycle (inl refl)

door_held : (is_thing is_door : Bool) → IsTrue is_door → IsTrue (is_thing && not is_door) → ⊥
door_held true true d e = false≢true e
door_held true false d e = false≢true d
door_held false b d e = false≢true e

pub doors_stay : (kinds : Kinds) (place : ℕ → Option Place) (object : ℕ) (to : Place) → IsTrue (kinds.is_door object) → MayBePut kinds place object to → ⊥
doors_stay kinds place object to door may = door_held (kinds.is_thing object) (kinds.is_door object) door may.held
