-- What changes of the world do: one that is not allowed, or that is of nothing, does nothing; and what comes of asking for one.
use Rattle.std.specs.Prelude.{◌≡◌, ◌⊎◌, ℕ, ℤ, Bool, true, false, not, ◌&&◌, ◌||◌, ◌==◌, List, [], ◌∷◌, ◌++◌, Option, None, Some, Result, Ok, Err, if◌then◌else◌}
use Rattle.world_meaning.specs.Placing.{can_be_held, can_hold, keeps_player, may_be_taken}
use Rattle.world_meaning.specs.declared.place.Place.{Place}
use Rattle.world_meaning.specs.declared.place.Rel.{Rel}
use Rattle.world_meaning.specs.declared.place.Rel.TheVariants.{In, On, Carried}
use Rattle.play_meaning.specs.Seeing.{encloses}
use Rattle.play_meaning.specs.Settings.{Setting, container_kind, kinds_of, person_kind, room_kind, supporter_kind}
use Rattle.play_meaning.specs.Values.{is_value}
use Rattle.play_meaning.specs.Worlds.{World, set_flag, set_number, set_place, set_value}
use Rattle.play_meaning.specs.declared.fault.WorldFault.{WorldFault}
use Rattle.play_meaning.specs.declared.fault.WorldFault.TheVariants.{Memory, Misplaced}

-- a thing may be put there: the kinds allow it, the player stays directly in a room, and nothing comes to stand in itself
unfoldable pub may_be_put : Setting → World → ℕ → Place → Bool
may_be_put s w o to =
    can_be_held (kinds_of s) o && can_hold (kinds_of s) to.relation to.holder && keeps_player (kinds_of s) o to
    && not ((o == to.holder) || encloses w o to.holder)

abbrev pub put_at : Setting → ℕ → Place → World → World
put_at s o to w = if may_be_put s w o to then set_place o (Some to) w else w

abbrev pub put : Setting → Option ℕ → Rel → Option ℕ → World → World
put s None relation holder w = w
put s (Some o) relation None w = w
put s (Some o) relation (Some holder) w = put_at s o (record { relation = relation; holder = holder }) w

abbrev pub take_away : Setting → Option ℕ → World → World
take_away s None w = w
take_away s (Some o) w = if may_be_taken (kinds_of s) o then set_place o None w else w

-- how a holder of its kind holds what is moved to it
abbrev pub relation_to : Setting → ℕ → Option Rel
relation_to s holder =
    if s.is_of holder room_kind || s.is_of holder container_kind then Some In
    else if s.is_of holder supporter_kind then Some On
    else if s.is_of holder person_kind then Some Carried
    else None

abbrev pub put_if : Setting → ℕ → ℕ → Option Rel → World → World
put_if s o holder None w = w
put_if s o holder (Some relation) w = put_at s o (record { relation = relation; holder = holder }) w

abbrev pub move : Setting → Option ℕ → Option ℕ → World → World
move s None holder w = w
move s (Some o) None w = w
move s (Some o) (Some holder) w = put_if s o holder (relation_to s holder) w

abbrev pub make_so : Setting → Option ℕ → ℕ → Bool → World → World
make_so s None property value w = w
make_so s (Some o) property value w = if s.has_flag o property then set_flag property o value w else w

abbrev pub make_number : Setting → Option ℕ → ℕ → ℤ → World → World
make_number s None property value w = w
make_number s (Some o) property value w = if s.has_number o property then set_number property o value w else w

-- one of the values of this kind, by its number
abbrev pub make_value : Setting → Option ℕ → ℕ → ℕ → World → World
make_value s None q value w = w
make_value s (Some o) q value w = if s.has_value o q && is_value s q value then set_value q o value w else w

-- ---- what comes of asking for a change

-- whether it is allowed is told; memory is asked for only where it is
abbrev pub Allows : {A : Type 0} → Result A WorldFault → Bool → Type 0
Allows (Ok done) allowed = allowed ≡ true
Allows (Err Misplaced) allowed = allowed ≡ false
Allows (Err Memory) allowed = allowed ≡ true

-- the world behind it: the change's, which is the same world where it isn't allowed, unless memory was refused
abbrev pub behind : {A : Type 0} → Result A WorldFault → World → World → World
behind (Ok done) changed w = changed
behind (Err Misplaced) changed w = changed
behind (Err Memory) changed w = w

-- the world before a change that was made is remembered behind those before earlier ones
abbrev pub remembered : {A : Type 0} → Result A WorldFault → World → List World → List World
remembered (Ok done) w past = past ++ w ∷ []
remembered (Err fault) w past = past

-- a world was remembered, or none
abbrev pub Remembers : World → List World → List World → Type 0
Remembers w past now = (now ≡ past) ⊎ (now ≡ past ++ w ∷ [])
