-- Where table 6 says that objects are, and of which kinds.
use Rattle.std.specs.Prelude.{ℕ, Bool, ◌&&◌, ◌||◌, ◌==◌, List, map, Option, Some, None, is_some, if◌then◌else◌}
use Rattle.world_meaning.specs.Kinds.{is_under, room_kind}
use Rattle.world_meaning.specs.Sorts.{sorts_of}
use Rattle.world_meaning.specs.declared.place.Place.{Place}
use Rattle.world_meaning.specs.declared.place.Rel.{Rel}
use Rattle.world_meaning.specs.declared.place.Rel.TheVariants.{In, On, Carried, Worn, Part}
use Rattle.world_meaning.specs.declared.sorts.Sorts.{Sorts}
use Rattle.story_format.specs.declared.tables.Entry.{Entry}
use Rattle.story_format.specs.declared.tables.Tables.{Tables}

abbrev pub relation_of : ℕ → Option Rel
relation_of n = if n == 0 then Some In else (if n == 1 then Some On else (if n == 2 then Some Carried else (if n == 3 then Some Worn else (if n == 4 then Some Part else None))))

abbrev pub held_by : Option Rel → ℕ → Option Place
held_by None holder = None
held_by (Some relation) holder = Some (record { relation = relation; holder = holder })

abbrev pub place_of : Entry → Option Place
place_of e = held_by (relation_of e.relation) e.holder

-- a relation, or neither a relation nor a holder
abbrev pub is_place : Entry → Bool
is_place e = is_some (relation_of e.relation) || ((e.relation == 255) && (e.holder == 65535))

abbrev pub places_in : List Entry → List (Option Place)
places_in entries = map place_of entries

abbrev pub kinds_in : List Entry → List ℕ
kinds_in entries = map (λ e. e.kind) entries

-- which objects are of the built-in kinds or of kinds below them
abbrev pub sorts_in : Tables → Sorts
sorts_in t = sorts_of t.world.kinds (kinds_in t.objects)

abbrev pub is_room_entry : List (Option ℕ) → Entry → Bool
is_room_entry parents e = is_under parents e.kind room_kind
