-- What a tale says of an object, by the object's number; nothing of a number that no object has.
use Rattle.std.specs.Prelude.{ℕ, ◌-◌, List, [], Option, None, Some, slice_get}
use Rattle.world_meaning.specs.declared.exits.Way.{Way}
use Rattle.world_meaning.specs.declared.place.Place.{Place}
use Rattle.world_meaning.specs.declared.tale.Object.{Object}
use Rattle.world_meaning.specs.declared.tale.Tale.{Tale}

abbrev pub object_at : Tale → ℕ → Option Object
object_at tale o = slice_get tale.objects o

-- a name as it is printed, without an article
abbrev pub name_in : Option Object → List ℕ
name_in None = []
name_in (Some object) = object.name

abbrev pub name_of : Tale → ℕ → List ℕ
name_of tale o = name_in (object_at tale o)

abbrev pub description_in : Option Object → Option (List ℕ)
description_in None = None
description_in (Some object) = object.description

abbrev pub description_of : Tale → ℕ → Option (List ℕ)
description_of tale o = description_in (object_at tale o)

abbrev pub room_beyond : Option Way → Option ℕ
room_beyond None = None
room_beyond (Some way) = way.room

abbrev pub way_in : Option Object → ℕ → Option ℕ
way_in None direction = None
way_in (Some object) direction = room_beyond (slice_get object.exits.ways (direction - 1))

-- the room to which a direction, by its number, leads from a room
abbrev pub way_of : Tale → ℕ → ℕ → Option ℕ
way_of tale room direction = way_in (object_at tale room) direction

abbrev pub holder_in : Option Place → ℕ
holder_in None = 0
holder_in (Some place) = place.holder

abbrev pub place_in : Option Object → ℕ
place_in None = 0
place_in (Some object) = holder_in object.place

-- the room in which the player begins
abbrev pub start_of : Tale → ℕ
start_of tale = place_in (object_at tale 0)
