-- A story begins in one of its rooms, and its ways lead to its rooms.
use Rattle.std.proofs.Common.{◌≡◌, ℕ, ◌-◌, Bool, true, ◌&&◌, leb, eqb, List, [], ◌∷◌, length, map, take, Option, Some, None, refl, inl, inr}
use Rattle.std.specs.Prelude.{slice_get, codes, count_by}
use Rattle.std.specs.List.{list_all}
use Rattle.std.proofs.lemmas.Bool.{cases_Bool, and_parts}
use Rattle.world_meaning.specs.Directions.{all_directions}
use Rattle.world_meaning.specs.Kinds.{is_under}
use Rattle.world_meaning.specs.Sorts.{is_at}
use Rattle.world_meaning.specs.Standing.{is_at_or_none, lead_rightly, leads}
use Rattle.world_meaning.specs.Tale.{room_beyond}
use Rattle.world_meaning.specs.declared.exits.Exits.{Exits}
use Rattle.world_meaning.specs.declared.exits.Way.{Way}
use Rattle.world_meaning.specs.declared.sorts.Sorts.{Sorts}
use Rattle.story_format.specs.declared.tables.Entry.{Entry}
use Rattle.story_format.specs.declared.tables.Tables.{Tables}
use Rattle.story_format.specs.Checks.{have_words, is_small, has_small_words, is_named, is_player_entry, are_direction_entries, are_in_place, are_named_in_order, strings_in_tables, heads_named, are_right_objects, are_right_ways, are_right}
use Rattle.story_format.specs.Facts.{holder_in, is_room_in, rooms_before, start_of, way_in, way_of}
use Rattle.story_format.specs.Placed.{is_room_entry, sorts_in}
use Rattle.story_format.specs.Sizes.{is_right_entry, sizes_of}
use Rattle.story_format.specs.Spells.{IsStory}
use Rattle.story_format.specs.WorldChecks.{suits_kind}
use Rattle.story_format.proofs.StoryLemmas.{all_at, last_of_five, three}
use Rattle.story_format.proofs.ValueLemmas.{checked_parts}

pub right_parts : (t : Tables) → are_right t ≡ true → (are_right_objects t ≡ true) × (are_right_ways t ≡ true)
right_parts t right = let p = checked_parts t right in (p.2, p.4)

pub in_place : (t : Tables) → are_right_objects t ≡ true → are_in_place t.strings t.world.kinds (sorts_in t).rooms t.objects ≡ true
unfolding are_right_objects
in_place t right =
    let placed = are_in_place t.strings t.world.kinds (sorts_in t).rooms t.objects in
    let p =
    last_of_five
    (list_all (is_right_entry (sizes_of t)) t.objects && placed && have_words t.strings 0 t.objects)
    (list_all (has_small_words (map is_small t.strings)) t.objects)
    (are_named_in_order 0 (strings_in_tables t))
    (are_named_in_order 0 (heads_named t))
    (list_all (suits_kind t.world) t.objects)
    right in
    (three (list_all (is_right_entry (sizes_of t)) t.objects) placed (have_words t.strings 0 t.objects) p.0).1

player_room : (strings : List (List ℕ)) (parents : List (Option ℕ)) (rooms : List Bool) (e : Entry) → is_player_entry strings parents rooms e ≡ true → is_at rooms e.holder ≡ true
unfolding is_player_entry
player_room strings parents rooms e h = (last_of_five (is_under parents e.kind 6) (is_named strings e.name (codes "yourself")) (eqb e.article 0) (eqb e.relation 0) (is_at rooms e.holder) h).4

start_room : (strings : List (List ℕ)) (parents : List (Option ℕ)) (rooms : List Bool) (entries : List Entry) → are_in_place strings parents rooms entries ≡ true → is_at rooms (holder_in (slice_get entries 0)) ≡ true
unfolding are_in_place
start_room strings parents rooms [] h = absurd cc
start_room strings parents rooms (player ∷ others) h =
    let t = three (leb 12 (length others)) (is_player_entry strings parents rooms player) (are_direction_entries strings parents all_directions (take 12 others)) h in
    player_room strings parents rooms player t.1

pub story_starts : (t : Tables) → IsStory t → is_at (sorts_in t).rooms (start_of t) ≡ true
story_starts t story = start_room t.strings t.world.kinds (sorts_in t).rooms t.objects (in_place t (right_parts t story.right).0)

beyond_room : (sorts : Sorts) (ways : List Way) (found : Option Way) (i : ℕ) → slice_get ways i ≡ found → list_all (leads sorts) ways ≡ true → is_at_or_none sorts.rooms (room_beyond found) ≡ true
beyond_room sorts ways None i e h = refl
beyond_room sorts ways (Some way) i e h = (and_parts (is_at_or_none sorts.rooms way.room) (is_at_or_none sorts.doors way.door) (all_at (leads sorts) ways i way h e)).0

exits_room : (sorts : Sorts) (ways : List Exits) (found : Option Exits) (i direction : ℕ) → slice_get ways i ≡ found → list_all (lead_rightly sorts) ways ≡ true → is_at_or_none sorts.rooms (way_in found direction) ≡ true
unfolding lead_rightly
exits_room sorts ways None i direction e h = refl
exits_room sorts ways (Some exits) i direction e h =
    let lead = and_parts (eqb (length exits.ways) 12) (list_all (leads sorts) exits.ways) (all_at (lead_rightly sorts) ways i exits h e) in
    beyond_room sorts exits.ways (slice_get exits.ways (direction - 1)) (direction - 1) refl lead.1

ways_right : (t : Tables) → are_right_ways t ≡ true → list_all (lead_rightly (sorts_in t)) t.ways ≡ true
unfolding are_right_ways
ways_right t h = (and_parts (eqb (length t.ways) (count_by (is_room_entry t.world.kinds) t.objects)) (list_all (lead_rightly (sorts_in t)) t.ways) h).1

pub story_leads : (t : Tables) (room direction : ℕ) → IsStory t → is_at_or_none (sorts_in t).rooms (way_of t room direction) ≡ true
story_leads t room direction story =
    let place = rooms_before t.world.kinds t.objects room in
    elim (cases_Bool (is_room_in t.world.kinds (slice_get t.objects room))) [
      | inl is ↦ rw is (exits_room (sorts_in t) t.ways (slice_get t.ways place) place direction refl (ways_right t (right_parts t story.right).1))
      | inr isnt ↦ rw isnt refl
    ]
