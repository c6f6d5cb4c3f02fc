-- Where a story's objects begin: each holder is there, no chain is endless, and the player is directly in a room.
use Rattle.std.proofs.Common.{◌≡◌, ◌∙◌, sym, ap, ℕ, zero, suc, ◌+◌, ◌<◌, ◌≤◌, Bool, true, leb, ltb, eqb, List, [], ◌∷◌, length, take, Option, Some, arith, ⊎_elim}
use Rattle.std.specs.Prelude.{codes, slice_get}
use Rattle.std.proofs.lemmas.Bool.{eqb-true, leb-true, and_parts, or_cases}
use Rattle.std.proofs.lemmas.List.{length-map}
use Rattle.world_meaning.proofs.Ends.{walks_decide}
use Rattle.world_meaning.specs.Chains.{IsTree}
use Rattle.world_meaning.specs.Directions.{all_directions}
use Rattle.world_meaning.specs.Kinds.{is_under}
use Rattle.world_meaning.specs.Placing.{Kinds, can_be_held, can_hold}
use Rattle.world_meaning.specs.Sorts.{is_at, kinds_told, sorts_of, under_each}
use Rattle.world_meaning.specs.Standing.{are_well_placed, have_ends, is_well_placed, place_at}
use Rattle.world_meaning.specs.declared.place.Place.{Place}
use Rattle.world_meaning.specs.declared.place.Rel.{Rel}
use Rattle.world_meaning.specs.declared.place.Rel.TheVariants.{In, On, Carried, Worn, Part}
use Rattle.story_format.specs.Counts.{counts_of}
use Rattle.story_format.specs.RuleChecks.{are_right_rules}
use Rattle.story_format.specs.Checks.{are_direction_entries, are_in_place, are_right, is_named, is_player_entry, is_right_frame, stand_rightly}
use Rattle.story_format.specs.Facts.{holder_in, start_of}
use Rattle.story_format.specs.Placed.{held_by, kinds_in, place_of, places_in, relation_of, sorts_in}
use Rattle.story_format.specs.Spells.{IsStory}
use Rattle.story_format.specs.WorldChecks.{is_right_world}
use Rattle.story_format.specs.declared.tables.Entry.{Entry}
use Rattle.story_format.specs.declared.tables.Tables.{Tables}
use Rattle.story_format.proofs.RoomLemmas.{in_place, right_parts}
use Rattle.story_format.proofs.StoryLemmas.{four, last_of_five, three}
use Rattle.story_format.proofs.ValueLemmas.{checked_parts}

frame_of : (t : Tables) → are_right t ≡ true → is_right_frame t ≡ true
frame_of t right = (checked_parts t right).0

stands : (t : Tables) → are_right t ≡ true → stand_rightly t ≡ true
stands t right = (checked_parts t right).3

frame_few : (t : Tables) → is_right_frame t ≡ true → length t.objects ≤ 1000
unfolding is_right_frame
frame_few t frame = leb-true _ _ (four (is_right_world t.world) (are_right_rules (counts_of t) t.rules) (leb (length t.objects) 1000) (ltb (length t.strings) 65535) frame).2

pub stories_few : (t : Tables) → IsStory t → length t.objects ≤ 1000
stories_few t story = frame_few t (frame_of t story.right)

stand_parts : (t : Tables) → stand_rightly t ≡ true → (are_well_placed (kinds_told (sorts_in t)) 0 (places_in t.objects) ≡ true) × (have_ends (places_in t.objects) ≡ true)
unfolding stand_rightly
stand_parts t right = and_parts (are_well_placed (kinds_told (sorts_in t)) 0 (places_in t.objects)) (have_ends (places_in t.objects)) right

pub stories_tree : (t : Tables) → IsStory t → IsTree (place_at (places_in t.objects))
stories_tree t story = (walks_decide (places_in t.objects)).0 (stand_parts t (stands t story.right)).1

-- ---- holders

well_at : (kinds : Kinds) (o : ℕ) (places : List (Option Place)) (i n : ℕ) (place : Place) → are_well_placed kinds o places ≡ true → o + i ≡ n
    → place_at places i ≡ Some place → is_well_placed kinds n (Some place) ≡ true
unfolding are_well_placed
well_at kinds o [] i n place h e there = absurd cc
well_at kinds o (p ∷ ps) zero n place h e there =
    let same : o ≡ n = omega (arith, e) in
    ap (is_well_placed kinds n) (sym there) ∙ ap (λ (k : ℕ). is_well_placed kinds k p) (sym same) ∙ (and_parts (is_well_placed kinds o p) (are_well_placed kinds (o + 1) ps) h).0
well_at kinds o (p ∷ ps) (suc i) n place h e there = well_at kinds (o + 1) ps i n place (and_parts (is_well_placed kinds o p) (are_well_placed kinds (o + 1) ps) h).1 (omega (arith, e)) there

at_there : (told : List Bool) (o : ℕ) → is_at told o ≡ true → o < length told
at_there [] o h = absurd cc
at_there (b ∷ told) zero h = omega arith
at_there (b ∷ told) (suc o) h = omega (arith, at_there told o h)

told_there : (t : Tables) (other o : ℕ) → is_at (under_each t.world.kinds (kinds_in t.objects) other) o ≡ true → o < length t.objects
told_there t other o h =
    let kinds : length (kinds_in t.objects) ≡ length t.objects = length-map t.objects (λ (e : Entry). e.kind) in
    let told : length (under_each t.world.kinds (kinds_in t.objects) other) ≡ length (kinds_in t.objects) = length-map (kinds_in t.objects) (λ (kind : ℕ). is_under t.world.kinds kind other) in
    omega (arith, at_there (under_each t.world.kinds (kinds_in t.objects) other) o h, kinds, told)

holds_there : (t : Tables) (relation : Rel) (holder : ℕ) → can_hold (kinds_told (sorts_in t)) relation holder ≡ true → holder < length t.objects
unfolding sorts_of
holds_there t In holder h = ⊎_elim (told_there t 1 holder) (told_there t 4 holder) (or_cases _ _ h)
holds_there t On holder h = told_there t 5 holder h
holds_there t Carried holder h = told_there t 6 holder h
holds_there t Worn holder h = told_there t 6 holder h
holds_there t Part holder h = told_there t 0 holder h

pub holders_there : (t : Tables) (thing : ℕ) (place : Place) → IsStory t → place_at (places_in t.objects) thing ≡ Some place → place.holder < length t.objects
holders_there t thing place story there =
    let kinds : Kinds = kinds_told (sorts_in t) in
    let well : is_well_placed kinds thing (Some place) ≡ true = well_at kinds 0 (places_in t.objects) thing thing place (stand_parts t (stands t story.right)).0 (omega arith) there in
    holds_there t place.relation place.holder (and_parts (can_be_held kinds thing) (can_hold kinds place.relation place.holder) well).1

-- ---- the player

player_place : (strings : List (List ℕ)) (parents : List (Option ℕ)) (rooms : List Bool) (e : Entry) → is_player_entry strings parents rooms e ≡ true
    → place_of e ≡ Some (record { relation = In; holder = e.holder })
unfolding is_player_entry
player_place strings parents rooms e h =
    let parts = last_of_five (is_under parents e.kind 6) (is_named strings e.name (codes "yourself")) (eqb e.article 0) (eqb e.relation 0) (is_at rooms e.holder) h in
    ap (λ (n : ℕ). held_by (relation_of n) e.holder) (eqb-true e.relation 0 parts.3)

start_place : (strings : List (List ℕ)) (parents : List (Option ℕ)) (rooms : List Bool) (entries : List Entry) → are_in_place strings parents rooms entries ≡ true
    → place_at (places_in entries) 0 ≡ Some (record { relation = In; holder = holder_in (slice_get entries 0) })
unfolding are_in_place
start_place strings parents rooms [] h = absurd cc
start_place strings parents rooms (player ∷ others) h =
    player_place strings parents rooms player (three (leb 12 (length others)) (is_player_entry strings parents rooms player) (are_direction_entries strings parents all_directions (take 12 others)) h).1

pub player_in_room : (t : Tables) → IsStory t → place_at (places_in t.objects) 0 ≡ Some (record { relation = In; holder = start_of t })
player_in_room t story = start_place t.strings t.world.kinds (sorts_in t).rooms t.objects (in_place t (right_parts t story.right).0)
