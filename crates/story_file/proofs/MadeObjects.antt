-- The objects of the tale that sentences mean are what their kinds allow.

use Rattle.std.proofs.Common.{◌≡◌, ℕ, zero, suc, ◌+◌, ◌<◌, ◌≤◌, Bool, true, ltb, leb, List, [], ◌∷◌, ◌++◌, length, map, Option, Some, None, refl, sym, ap, subst, arith, inl, inr}
use Rattle.std.specs.Prelude.{take}
use Rattle.std.specs.List.{list_all}
use Rattle.std.proofs.lemmas.Bool.{lt-ltb, le-leb, cases_Bool, and_from, and_parts}
use Rattle.world_meaning.specs.Declarations.{is_below as is_kind_below}
use Rattle.world_meaning.specs.Directions.{all_directions, direction_number}
use Rattle.world_meaning.specs.Kinds.{is_under}
use Rattle.world_meaning.specs.Placing.{Kinds}
use Rattle.world_meaning.specs.Sorts.{is_at, kinds_told, sorts_of, under_each}
use Rattle.world_meaning.specs.Standing.{are_well_placed, is_well_placed, lead_rightly, leads, place_at}
use Rattle.world_meaning.specs.WellMade.{are_directions, begin_rightly, has_right_exits, is_direction, is_player, kinds_of as kinds_in, places_of as places_in, stands_in_room}
use Rattle.world_meaning.specs.declared.direction.Direction.{Direction}
use Rattle.world_meaning.specs.declared.place.Place.{Place}
use Rattle.world_meaning.specs.declared.sorts.Sorts.{Sorts}
use Rattle.i7_kinds.specs.Demands.{target_of}
use Rattle.i7_kinds.specs.Knowns.{is_of, kinds_known, kinds_of}
use Rattle.i7_kinds.specs.Places.{Places}
use Rattle.i7_claims.specs.Statements.{NameAt}
use Rattle.i7_kinds.specs.declared.entries.Entry.{Entry}
use Rattle.i7_kinds.specs.declared.knowns.Known.{Known}
use Rattle.i7_claims.specs.declared.statements.NumberedSentence.{NumberedSentence}
use Rattle.i7_kinds.specs.declared.ways.Target.{Target}
use Rattle.i7_kinds.specs.Tales.{Made, author_entry, direction_entry, entries_of, exits_of, kind_at, object_as, object_of, objects_of, way_to}
use Rattle.i7_kinds.proofs.Placed.{AreSuited, IsSuited}
use Rattle.story_format.proofs.Known.{text_is_itself}

-- ---- kinds and places, object by object

cons_same : {X : Type 0} (x y : X) (xs ys : List X) → x ≡ y → xs ≡ ys → x ∷ xs ≡ y ∷ ys
cons_same x y xs ys h k = λ i. h i ∷ k i

kinds_from : (m : Made) (o : ℕ) (entries : List Entry) (ks : List ℕ) → length ks ≡ length entries → ((i j : ℕ) → o + i ≡ j → kind_at m.kinds j ≡ kind_at ks i) → kinds_in (objects_of m o entries) ≡ ks
unfolding object_as
kinds_from m o [] [] e h = refl
kinds_from m o [] (k ∷ ks) e h = absurd cc
kinds_from m o (entry ∷ entries) [] e h = absurd cc
kinds_from m o (entry ∷ entries) (k ∷ ks) e h =
    cons_same (kind_at m.kinds o) k (kinds_in (objects_of m (o + 1) entries)) ks (h 0 o (omega arith)) (kinds_from m (o + 1) entries ks (omega (arith, e)) (λ i j q. h (suc i) j (omega (arith, q))))

pub objects_kinds : (m : Made) (entries : List Entry) → length m.kinds ≡ length entries → kinds_in (objects_of m 0 entries) ≡ m.kinds
objects_kinds m entries e = kinds_from m 0 entries m.kinds e (λ i j q. let same : j ≡ i = omega (arith, q) in ap (kind_at m.kinds) same)

places_from : (m : Made) (o : ℕ) (entries : List Entry) (ps : Places) → length ps ≡ length entries → ((i j : ℕ) → o + i ≡ j → place_at m.places j ≡ place_at ps i) → places_in (objects_of m o entries) ≡ ps
unfolding object_as
places_from m o [] [] e h = refl
places_from m o [] (p ∷ ps) e h = absurd cc
places_from m o (entry ∷ entries) [] e h = absurd cc
places_from m o (entry ∷ entries) (p ∷ ps) e h =
    cons_same (place_at m.places o) p (places_in (objects_of m (o + 1) entries)) ps (h 0 o (omega arith)) (places_from m (o + 1) entries ps (omega (arith, e)) (λ i j q. h (suc i) j (omega (arith, q))))

pub objects_places : (m : Made) (entries : List Entry) → length m.places ≡ length entries → places_in (objects_of m 0 entries) ≡ m.places
objects_places m entries e = places_from m 0 entries m.places e (λ i j q. let same : j ≡ i = omega (arith, q) in ap (place_at m.places) same)

-- what is told of an object is what is known of it
pub told : (parents : List (Option ℕ)) (knowns : List Known) (kind o : ℕ) → is_at (under_each parents (kinds_of knowns) kind) o ≡ is_of parents knowns kind o
told parents [] kind o = refl
told parents (known ∷ knowns) kind zero = refl
told parents (known ∷ knowns) kind (suc o) = told parents knowns kind o

pub same_kinds : (parents : List (Option ℕ)) (knowns : List Known) → kinds_known parents knowns ≡ kinds_told (sorts_of parents (kinds_of knowns))
unfolding sorts_of
same_kinds parents knowns = λ i. record {
  is_thing = λ o. sym (told parents knowns 0 o) i;
  is_room = λ o. sym (told parents knowns 1 o) i;
  is_door = λ o. sym (told parents knowns 3 o) i;
  is_container = λ o. sym (told parents knowns 4 o) i;
  is_supporter = λ o. sym (told parents knowns 5 o) i;
  is_person = λ o. sym (told parents knowns 6 o) i;
}

pub kinds_counted : (knowns : List Known) → length (kinds_of knowns) ≡ length knowns
kinds_counted [] = refl
kinds_counted (known ∷ knowns) = ap suc (kinds_counted knowns)

-- ---- each is of a kind that is declared

pub kinds_held : (n : ℕ) (kinds : List ℕ) → ((o : ℕ) → kind_at kinds o < n) → list_all (is_kind_below n) kinds ≡ true
kinds_held n [] h = refl
kinds_held n (kind ∷ kinds) h = and_from (ltb kind n) (list_all (is_kind_below n) kinds) (lt-ltb kind n (h 0)) (kinds_held n kinds (λ o. h (suc o)))

-- ---- each is where it may be

well_placed : (kinds : Kinds) (o : ℕ) (place : Option Place) → IsSuited kinds o place → is_well_placed kinds o place ≡ true
well_placed kinds o None h = refl
well_placed kinds o (Some place) h = (and_parts (is_well_placed kinds o (Some place)) _ h).0

placed_from : (kinds : Kinds) (o : ℕ) (places : Places) → ((i j : ℕ) → o + i ≡ j → IsSuited kinds j (place_at places i)) → are_well_placed kinds o places ≡ true
unfolding are_well_placed
placed_from kinds o [] h = refl
placed_from kinds o (place ∷ places) h =
    and_from (is_well_placed kinds o place) (are_well_placed kinds (o + 1) places) (well_placed kinds o place (h 0 o (omega arith))) (placed_from kinds (o + 1) places (λ i j q. h (suc i) j (omega (arith, q))))

pub all_placed : (kinds : Kinds) (places : Places) → AreSuited kinds places → are_well_placed kinds 0 places ≡ true
all_placed kinds places h = placed_from kinds 0 places (λ i j q. let same : i ≡ j = omega (arith, q) in subst (λ (x : ℕ). IsSuited kinds x (place_at places i)) same (h i))

-- ---- ways lead between rooms

ways_lead : (sorts : Sorts) (targets : Direction → Option Target) (ds : List Direction) → ((d : Direction) → leads sorts (way_to (targets d)) ≡ true) → list_all (leads sorts) (map (λ d. way_to (targets d)) ds) ≡ true
ways_lead sorts targets [] h = refl
ways_lead sorts targets (d ∷ ds) h = and_from (leads sorts (way_to (targets d))) (list_all (leads sorts) (map (λ d. way_to (targets d)) ds)) (h d) (ways_lead sorts targets ds h)

-- to rooms, perhaps by doors
abbrev pub LeadToRooms : Sorts → List NumberedSentence → Type 0
LeadToRooms sorts statements = (room direction : ℕ) → leads sorts (way_to (target_of statements room direction)) ≡ true

exits_lead : (sorts : Sorts) (statements : List NumberedSentence) (o : ℕ) → LeadToRooms sorts statements → lead_rightly sorts (exits_of statements o) ≡ true
unfolding lead_rightly exits_of
exits_lead sorts statements o h = ways_lead sorts (λ d. target_of statements o (direction_number d)) all_directions (λ d. h o (direction_number d))

object_leads : (m : Made) (sorts : Sorts) (kind o : ℕ) (entry : Entry) → LeadToRooms sorts m.statements → has_right_exits m.parents sorts (object_as m kind o entry) ≡ true
unfolding has_right_exits object_as
object_leads m sorts kind o entry h =
    elim (cases_Bool (is_under m.parents kind 1)) [
      | inl is ↦ rw is (exits_lead sorts m.statements o h)
      | inr isnt ↦ rw isnt refl
    ]

pub all_lead : (m : Made) (sorts : Sorts) (o : ℕ) (entries : List Entry) → LeadToRooms sorts m.statements → list_all (has_right_exits m.parents sorts) (objects_of m o entries) ≡ true
all_lead m sorts o [] h = refl
all_lead m sorts o (entry ∷ entries) h =
    and_from (has_right_exits m.parents sorts (object_of m o entry)) (list_all (has_right_exits m.parents sorts) (objects_of m (o + 1) entries)) (object_leads m sorts (kind_at m.kinds o) o entry h) (all_lead m sorts (o + 1) entries h)

-- ---- the objects that stand first

abbrev pub IsDirectionAt : Made → ℕ → Type 0
IsDirectionAt m o = (is_under m.parents (kind_at m.kinds o) 2 ≡ true) × (place_at m.places o ≡ None)

directions_right : (m : Made) (o : ℕ) (ds : List Direction) → ((i j : ℕ) → o + i ≡ j → i < length ds → IsDirectionAt m j) → are_directions m.parents ds (objects_of m o (map direction_entry ds)) ≡ true
unfolding are_directions is_direction object_as
directions_right m o [] h = refl
directions_right m o (d ∷ ds) h =
    let t = h 0 o (omega arith) (omega arith) in
    let rest : are_directions m.parents ds (objects_of m (o + 1) (map direction_entry ds)) ≡ true = directions_right m (o + 1) ds (λ i j q lt. h (suc i) j (omega (arith, q)) (omega (arith, lt))) in
    rw (t.0, t.1, text_is_itself (direction_entry d).name) rest

pub objects_counted : (m : Made) (o : ℕ) (entries : List Entry) → length (objects_of m o entries) ≡ length entries
objects_counted m o [] = refl
objects_counted m o (entry ∷ entries) = ap suc (objects_counted m (o + 1) entries)

authors_counted : (mentions : List NameAt) → length (map author_entry mentions) ≡ length mentions
authors_counted [] = refl
authors_counted (at ∷ mentions) = ap suc (authors_counted mentions)

pub begins_held : (m : Made) (rooms : List Bool) (mentions : List NameAt) → 13 + length mentions ≤ 1000 → is_under m.parents (kind_at m.kinds 0) 6 ≡ true → stands_in_room rooms (place_at m.places 0) ≡ true → ((o : ℕ) → 1 ≤ o → o ≤ 12 → IsDirectionAt m o)
    → begin_rightly m.parents rooms (objects_of m 0 (entries_of mentions)) ≡ true
unfolding begin_rightly entries_of is_player object_as
begins_held m rooms mentions few person stands directions =
    let behind = objects_of m 1 (map direction_entry all_directions ++ map author_entry mentions) in
    let count : length behind ≡ 12 + length mentions = omega (arith, objects_counted m 1 (map direction_entry all_directions ++ map author_entry mentions), authors_counted mentions) in
    let few_others : leb (length behind) 999 ≡ true = le-leb _ _ (omega (arith, count, few)) in
    let many_others : leb 12 (length behind) ≡ true = le-leb _ _ (omega (arith, count)) in
    let right : are_directions m.parents all_directions (take 12 behind) ≡ true = directions_right m 1 all_directions (λ i j q lt. directions j (omega (arith, q)) (omega (arith, q, lt))) in
    rw (few_others, many_others, person, stands, right) refl
