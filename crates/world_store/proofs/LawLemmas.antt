-- What the laws of worlds cite.
use Rattle.std.proofs.Common.{◌≡◌, ◌∙◌, ◌≢◌, ◌⊎◌, sym, ap, refl, ℕ, zero, suc, ◌<◌, ◌≤◌, ℤ, Bool, true, false, List, [], ◌∷◌, length, arith, inl, inr, get_or-set_same, get_or-set_other, eqb-true}
use Rattle.std.specs.Prelude.{Option, Some, None, option_map, ◌&&◌, ◌||◌, ◌==◌, if◌then◌else◌, nat_lt, pos, slice_get, slice_index_or, slice_set}
use Rattle.std.proofs.lemmas.Bool.{ltb-false, ltb-true, cases_Bool}
use Rattle.world_meaning.specs.Declarations.{has_property}
use Rattle.world_meaning.specs.declared.declared.Granted.{Granted}
use Rattle.world_meaning.specs.Chains.{IsChain}
use Rattle.world_meaning.specs.Sight.{thing, room, direction}
use Rattle.world_meaning.specs.declared.place.Place.{Place}
use Rattle.world_meaning.specs.declared.place.Rel.TheVariants.{In}
use Rattle.object_tree.proofs.Climbs.{climb_chain}
use Rattle.play_meaning.specs.Seeing.{encloses, has_light, is_in_view, is_visible, is_visible_as, is_visible_thing, stands_here}
use Rattle.play_meaning.specs.Settings.{Setting, direction_kind, room_kind, thing_kind}
use Rattle.play_meaning.specs.StoryWorlds.{IsWorldOf}
use Rattle.play_meaning.specs.Worlds.{World, chain, is_true_of, location_of, number_of, place_of, set_flag, set_number, set_place, set_value, value_of}
use Rattle.std.proofs.lemmas.List.{length-map}
use Rattle.story_format.specs.InPlay.{grants_in, has_in}
use Rattle.story_format.specs.declared.tables.Entry.{Entry}
use Rattle.story_format.specs.declared.tables.Tables.{Tables}
use Rattle.world_store.specs.Rows.{AreColumns}
use Rattle.world_store.specs.StorySettings.{setting_of}
use Rattle.world_store.specs.StoryWorlds.{IsKept}

-- ---- worlds of stories

true_within : (row : List Bool) (o : ℕ) → slice_index_or row o false ≡ true → o < length row
true_within [] o is = absurd cc
true_within (b ∷ row) zero is = omega arith
true_within (b ∷ row) (suc o) is = omega (arith, true_within row o is)

-- no column stands behind the last
none_past : {A : Type 0} (columns : List (List A)) (i : ℕ) → length columns ≤ i → slice_index_or columns i [] ≡ []
none_past [] i past = refl
none_past (column ∷ columns) zero past = absurd (omega (arith, past))
none_past (column ∷ columns) (suc i) past = none_past columns i (omega (arith, past))

at_most : {A : Type 0} (columns : List (List A)) (count height i : ℕ) → AreColumns columns count height → length (slice_index_or columns i []) ≤ height
at_most columns count height i k =
    elim (cases_Bool (nat_lt i count)) [
      | inl inside ↦ omega (arith, k.high i (ltb-true i count inside))
      | inr past ↦ omega (arith, ap length (none_past columns i (omega (arith, ltb-false i count past, k.many))))
    ]

true_there : (t : Tables) (w : World) (property o : ℕ) → IsKept t w → is_true_of w property o ≡ true → o < (setting_of t).count
unfolding is_true_of setting_of
true_there t w property o k is =
    omega (arith, true_within (slice_index_or w.flags property []) o is, at_most w.flags (length t.world.flags) (length t.objects) property k.flags)

kept_chains : (t : Tables) (w : World) → IsKept t w → (o : ℕ) → IsChain (place_of w) o (chain w o)
unfolding chain
kept_chains t w k o = climb_chain (place_of w) (length w.places) o k.tree (λ x place e. k.holders x place.holder (ap (option_map (λ p. p.holder)) e))

pub world_of_story : (t : Tables) (w : World) → IsKept t w → IsWorldOf (setting_of t) w
world_of_story t w k = record {
  chains = kept_chains t w k;
  room = record { relation = In; holder = k.here };
  player = k.player;
  there = λ property o is. true_there t w property o k is;
}

-- ---- what is set is read

granted_there : (parents : List (Option ℕ)) (granted : List Granted) (kind property : ℕ) → has_property parents granted kind property ≡ true → property < length granted
granted_there parents [] kind property has = absurd cc
granted_there parents (g ∷ granted) kind zero has = omega arith
granted_there parents (g ∷ granted) kind (suc property) has = omega (arith, granted_there parents granted kind property has)

pub had_there : (parents : List (Option ℕ)) (granted : List Granted) (property : ℕ) (entries : List Entry) (o : ℕ) → has_in parents granted property (slice_get entries o) ≡ true
    → (o < length entries) × (property < length granted)
had_there parents granted property [] o has = absurd cc
had_there parents granted property (e ∷ entries) zero has = (omega arith, granted_there parents granted e.kind property has)
had_there parents granted property (e ∷ entries) (suc o) has =
    let found = had_there parents granted property entries o has in
    (omega (arith, found.0), found.1)

cell_read : {A : Type 0} (columns : List (List A)) (count height i o : ℕ) (value otherwise : A) → AreColumns columns count height → i < count → o < height
    → slice_index_or (slice_index_or (slice_set columns i (slice_set (slice_index_or columns i []) o value)) i []) o otherwise ≡ value
cell_read columns count height i o value otherwise k inside at =
    ap (λ column. slice_index_or column o otherwise) (get_or-set_same columns i (slice_set (slice_index_or columns i []) o value) [] (omega (arith, inside, k.many)))
    ∙ get_or-set_same (slice_index_or columns i []) o value otherwise (omega (arith, at, k.high i inside))

pub flag_read : (t : Tables) (w : World) (property o : ℕ) (value : Bool) → IsKept t w → (setting_of t).has_flag o property ≡ true → is_true_of (set_flag property o value w) property o ≡ value
unfolding is_true_of set_flag setting_of
flag_read t w property o value k has =
    let there = had_there t.world.kinds t.world.flags property t.objects o has in
    cell_read w.flags (length t.world.flags) (length t.objects) property o value false k.flags there.1 there.0

pub number_read : (t : Tables) (w : World) (property o : ℕ) (value : ℤ) → IsKept t w → (setting_of t).has_number o property ≡ true → number_of (set_number property o value w) property o ≡ value
unfolding number_of set_number setting_of
number_read t w property o value k has =
    let there = had_there t.world.kinds t.world.numbers property t.objects o has in
    cell_read w.numbers (length t.world.numbers) (length t.objects) property o value (pos 0) k.numbers there.1 there.0

pub value_read : (t : Tables) (w : World) (kind o value : ℕ) → IsKept t w → (setting_of t).has_value o kind ≡ true → value_of (set_value kind o value w) kind o ≡ value
unfolding value_of set_value setting_of
value_read t w kind o value k has =
    let there = had_there t.world.kinds (grants_in t.values) kind t.objects o has in
    let many : length (grants_in t.values) ≡ length t.values.kinds = length-map t.values.kinds (λ q. q.given) in
    cell_read w.values (length t.values.kinds) (length t.objects) kind o value 0 k.values (omega (arith, there.1, many)) there.0

pub place_read : (t : Tables) (w : World) (o : ℕ) (place : Option Place) → IsKept t w → o < (setting_of t).count → place_of (set_place o place w) o ≡ place
unfolding setting_of
place_read t w o place k there = get_or-set_same w.places o place None (omega (arith, there, k.objects))

-- ---- changes

pub places_left : (w : World) (o other : ℕ) (place : Option Place) → o ≢ other → place_of (set_place o place w) other ≡ place_of w other
places_left w o other place away = get_or-set_other w.places o other place None (λ e. away (sym e))

cell_left : {A : Type 0} (rows : List (List A)) (i j o x : ℕ) (value otherwise : A) → (i ≢ j) ⊎ (o ≢ x)
    → slice_index_or (slice_index_or (slice_set rows i (slice_set (slice_index_or rows i []) o value)) j []) x otherwise ≡ slice_index_or (slice_index_or rows j []) x otherwise
cell_left [] i j o x value otherwise away = refl
cell_left (row ∷ rows) zero zero o x value otherwise (inl other) = absurd (other refl)
cell_left (row ∷ rows) zero zero o x value otherwise (inr other) = get_or-set_other row o x value otherwise (λ e. other (sym e))
cell_left (row ∷ rows) zero (suc j) o x value otherwise away = refl
cell_left (row ∷ rows) (suc i) zero o x value otherwise away = refl
cell_left (row ∷ rows) (suc i) (suc j) o x value otherwise (inl other) = cell_left rows i j o x value otherwise (inl (λ e. other (ap suc e)))
cell_left (row ∷ rows) (suc i) (suc j) o x value otherwise (inr other) = cell_left rows i j o x value otherwise (inr other)

pub flags_left : (w : World) (property o of x : ℕ) (value : Bool) → (property ≢ of) ⊎ (o ≢ x) → is_true_of (set_flag property o value w) of x ≡ is_true_of w of x
unfolding is_true_of set_flag
flags_left w property o of x value away = cell_left w.flags property of o x value false away

pub numbers_left : (w : World) (property o of x : ℕ) (value : ℤ) → (property ≢ of) ⊎ (o ≢ x) → number_of (set_number property o value w) of x ≡ number_of w of x
unfolding number_of set_number
numbers_left w property o of x value away = cell_left w.numbers property of o x value (pos 0) away

pub values_left : (w : World) (kind o of x value : ℕ) → (kind ≢ of) ⊎ (o ≢ x) → value_of (set_value kind o value w) of x ≡ value_of w of x
unfolding value_of set_value
values_left w kind o of x value away = cell_left w.values kind of o x value 0 away

-- ---- the dark

by_hand : (player door view light held : Bool) → light ≡ false → (player || (door && light) || (view && (light || held))) ≡ true → (player ≡ true) ⊎ (held ≡ true)
by_hand true door view light held dark is = inl refl
by_hand false door view true held dark is = absurd cc
by_hand false true true false held dark is = inr is
by_hand false true false false held dark is = absurd cc
by_hand false false true false held dark is = inr is
by_hand false false false false held dark is = absurd cc

held_in_dark : (s : Setting) (w : World) (o : ℕ) → has_light s w ≡ false → is_visible_thing s w o ≡ true → (o ≡ 0) ⊎ (encloses w 0 o ≡ true)
unfolding is_visible_thing
held_in_dark s w o dark seen =
    elim (by_hand (o == 0) (stands_here s o (location_of w)) (is_in_view s w o) (has_light s w) (encloses w 0 o) dark seen) [
      | inl player ↦ inl (eqb-true o 0 player)
      | inr held ↦ inr held
    ]

pub dark_hides : (s : Setting) (w : World) (o : ℕ) → has_light s w ≡ false → s.is_of o thing_kind ≡ true → is_visible s w o ≡ true → (o ≡ 0) ⊎ (encloses w 0 o ≡ true)
unfolding is_visible
dark_hides s w o dark is seen =
    let as_thing : is_visible_as (if s.is_of o thing_kind then Some thing else if s.is_of o room_kind then Some room else if s.is_of o direction_kind then Some direction else None) s w o ≡ is_visible_thing s w o =
    ap (λ (b : Bool). is_visible_as (if b then Some thing else if s.is_of o room_kind then Some room else if s.is_of o direction_kind then Some direction else None) s w o) is in
    held_in_dark s w o dark (sym as_thing ∙ seen)
