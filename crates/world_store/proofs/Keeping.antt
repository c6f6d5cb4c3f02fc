-- What keeps the lists of a world as long as its story says, and the player in a room.
use Rattle.std.proofs.Common.{◌≡◌, ◌∙◌, sym, ap, refl, subst, ℕ, zero, suc, ◌+◌, ◌<◌, ◌≤◌, ◌≢◌, ℤ, Bool, true, eqb, List, [], ◌∷◌, length, map, arith, lit<, inl, inr, get_or-set_same, get_or-set_other}
use Rattle.std.specs.Prelude.{drop, Option, Some, None, ◌&&◌, ◌^◌, option_map, replicate, slice_get, slice_index_or, slice_set}
use Rattle.std.specs.List.{range_with_len}
use Rattle.std.proofs.Math.ListN.{length-set}
use Rattle.std.proofs.lemmas.Bool.{eqb-true, eqb-false, cases_Bool, and_parts}
use Rattle.std.proofs.lemmas.Bool.Decides.{eqb_tells}
use Rattle.std.proofs.lemmas.List.{length-map}
use Rattle.std.proofs.lemmas.List.FromFn.{length-map-range_with_len}
use Rattle.std.proofs.lemmas.Option.{none-some, same_Some}
use Rattle.world_meaning.specs.Chains.{IsTree}
use Rattle.world_meaning.specs.Placing.{Kinds, keeps_player}
use Rattle.world_meaning.specs.Sight.{is_in}
use Rattle.world_meaning.specs.Sorts.{is_at, sorts_of, under_each}
use Rattle.world_meaning.specs.Standing.{place_at}
use Rattle.world_meaning.specs.declared.place.Place.{Place}
use Rattle.world_meaning.specs.declared.place.Rel.{Rel}
use Rattle.world_meaning.specs.declared.place.Rel.TheVariants.{In, On, Carried, Worn, Part}
use Rattle.object_tree.proofs.Moves.{moved, tree_taken}
use Rattle.object_tree.specs.Places.{holder_of, place_of}
use Rattle.play_meaning.specs.Settings.{room_kind}
use Rattle.play_meaning.specs.Turns.{most_turns}
use Rattle.play_meaning.specs.Values.{is_value}
use Rattle.play_meaning.specs.Worlds.{World, next_turn, not_begun, set_flag, set_number, set_place, set_scene, set_value, set_variable}
use Rattle.play_meaning.specs.declared.scene.SceneNow.{SceneNow}
use Rattle.story_format.specs.Facts.{start_of}
use Rattle.story_format.specs.InPlay.{is_of, is_of_in, start_flags, start_number, start_numbers, start_values, start_values_from, start_variable, start_variables, starts_true}
use Rattle.story_format.specs.Placed.{kinds_in, place_of as place_in, places_in}
use Rattle.story_format.specs.Spells.{IsStory}
use Rattle.story_format.specs.declared.tables.Entry.{Entry}
use Rattle.story_format.specs.declared.tables.Tables.{Tables}
use Rattle.story_format.proofs.Beginnings.{holders_there, player_in_room, stories_few, stories_tree}
use Rattle.story_format.proofs.RoomLemmas.{story_starts}
use Rattle.world_store.specs.Rows.{AreColumns}
use Rattle.world_store.specs.StartWorlds.{start_world}
use Rattle.world_store.specs.StorySettings.{setting_of}
use Rattle.world_store.specs.StoryWorlds.{IsKept}
use Rattle.world_store.proofs.Choices.{choices_at_start, choices_left, choices_with}

-- ---- the start

at_or : (places : List (Option Place)) (o : ℕ) → slice_index_or places o None ≡ place_at places o
at_or [] o = refl
at_or (place ∷ places) zero = refl
at_or (place ∷ places) (suc o) = at_or places o

pub tree_of : (places : List (Option Place)) (t : Tables) → places ≡ places_in t.objects → IsStory t → IsTree (place_of places)
tree_of places t is story =
    let same : place_at (places_in t.objects) ≡ place_of (places_in t.objects) = λ i o. sym (at_or (places_in t.objects) o) i in
    subst (λ (ps : List (Option Place)). IsTree (place_of ps)) (sym is) (subst (λ (place : ℕ → Option Place). IsTree place) same (stories_tree t story))

few_of : (n : ℕ) → n ≤ 1000 → n < 2 ^ 16
few_of n few = below n 1000 (2 ^ 16) few (lit< tt)
  where
    below : (a b c : ℕ) → a ≤ b → b < c → a < c
    below a b c le lt = omega (arith, le, lt)

pub few_places : (places : List (Option Place)) (t : Tables) → places ≡ places_in t.objects → IsStory t → length places < 2 ^ 16
few_places places t is story =
    let same : length places ≡ length t.objects = ap length is ∙ length-map t.objects place_in in
    few_of (length places) (subst (λ (n : ℕ). n ≤ 1000) (sym same) (stories_few t story))

held_within : (t : Tables) (thing holder : ℕ) (found : Option Place) → IsStory t → place_at (places_in t.objects) thing ≡ found
    → option_map (λ p. p.holder) found ≡ Some holder → holder < length t.objects
held_within t thing holder None story is held = absurd (none-some holder held)
held_within t thing holder (Some place) story is held =
    let there : place.holder < length t.objects = holders_there t thing place story is in
    subst (λ (n : ℕ). n < length t.objects) (same_Some place.holder holder held) there

pub holders_of : (places : List (Option Place)) (t : Tables) → places ≡ places_in t.objects → IsStory t → (thing holder : ℕ) → holder_of places thing ≡ Some holder
    → holder < length places
holders_of places t is story thing holder held =
    let all : List (Option Place) = places_in t.objects in
    let as_told : option_map (λ p. p.holder) (place_at all thing) ≡ Some holder = ap (option_map (λ p. p.holder)) (sym (at_or all thing))
    ∙ ap (λ (ps : List (Option Place)). holder_of ps thing) (sym is) ∙ held in
    let there = held_within t thing holder (place_at all thing) story refl as_told in
    let same : length places ≡ length t.objects = ap length is ∙ length-map t.objects place_in in
    omega (arith, there, same)

pub length_made : (n : ℕ) → length (replicate n not_begun) ≡ n
length_made zero = refl
length_made (suc n) = ap suc (length_made n)

high_from : {A : Type 0} (column : ℕ → List A) (height a n i : ℕ) → ((k : ℕ) → length (column k) ≡ height) → i < n → length (slice_index_or (map column (range_with_len a n)) i []) ≡ height
high_from column height a zero i high below = absurd (omega (arith, below))
high_from column height a (suc n) zero high below = high a
high_from column height a (suc n) (suc i) high below = high_from column height (a + 1) n i high (omega (arith, below))

columns_made : {A : Type 0} (column : ℕ → List A) (count height : ℕ) → ((k : ℕ) → length (column k) ≡ height) → AreColumns (map column (range_with_len 0 count)) count height
columns_made column count height high = record { many = length-map-range_with_len column 0 count; high = λ i below. high_from column height 0 count i high below }

-- whether an object is of a kind is told of it and read off its entry alike
told_of : (parents : List (Option ℕ)) (kind : ℕ) (entries : List Entry) (o : ℕ) → is_at (under_each parents (kinds_in entries) kind) o ≡ is_of_in parents kind (slice_get entries o)
told_of parents kind [] o = refl
told_of parents kind (e ∷ entries) zero = refl
told_of parents kind (e ∷ entries) (suc o) = told_of parents kind entries o

room_at_start : (t : Tables) → IsStory t → is_of t (start_of t) room_kind ≡ true
unfolding sorts_of
room_at_start t story = sym (told_of t.world.kinds room_kind t.objects (start_of t)) ∙ story_starts t story

pub length_values : (t : Tables) (kind : ℕ) (entries : List Entry) (all : List (List ℕ)) → length (start_values_from t kind entries all) ≡ length entries
length_values t kind [] all = refl
length_values t kind (e ∷ entries) all = ap suc (length_values t kind entries (drop 1 all))

pub kept_at_start : (t : Tables) → IsStory t → IsKept t (start_world t)
unfolding start_world
kept_at_start t story = record {
  story = story;
  objects = length-map t.objects place_in;
  flags = columns_made (start_flags t) (length t.world.flags) (length t.objects) (λ property. length-map t.objects (starts_true property));
  numbers = columns_made (start_numbers t) (length t.world.numbers) (length t.objects) (λ property. length-map t.objects (start_number t.world property));
  values = columns_made (start_values t) (length t.values.kinds) (length t.objects) (λ kind. length_values t kind t.objects t.values.objects);
  choices = choices_at_start t story;
  variables = length-map t.world.variables start_variable;
  scenes = length_made (length t.rules.scenes);
  here = start_of t;
  room = room_at_start t story;
  player = at_or (places_in t.objects) 0 ∙ player_in_room t story;
  turns = omega arith;
  tree = tree_of (places_in t.objects) t refl story;
  holders = holders_of (places_in t.objects) t refl story;
}

pub kept_begun : (t u : Tables) (places : List (Option Place)) (flags : List (List Bool)) (numbers : List (List ℤ)) (values : List (List ℕ)) (variables : List ℤ) (scenes : List SceneNow) → u ≡ t
    → places ≡ places_in t.objects → flags ≡ map (start_flags t) (range_with_len 0 (length t.world.flags))
    → numbers ≡ map (start_numbers t) (range_with_len 0 (length t.world.numbers)) → values ≡ map (start_values t) (range_with_len 0 (length t.values.kinds)) → variables ≡ start_variables t → scenes ≡ replicate (length t.rules.scenes) not_begun
    → IsStory t
    → IsKept u (record { places = places; flags = flags; numbers = numbers; values = values; variables = variables; scenes = scenes; turns = 1; ended = None })
unfolding start_world
kept_begun t u places flags numbers values variables scenes same p f n q v s story =
    let w : World = record { places = places; flags = flags; numbers = numbers; values = values; variables = variables; scenes = scenes; turns = 1; ended = None } in
    let begun : start_world t ≡ w = λ i. record { places = sym p i; flags = sym f i; numbers = sym n i; values = sym q i; variables = sym v i; scenes = sym s i; turns = 1; ended = None } in
    subst (λ (x : Tables). IsKept x w) (sym same) (subst (λ (x : World). IsKept t x) begun (kept_at_start t story))

-- ---- changes of lists

pub cells_kept : {A : Type 0} (rows : List (List A)) (count height i o : ℕ) (value : A) → AreColumns rows count height
    → AreColumns (slice_set rows i (slice_set (slice_index_or rows i []) o value)) count height
cells_kept {A = A} rows count height i o value k = record { many = length-set rows i row ∙ k.many; high = high }
  where
    row : List A
    row = slice_set (slice_index_or rows i []) o value

    high : (column : ℕ) → column < count → length (slice_index_or (slice_set rows i row) column []) ≡ height
    high column below =
        elim (eqb_tells column i) [
          | inl is ↦
              let there : i < length rows = omega (arith, below, is.1, k.many) in
              ap (λ n. length (slice_index_or (slice_set rows i row) n [])) is.1 ∙ ap length (get_or-set_same rows i row [] there)
              ∙ length-set (slice_index_or rows i []) o value ∙ ap (λ n. length (slice_index_or rows n [])) (sym is.1) ∙ k.high column below
          | inr isnt ↦ ap length (get_or-set_other rows i column row [] isnt.1) ∙ k.high column below
        ]

pub flag_kept : (t : Tables) (w : World) (property o : ℕ) (value : Bool) → IsKept t w → IsKept t (set_flag property o value w)
unfolding set_flag
flag_kept t w property o value k = record {
  story = k.story;
  objects = k.objects;
  flags = cells_kept w.flags (length t.world.flags) (length t.objects) property o value k.flags;
  numbers = k.numbers;
  values = k.values;
  choices = choices_left t w (set_flag property o value w) refl k.choices;
  variables = k.variables;
  scenes = k.scenes;
  here = k.here;
  room = k.room;
  player = k.player;
  turns = k.turns;
  tree = k.tree;
  holders = k.holders;
}

pub number_kept : (t : Tables) (w : World) (property o : ℕ) (value : ℤ) → IsKept t w → IsKept t (set_number property o value w)
unfolding set_number
number_kept t w property o value k = record {
  story = k.story;
  objects = k.objects;
  flags = k.flags;
  numbers = cells_kept w.numbers (length t.world.numbers) (length t.objects) property o value k.numbers;
  values = k.values;
  choices = choices_left t w (set_number property o value w) refl k.choices;
  variables = k.variables;
  scenes = k.scenes;
  here = k.here;
  room = k.room;
  player = k.player;
  turns = k.turns;
  tree = k.tree;
  holders = k.holders;
}

pub value_kept : (t : Tables) (w : World) (kind o value : ℕ) → is_value (setting_of t) kind value ≡ true → IsKept t w → IsKept t (set_value kind o value w)
unfolding set_value
value_kept t w kind o value fits k = record {
  story = k.story;
  objects = k.objects;
  flags = k.flags;
  numbers = k.numbers;
  values = cells_kept w.values (length t.values.kinds) (length t.objects) kind o value k.values;
  choices = choices_with t w kind o value k fits;
  variables = k.variables;
  scenes = k.scenes;
  here = k.here;
  room = k.room;
  player = k.player;
  turns = k.turns;
  tree = k.tree;
  holders = k.holders;
}

pub variable_kept : (t : Tables) (w : World) (variable : ℕ) (value : ℤ) → IsKept t w → IsKept t (set_variable variable value w)
variable_kept t w variable value k = record {
  story = k.story;
  objects = k.objects;
  flags = k.flags;
  numbers = k.numbers;
  values = k.values;
  choices = choices_left t w (set_variable variable value w) refl k.choices;
  variables = length-set w.variables variable value ∙ k.variables;
  scenes = k.scenes;
  here = k.here;
  room = k.room;
  player = k.player;
  turns = k.turns;
  tree = k.tree;
  holders = k.holders;
}

pub scene_kept : (t : Tables) (w : World) (scene : ℕ) (now : SceneNow) → IsKept t w → IsKept t (set_scene scene now w)
scene_kept t w scene now k = record {
  story = k.story;
  objects = k.objects;
  flags = k.flags;
  numbers = k.numbers;
  values = k.values;
  choices = choices_left t w (set_scene scene now w) refl k.choices;
  variables = k.variables;
  scenes = length-set w.scenes scene now ∙ k.scenes;
  here = k.here;
  room = k.room;
  player = k.player;
  turns = k.turns;
  tree = k.tree;
  holders = k.holders;
}

pub turn_kept : (t : Tables) (w : World) → w.turns < most_turns → IsKept t w → IsKept t (next_turn w)
turn_kept t w fewer k = record {
  story = k.story;
  objects = k.objects;
  flags = k.flags;
  numbers = k.numbers;
  values = k.values;
  choices = choices_left t w (next_turn w) refl k.choices;
  variables = k.variables;
  scenes = k.scenes;
  here = k.here;
  room = k.room;
  player = k.player;
  turns = one_more w.turns most_turns fewer;
  tree = k.tree;
  holders = k.holders;
}
  where
    one_more : (n most : ℕ) → n < most → n + 1 ≤ most
    one_more n most fewer = omega (arith, fewer)

pub ending_kept : (t : Tables) (w : World) (text : Option (List ℕ)) → IsKept t w → IsKept t (record w { ended = text })
ending_kept t w text k = record {
  story = k.story;
  objects = k.objects;
  flags = k.flags;
  numbers = k.numbers;
  values = k.values;
  choices = choices_left t w (record w { ended = text }) refl k.choices;
  variables = k.variables;
  scenes = k.scenes;
  here = k.here;
  room = k.room;
  player = k.player;
  turns = k.turns;
  tree = k.tree;
  holders = k.holders;
}

-- ---- changes of places

holders_set : (places : List (Option Place)) (o : ℕ) (place : Option Place) (n : ℕ) → ((x holder : ℕ) → holder_of places x ≡ Some holder → holder < n)
    → ((holder : ℕ) → option_map (λ p. p.holder) place ≡ Some holder → holder < n) → (x holder : ℕ) → holder_of (slice_set places o place) x ≡ Some holder → holder < n
holders_set [] o place n were is x holder e = were x holder e
holders_set (p ∷ places) zero place n were is zero holder e = is holder e
holders_set (p ∷ places) zero place n were is (suc x) holder e = were (suc x) holder e
holders_set (p ∷ places) (suc o) place n were is zero holder e = were zero holder e
holders_set (p ∷ places) (suc o) place n were is (suc x) holder e = holders_set places o place n (λ y. were (suc y)) is x holder e

not_none : (places : List (Option Place)) (place : Place) → place_of places 0 ≡ Some place → 0 < length places
not_none [] place e = absurd (none-some place e)
not_none (p ∷ places) place e = omega arith

directly : (place : Place) → is_in place.relation ≡ true → ◌≡◌ {A = Place} place (record { relation = In; holder = place.holder })
directly place is = by place.relation place.holder is
  where
    by : (relation : Rel) (holder : ℕ) → is_in relation ≡ true → ◌≡◌ {A = Place} (record { relation = relation; holder = holder }) (record { relation = In; holder = holder })
    by In holder is = refl
    by On holder is = absurd cc
    by Carried holder is = absurd cc
    by Worn holder is = absurd cc
    by Part holder is = absurd cc

-- a place of an object that is there and in no cycle then, from which the player stays in a room
moved_kept : (t : Tables) (w : World) (o : ℕ) (place : Option Place) (here : ℕ) → IsKept t w → is_of t here room_kind ≡ true
    → place_of (slice_set w.places o place) 0 ≡ Some (record { relation = In; holder = here }) → IsTree (place_of (slice_set w.places o place))
    → ((holder : ℕ) → option_map (λ p. p.holder) place ≡ Some holder → holder < length w.places) → IsKept t (set_place o place w)
moved_kept t w o place here k room player tree within =
    let same : length (slice_set w.places o place) ≡ length w.places = length-set w.places o place in
    record {
      story = k.story;
      objects = same ∙ k.objects;
      flags = k.flags;
      numbers = k.numbers;
      values = k.values;
      choices = choices_left t w (set_place o place w) refl k.choices;
      variables = k.variables;
      scenes = k.scenes;
      here = here;
      room = room;
      player = player;
      turns = k.turns;
      tree = tree;
      holders = λ x holder e. let there = holders_set w.places o place (length w.places) k.holders within x holder e in omega (arith, there, same);
    }

pub put_kept : (t : Tables) (w : World) (kinds : Kinds) (o : ℕ) (place : Place) → IsKept t w → kinds.is_room ≡ (λ x. is_of t x room_kind) → keeps_player kinds o place ≡ true
    → IsTree (place_of (slice_set w.places o (Some place))) → place.holder < length w.places → IsKept t (set_place o (Some place) w)
put_kept t w kinds o place k rooms keeps tree there =
    elim (cases_Bool (eqb o 0)) [
      | inl player ↦
          let first : o ≡ 0 = eqb-true o 0 player in
          let inside : (is_in place.relation && kinds.is_room place.holder) ≡ true = rw player at keeps in
          let set : place_of (slice_set w.places o (Some place)) 0 ≡ Some place = ap (λ (n : ℕ). place_of (slice_set w.places n (Some place)) 0) first
          ∙ get_or-set_same w.places 0 (Some place) None (not_none w.places _ k.player) in
          let a_room : is_of t place.holder room_kind ≡ true = sym (ap (λ (f : ℕ → Bool). f place.holder) rooms) ∙ (and_parts _ _ inside).1 in
          moved_kept t w o (Some place) place.holder k a_room (set ∙ ap Some (directly place (and_parts _ _ inside).0)) tree within
      | inr other ↦
          let away : 0 ≢ o = λ e. eqb-false o 0 other (sym e) in
          moved_kept t w o (Some place) k.here k k.room (get_or-set_other w.places o 0 (Some place) None away ∙ k.player) tree within
    ]
  where
    within : (holder : ℕ) → Some place.holder ≡ Some holder → holder < length w.places
    within holder e = subst (λ (n : ℕ). n < length w.places) (same_Some place.holder holder e) there

pub taken_kept : (t : Tables) (w : World) (o : ℕ) → IsKept t w → 0 ≢ o → o < length w.places → IsKept t (set_place o None w)
taken_kept t w o k away there =
    moved_kept t w o None k.here k k.room (get_or-set_other w.places o 0 None None away ∙ k.player)
    (tree_taken (place_of w.places) (place_of (slice_set w.places o None)) o (moved w.places o None there) k.tree) (λ holder e. absurd (none-some holder e))
