-- The entries of a tale's objects have their kinds, places and ways.
use Rattle.std.proofs.Common.{◌≡◌, ℕ, suc, ◌+◌, Bool, true, false, cond, ◌&&◌, ◌||◌, eqb, List, [], ◌∷◌, length, map, Option, Some, None, refl, ap, ◌∙◌, arith, inl, inr}
use Rattle.std.specs.Prelude.{is_some, count_by}
use Rattle.std.specs.List.{list_all, flat_map}
use Rattle.std.proofs.lemmas.List.Sums.{sum_by-cons}
use Rattle.std.proofs.lemmas.Bool.{cases_Bool, and_from, and_parts}
use Rattle.world_meaning.specs.declared.place.Rel.{Rel}
use Rattle.world_meaning.specs.declared.place.Rel.TheVariants as relations
use Rattle.world_meaning.specs.declared.place.Place.{Place}
use Rattle.world_meaning.specs.Kinds.{is_under}
use Rattle.world_meaning.specs.Standing.{lead_rightly}
use Rattle.world_meaning.specs.WellMade.{has_right_exits, kinds_of, places_of}
use Rattle.world_meaning.specs.declared.sorts.Sorts.{Sorts}
use Rattle.world_meaning.specs.declared.tale.Object.{Object}
use Rattle.command_grammar.specs.declared.synonym.Synonym.{Synonym}
use Rattle.story_format.specs.Making.{Worded, worded_from, code_count, place_relation, place_holder, entry_of, entries_of, ways_of}
use Rattle.world_meaning.specs.Relations.{relation_number}
use Rattle.story_format.specs.Placed.{held_by, is_room_entry, kinds_in, places_in, relation_of}

-- the objects without their words
abbrev pub objects_in : List Worded → List Object
objects_in ws = map (λ w. w.object) ws

pub objects_back : (synonyms : List Synonym) (o : ℕ) (objects : List Object) → objects_in (worded_from synonyms o objects) ≡ objects
objects_back synonyms o [] = refl
objects_back synonyms o (object ∷ objects) = ap (λ (later : List Object). object ∷ later) (objects_back synonyms (o + 1) objects)

-- ---- places

place_known : (r : Rel) (holder : ℕ) → held_by (relation_of (relation_number r)) holder ≡ Some (record { relation = r; holder = holder })
place_known relations.In holder = refl
place_known relations.On holder = refl
place_known relations.Carried holder = refl
place_known relations.Worn holder = refl
place_known relations.Part holder = refl

place_back : (p : Option Place) → held_by (relation_of (place_relation p)) (place_holder p) ≡ p
place_back None = refl
place_back (Some place) = place_known place.relation place.holder

relation_known : (r : Rel) (holder : ℕ) → (is_some (relation_of (relation_number r)) || (eqb (relation_number r) 255 && eqb holder 65535)) ≡ true
relation_known relations.In holder = refl
relation_known relations.On holder = refl
relation_known relations.Carried holder = refl
relation_known relations.Worn holder = refl
relation_known relations.Part holder = refl

pub place_there : (p : Option Place) → (is_some (relation_of (place_relation p)) || (eqb (place_relation p) 255 && eqb (place_holder p) 65535)) ≡ true
place_there None = refl
place_there (Some place) = relation_known place.relation place.holder

-- ---- ways

pub counted_more : {A : Type 0} (p : A → Bool) (x : A) (xs : List A) → p x ≡ true → count_by p (x ∷ xs) ≡ suc (count_by p xs)
counted_more p x xs h = sum_by-cons (λ x. cond (p x) 1 0) x xs ∙ rw h (omega arith)

pub counted_same : {A : Type 0} (p : A → Bool) (x : A) (xs : List A) → p x ≡ false → count_by p (x ∷ xs) ≡ count_by p xs
counted_same p x xs h = sum_by-cons (λ x. cond (p x) 1 0) x xs ∙ rw h (omega arith)

pub entry_room : (parents : List (Option ℕ)) (strings : List (List ℕ)) (next : ℕ) (w : Worded) → is_room_entry parents (entry_of strings next w) ≡ is_under parents w.object.kind 1
unfolding entry_of
entry_room parents strings next w = refl

pub rooms_counted : (parents : List (Option ℕ)) (strings : List (List ℕ)) (ws : List Worded) (next : ℕ) → length (flat_map (ways_of parents) ws) ≡ count_by (is_room_entry parents) (entries_of strings next ws)
unfolding entries_of
rooms_counted parents strings [] next = refl
rooms_counted parents strings (w ∷ ws) next =
    let later = next + code_count w.object.description in
    elim (cases_Bool (is_under parents w.object.kind 1)) [
      | inl is ↦ rw (is, rooms_counted parents strings ws later, counted_more (is_room_entry parents) (entry_of strings next w) (entries_of strings later ws) (entry_room parents strings next w ∙ is)) refl
      | inr isnt ↦ rw (isnt, rooms_counted parents strings ws later, counted_same (is_room_entry parents) (entry_of strings next w) (entries_of strings later ws) (entry_room parents strings next w ∙ isnt)) refl
    ]

pub rooms_lead : (parents : List (Option ℕ)) (sorts : Sorts) (ws : List Worded) → list_all (has_right_exits parents sorts) (objects_in ws) ≡ true → list_all (lead_rightly sorts) (flat_map (ways_of parents) ws) ≡ true
unfolding has_right_exits
rooms_lead parents sorts [] h = refl
rooms_lead parents sorts (w ∷ ws) h =
    let t = and_parts (has_right_exits parents sorts w.object) (list_all (has_right_exits parents sorts) (objects_in ws)) h in
    elim (cases_Bool (is_under parents w.object.kind 1)) [
      | inl is ↦ let leads : lead_rightly sorts w.object.exits ≡ true = rw is at t.0 in rw is (and_from (lead_rightly sorts w.object.exits) (list_all (lead_rightly sorts) (flat_map (ways_of parents) ws)) leads (rooms_lead parents sorts ws t.1))
      | inr isnt ↦ rw isnt (rooms_lead parents sorts ws t.1)
    ]

-- ---- kinds and places

pub kinds_back : (strings : List (List ℕ)) (next : ℕ) (ws : List Worded) → kinds_in (entries_of strings next ws) ≡ kinds_of (objects_in ws)
unfolding entries_of entry_of
kinds_back strings next [] = refl
kinds_back strings next (w ∷ ws) = ap (λ (ks : List ℕ). w.object.kind ∷ ks) (kinds_back strings (next + code_count w.object.description) ws)

pub places_back : (strings : List (List ℕ)) (next : ℕ) (ws : List Worded) → places_in (entries_of strings next ws) ≡ places_of (objects_in ws)
unfolding entries_of entry_of
places_back strings next [] = refl
places_back strings next (w ∷ ws) =
    ap (λ (p : Option Place). p ∷ places_in (entries_of strings (next + code_count w.object.description) ws)) (place_back w.object.place)
    ∙ ap (λ (ps : List (Option Place)). w.object.place ∷ ps) (places_back strings (next + code_count w.object.description) ws)
