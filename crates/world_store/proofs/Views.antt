-- What is on view stands directly in the player's room, so that only what this holds is gone through.
use Rattle.std.proofs.Common.{◌≡◌, ◌∙◌, ap, sym, refl, subst, ℕ, ◌-◌, Bool, true, false, List, [], ◌∷◌, length, arith}
use Rattle.std.specs.Prelude.{Option, Some, None, ◌&&◌, ◌==◌, filter, option_map, if◌then◌else◌}
use Rattle.std.specs.List.{range_with_len}
use Rattle.std.proofs.lemmas.Bool.{and_parts, false≢true}
use Rattle.world_meaning.specs.declared.place.Place.{Place}
use Rattle.world_meaning.specs.declared.place.Rel.{Rel}
use Rattle.world_meaning.specs.declared.place.Rel.TheVariants.{In}
use Rattle.object_tree.specs.Places.{children_of, holder_of, is_holder}
use Rattle.play_meaning.specs.Deeds.{is_on_view, on_view}
use Rattle.play_meaning.specs.Settings.{Setting, described_flag, direction_kind, objects_of, room_kind, scenery_flag, thing_kind}
use Rattle.play_meaning.specs.Trees.{First, NotSo, Quality}
use Rattle.play_meaning.specs.Values.{beyond, is_among, is_held, is_place}
use Rattle.world_meaning.specs.Relations.{relation_number}
use Rattle.play_meaning.specs.Worlds.{World, location_of, place_of}
use Rattle.world_store.specs.StorySettings.{setting_of}
use Rattle.world_store.specs.StoryWorlds.{IsKept, StoryWorld}

minus_none : (n : ℕ) → n - 0 ≡ n
minus_none n = omega arith

-- what holds of an item is looked for only among those of which another thing holds that it implies
filter_within : (p q : ℕ → Bool) → ((x : ℕ) → p x ≡ true → q x ≡ true) → (xs : List ℕ) → filter p (filter q xs) ≡ filter p xs
filter_within p q implies [] = refl
filter_within p q implies (x ∷ xs) = by_case (q x) (p x) refl refl (implies x) (filter_within p q implies xs)
  where
    by_case : (a b : Bool) → q x ≡ a → p x ≡ b → (p x ≡ true → q x ≡ true) → filter p (filter q xs) ≡ filter p xs → filter p (filter q (x ∷ xs)) ≡ filter p (x ∷ xs)
    by_case true true inner here so rest = rw (inner, here) (ap (λ ys. x ∷ ys) rest)
    by_case true false inner here so rest = rw (inner, here) rest
    by_case false false inner here so rest = rw (inner, here) rest
    by_case false true inner here so rest = absurd (false≢true (sym inner ∙ so here))

-- a place in a holder has that holder
in_holder : (here : ℕ) (place : Option Place) → is_place In here place ≡ true → is_holder here (option_map (λ p. p.holder) place) ≡ true
in_holder here None is = absurd cc
in_holder here (Some place) is = (and_parts (relation_number place.relation == relation_number In) (place.holder == here) is).1

-- what is on view stands directly in the player's room
viewed_in : (s : Setting) (w : World) (here o : ℕ) → location_of w ≡ Some here → is_on_view s w o ≡ true → is_holder here (holder_of w.places o) ≡ true
viewed_in s w here o is view =
    let held : is_held w In (location_of w) o ≡ true =
    (and_parts (is_among s w (Quality described_flag First ∷ NotSo (Quality scenery_flag First) ∷ []) (Some thing_kind) o) (is_held w In (location_of w) o) view).1 in
    in_holder here (place_of w o) (ap (λ holder. is_held w In holder o) (sym is) ∙ held)

pub view_within : (s : Setting) (w : World) (here : ℕ) → length w.places ≡ s.count → location_of w ≡ Some here
    → filter (is_on_view s w) (children_of w.places here) ≡ on_view s w
view_within s w here count is =
    filter_within (is_on_view s w) (λ o. is_holder here (holder_of w.places o)) (λ o view. viewed_in s w here o is view) (range_with_len 0 (length w.places - 0))
    ∙ ap (λ n. filter (is_on_view s w) (range_with_len 0 n)) (minus_none (length w.places) ∙ count)

pub all_on_view : (inside s : StoryWorld) (here : ℕ) (things : List ℕ) → inside ≡ s → IsKept inside.tables inside.world → things ≡ children_of inside.world.places here
    → location_of s.world ≡ Some here → filter (is_on_view (setting_of s.tables) s.world) things ≡ on_view (setting_of s.tables) s.world
unfolding setting_of
all_on_view inside s here things same kept are is =
    ap (filter (is_on_view (setting_of s.tables) s.world)) (are ∙ ap (λ (v : StoryWorld). children_of v.world.places here) same)
    ∙ view_within (setting_of s.tables) s.world here (subst (λ (v : StoryWorld). length v.world.places ≡ length v.tables.objects) same kept.objects) is

-- what a holder holds so is among what it holds
held_by : (w : World) (relation : Rel) (holder o : ℕ) → is_held w relation (Some holder) o ≡ true → is_holder holder (holder_of w.places o) ≡ true
held_by w relation holder o held = of_place (place_of w o) held
  where
    of_place : (place : Option Place) → is_place relation holder place ≡ true → is_holder holder (option_map (λ p. p.holder) place) ≡ true
    of_place None is = absurd cc
    of_place (Some place) is = (and_parts (relation_number place.relation == relation_number relation) (place.holder == holder) is).1

held_within : (s : Setting) (w : World) (relation : Rel) (holder : ℕ) → length w.places ≡ s.count
    → filter (is_held w relation (Some holder)) (children_of w.places holder) ≡ filter (is_held w relation (Some holder)) (objects_of s)
held_within s w relation holder count =
    filter_within (is_held w relation (Some holder)) (λ o. is_holder holder (holder_of w.places o)) (λ o held. held_by w relation holder o held) (range_with_len 0 (length w.places - 0))
    ∙ ap (λ n. filter (is_held w relation (Some holder)) (range_with_len 0 n)) (minus_none (length w.places) ∙ count)

pub all_held : (inside s : StoryWorld) (relation : Rel) (holder : ℕ) (things : List ℕ) → inside ≡ s → IsKept inside.tables inside.world → things ≡ children_of inside.world.places holder
    → filter (is_held s.world relation (Some holder)) things ≡ filter (is_held s.world relation (Some holder)) (objects_of (setting_of s.tables))
unfolding setting_of
all_held inside s relation holder things same kept are =
    ap (filter (is_held s.world relation (Some holder))) (are ∙ ap (λ (v : StoryWorld). children_of v.world.places holder) same)
    ∙ held_within (setting_of s.tables) s.world relation holder (subst (λ (v : StoryWorld). length v.world.places ≡ length v.tables.objects) same kept.objects)

-- ---- ways

-- a direction leads from a room where it is one and that is a room
pub beyond_here : (s : Setting) (leads : ℕ → ℕ → Option ℕ) (d here : ℕ) (location : Option ℕ) → location ≡ Some here → s.is_of d direction_kind ≡ true → s.is_of here room_kind ≡ true
    → leads here d ≡ beyond s leads (Some d) location
beyond_here s leads d here location is direction room =
    sym (ap (beyond s leads (Some d)) is ∙ ap (λ b. if b && s.is_of here room_kind then leads here d else None) direction ∙ ap (λ b. if b then leads here d else None) room)

nowhere : (s : Setting) (leads : ℕ → ℕ → Option ℕ) (d here : ℕ) (location : Option ℕ) → location ≡ Some here → (s.is_of d direction_kind && s.is_of here room_kind) ≡ false
    → None ≡ beyond s leads (Some d) location
nowhere s leads d here location is none = sym (ap (beyond s leads (Some d)) is ∙ ap (λ b. if b then leads here d else None) none)

pub no_direction : (s : Setting) (leads : ℕ → ℕ → Option ℕ) (d here : ℕ) (location : Option ℕ) → location ≡ Some here → s.is_of d direction_kind ≡ false
    → None ≡ beyond s leads (Some d) location
no_direction s leads d here location is none = nowhere s leads d here location is (ap (λ b. b && s.is_of here room_kind) none)

pub no_room : (s : Setting) (leads : ℕ → ℕ → Option ℕ) (d here : ℕ) (location : Option ℕ) → location ≡ Some here → s.is_of d direction_kind ≡ true → s.is_of here room_kind ≡ false
    → None ≡ beyond s leads (Some d) location
no_room s leads d here location is direction none = nowhere s leads d here location is (ap (λ b. b && s.is_of here room_kind) direction ∙ none)
