-- What is computed of sight is what is said of chains.
use Rattle.std.proofs.Common.{◌≡◌, ◌∙◌, ap, sym, refl, ◌⊎◌, inl, inr, ◌↔◌, ℕ, zero, suc, ◌+◌, ◌<◌, ◌≤◌, Bool, true, false, List, [], ◌∷◌, arith, eq-eqb, eqb-true}
use Rattle.std.proofs.lemmas.Bool.{eqb-false, and_parts, and_from, or_cases, or_left, or_right, not-true, not_from_false}
use Rattle.std.specs.Prelude.{not, ◌&&◌, ◌||◌, ◌==◌, Option, None, Some, if◌then◌else◌}
use Rattle.std.specs.List.{list_any, range_with_len}
use Rattle.world_meaning.specs.Chains.{Encloses, IsChain, StandsIn, top_of}
use Rattle.world_meaning.specs.Tale.{holder_in as holder_told}
use Rattle.world_meaning.specs.Sight.{location_of as location_in, HasLight, IsInView, IsTouchable, IsVisible, IsVisibleAs, IsVisibleThing, Root, thing, room, direction, blocks_sight, blocks_touch}
use Rattle.world_meaning.specs.declared.place.Place.{Place}
use Rattle.play_meaning.specs.Seeing.{encloses, gives_light, has_light, is_held_by, is_in_view, is_number, is_same, is_touchable, is_true_at, is_visible, is_visible_as, is_visible_thing, root_of, sights_of, stands_here, stands_in}
use Rattle.play_meaning.specs.Settings.{Setting, lighted_flag, lit_flag, objects_of, thing_kind}
use Rattle.play_meaning.specs.StoryWorlds.{IsWorldOf}
use Rattle.play_meaning.specs.Worlds.{World, chain, holder_in, is_true_of, location_of, place_of}
use Rattle.world_meaning.proofs.Chains.{one_chain}

-- ---- chains

-- ---- tests

pub same_is : (a : Option ℕ) (n : ℕ) → is_same a (Some n) ≡ true → a ≡ Some n
same_is None n is = absurd cc
same_is (Some m) n is = ap Some (eqb-true m n is)

same_of : (a : Option ℕ) (n : ℕ) → a ≡ Some n → is_same a (Some n) ≡ true
same_of None n is = absurd cc
same_of (Some m) n is = same_number m n (some_is_number m n is)
  where
    some_is_number : (m n : ℕ) → Some m ≡ Some n → m ≡ n
    some_is_number m n same = cc

    same_number : (m n : ℕ) → m ≡ n → (m == n) ≡ true
    same_number m n same = eq-eqb m n same

pub any_is : (f : ℕ → Bool) (ns : List ℕ) → list_any f ns ≡ true → (n : ℕ) × (f n ≡ true)
any_is f [] is = absurd cc
any_is f (n ∷ ns) is = elim (or_cases (f n) (list_any f ns) is) as (λ x. (k : ℕ) × (f k ≡ true)) [
  | inl here ↦ (n, here)
  | inr later ↦ any_is f ns later
]

any_of_range : (f : ℕ → Bool) (a n o : ℕ) → a ≤ o → o < a + n → f o ≡ true → list_any f (range_with_len a n) ≡ true
any_of_range f a zero o above below is = absurd (omega (arith, above, below))
any_of_range f a (suc n) o above below is =
    let Goal : Bool → Type 0 = λ test. (a == o) ≡ test → (f a || list_any f (range_with_len (a + 1) n)) ≡ true in
    elim (a == o) as Goal [
      | true ↦ λ same. or_left (f a) _ (ap f (eqb-true a o same) ∙ is)
      | false ↦ λ other. or_right (f a) _ (any_of_range f (a + 1) n o (omega (arith, above, eqb-false a o other)) (omega (arith, below)) is)
    ] refl

-- ---- what is in view

here_is : (s : Setting) (w : World) (i : IsWorldOf s w) → location_of w ≡ Some i.room.holder
here_is s w i = ap holder_in i.player

there_is : (s : Setting) (w : World) (i : IsWorldOf s w) → location_in (sights_of s w) ≡ i.room.holder
there_is s w i = ap holder_told i.player

pub in_view_is : (s : Setting) (w : World) (o : ℕ) → IsWorldOf s w → is_in_view s w o ≡ true → IsInView (sights_of s w) o (chain w o)
unfolding is_in_view
in_view_is s w o i is =
    let parts : (is_same (top_of (chain w o)) (location_of w) ≡ true) × (not (list_any (blocks_sight (sights_of s w)) (chain w o)) ≡ true) = and_parts _ _ is in
    record {
      chain = i.chains o;
      ends = same_is (top_of (chain w o)) i.room.holder (ap (is_same (top_of (chain w o))) (sym (here_is s w i)) ∙ parts.0) ∙ ap Some (sym (there_is s w i));
      clear = not-true (list_any (blocks_sight (sights_of s w)) (chain w o)) parts.1;
    }

pub in_view_of : (s : Setting) (w : World) (o : ℕ) (steps : List Place) → IsWorldOf s w → IsInView (sights_of s w) o steps → is_in_view s w o ≡ true
unfolding is_in_view
in_view_of s w o steps i view =
    let same : steps ≡ chain w o = one_chain (place_of w) o steps (chain w o) view.chain (i.chains o) in
    and_from _ _
    (ap (is_same (top_of (chain w o))) (here_is s w i) ∙ same_of (top_of (chain w o)) i.room.holder (ap top_of (sym same) ∙ view.ends ∙ ap Some (there_is s w i)))
    (not_from_false _ (ap (list_any (blocks_sight (sights_of s w))) (sym same) ∙ view.clear))

-- ---- enclosing

any_stands : (holder : ℕ) (steps : List Place) → list_any (is_held_by holder) steps ≡ true → StandsIn holder steps
any_stands holder [] is = absurd cc
any_stands holder (step ∷ steps) is = elim (or_cases (holder == step.holder) (list_any (is_held_by holder) steps) is) as (λ x. StandsIn holder (step ∷ steps)) [
  | inl here ↦ inl (eqb-true holder step.holder here)
  | inr later ↦ inr (any_stands holder steps later)
]

stands_any : (holder : ℕ) (steps : List Place) → StandsIn holder steps → list_any (is_held_by holder) steps ≡ true
stands_any holder [] stands = absurd stands
stands_any holder (step ∷ steps) (inl here) = or_left (holder == step.holder) _ (eq-eqb holder step.holder here)
stands_any holder (step ∷ steps) (inr later) = or_right (holder == step.holder) _ (stands_any holder steps later)

pub encloses_is : (s : Setting) (w : World) (holder o : ℕ) → IsWorldOf s w → (encloses w holder o ≡ true) ↔ Encloses (place_of w) holder o
unfolding encloses
encloses_is s w holder o i = (
  (λ is. (chain w o, (i.chains o, any_stands holder (chain w o) is))),
  (λ e. ap (list_any (is_held_by holder)) (one_chain (place_of w) o (chain w o) e.0 (i.chains o) e.1.0) ∙ stands_any holder e.0 e.1.1),
)

-- ---- light

light_to : (s : Setting) (w : World) → IsWorldOf s w → has_light s w ≡ true → HasLight (sights_of s w)
unfolding has_light
light_to s w i is = elim (or_cases (is_true_at w lighted_flag (location_of w)) (list_any (gives_light s w) (objects_of s)) is) as (λ x. HasLight (sights_of s w)) [
  | inl here ↦ inl (ap (is_true_of w lighted_flag) (there_is s w i) ∙ ap (is_true_at w lighted_flag) (sym (here_is s w i)) ∙ here)
  | inr lamp ↦
      let found : (o : ℕ) × (gives_light s w o ≡ true) = any_is (gives_light s w) (objects_of s) lamp in
      let parts : (is_true_of w lit_flag found.0 ≡ true) × (is_in_view s w found.0 ≡ true) = and_parts _ _ found.1 in
      inr (found.0, (parts.0, (chain w found.0, in_view_is s w found.0 i parts.1)))
]

light_from : (s : Setting) (w : World) → IsWorldOf s w → HasLight (sights_of s w) → has_light s w ≡ true
unfolding has_light
light_from s w i (inl here) = or_left _ _ (ap (is_true_at w lighted_flag) (here_is s w i) ∙ ap (is_true_of w lighted_flag) (sym (there_is s w i)) ∙ here)
light_from s w i (inr lamp) =
    or_right _ _ (any_of_range (gives_light s w) 0 s.count lamp.0 (omega arith) (omega (arith, i.there lit_flag lamp.0 lamp.1.0)) (and_from _ _ lamp.1.0 (in_view_of s w lamp.0 lamp.1.1.0 i lamp.1.1.1)))

pub light_is : (s : Setting) (w : World) → IsWorldOf s w → (has_light s w ≡ true) ↔ HasLight (sights_of s w)
light_is s w i = (light_to s w i, light_from s w i)

-- ---- sight

door_to : (s : Setting) (w : World) (o : ℕ) → IsWorldOf s w → stands_here s o (location_of w) ≡ true → stands_in s o (location_in (sights_of s w)) ≡ true
door_to s w o i is = ap (stands_in s o) (there_is s w i) ∙ ap (stands_here s o) (sym (here_is s w i)) ∙ is

door_from : (s : Setting) (w : World) (o : ℕ) → IsWorldOf s w → stands_in s o (location_in (sights_of s w)) ≡ true → stands_here s o (location_of w) ≡ true
door_from s w o i is = ap (stands_here s o) (here_is s w i) ∙ ap (stands_in s o) (sym (there_is s w i)) ∙ is

held_to : (w : World) (o : ℕ) → encloses w 0 o ≡ true → StandsIn 0 (chain w o)
unfolding encloses
held_to w o held = any_stands 0 (chain w o) held

held_from : (s : Setting) (w : World) (o : ℕ) (steps : List Place) → IsWorldOf s w → IsChain (place_of w) o steps → StandsIn 0 steps → encloses w 0 o ≡ true
held_from s w o steps i is_chain stands = (encloses_is s w 0 o i).1 (steps, (is_chain, stands))

thing_to : (s : Setting) (w : World) (o : ℕ) → IsWorldOf s w → is_visible_thing s w o ≡ true → IsVisibleThing (sights_of s w) o
unfolding is_visible_thing
thing_to s w o i is = elim (or_cases ((o == 0) || by_door) by_view is) as (λ x. IsVisibleThing (sights_of s w) o) [
  | inl first ↦ elim (or_cases (o == 0) by_door first) as (λ x. IsVisibleThing (sights_of s w) o) [
    | inl player ↦ inl (eqb-true o 0 player)
    | inr door ↦ inr (inl (door_to s w o i (and_parts _ _ door).0, light_to s w i (and_parts _ _ door).1))
  ]
  | inr view ↦ inr (inr (chain w o, (in_view_is s w o i (and_parts _ _ view).0, lit_or_held (and_parts _ _ view).1)))
]
  where
    by_door : Bool
    by_door = stands_here s o (location_of w) && has_light s w

    by_view : Bool
    by_view = is_in_view s w o && (has_light s w || encloses w 0 o)

    lit_or_held : (has_light s w || encloses w 0 o) ≡ true → HasLight (sights_of s w) ⊎ StandsIn 0 (chain w o)
    lit_or_held is = elim (or_cases (has_light s w) (encloses w 0 o) is) as (λ x. HasLight (sights_of s w) ⊎ StandsIn 0 (chain w o)) [
      | inl light ↦ inl (light_to s w i light)
      | inr held ↦ inr (held_to w o held)
    ]

thing_from : (s : Setting) (w : World) (o : ℕ) → IsWorldOf s w → IsVisibleThing (sights_of s w) o → is_visible_thing s w o ≡ true
unfolding is_visible_thing
thing_from s w o i (inl player) = or_left ((o == 0) || (stands_here s o (location_of w) && has_light s w)) _ (or_left (o == 0) _ (eq-eqb o 0 player))
thing_from s w o i (inr (inl door)) = or_left ((o == 0) || (stands_here s o (location_of w) && has_light s w)) _ (or_right (o == 0) _ (and_from _ _ (door_from s w o i door.0) (light_from s w i door.1)))
thing_from s w o i (inr (inr view)) = or_right ((o == 0) || (stands_here s o (location_of w) && has_light s w)) _ (and_from _ _ (in_view_of s w o view.0 i view.1.0) (lit_or_held view.1.1))
  where
    lit_or_held : HasLight (sights_of s w) ⊎ StandsIn 0 view.0 → (has_light s w || encloses w 0 o) ≡ true
    lit_or_held (inl light) = or_left (has_light s w) _ (light_from s w i light)
    lit_or_held (inr stands) = or_right (has_light s w) _ (held_from s w o view.0 i view.1.0.chain stands)

room_to : (s : Setting) (w : World) (o : ℕ) → IsWorldOf s w → is_number (location_of w) o ≡ true → o ≡ location_in (sights_of s w)
room_to s w o i is = sym (eqb-true i.room.holder o (ap (λ place. is_number place o) (sym (here_is s w i)) ∙ is)) ∙ sym (there_is s w i)

room_from : (s : Setting) (w : World) (o : ℕ) → IsWorldOf s w → o ≡ location_in (sights_of s w) → is_number (location_of w) o ≡ true
room_from s w o i is = ap (λ place. is_number place o) (here_is s w i) ∙ eq-eqb i.room.holder o (sym (there_is s w i) ∙ sym is)

seen_as : (root : Option Root) (s : Setting) (w : World) (o : ℕ) → IsWorldOf s w → (is_visible_as root s w o ≡ true) ↔ IsVisibleAs root (sights_of s w) o
seen_as None s w o i = ((λ is. false_isnt_true is), (λ never. absurd never))
  where
    false_isnt_true : false ≡ true → ⊥
    false_isnt_true is = absurd cc
seen_as (Some thing) s w o i = (thing_to s w o i, thing_from s w o i)
seen_as (Some room) s w o i = (room_to s w o i, room_from s w o i)
seen_as (Some direction) s w o i = ((λ is. tt), (λ all. refl))

pub visible_is : (s : Setting) (w : World) (o : ℕ) → IsWorldOf s w → (is_visible s w o ≡ true) ↔ IsVisible (sights_of s w) o
unfolding is_visible
visible_is s w o i = seen_as (root_of s o) s w o i

-- ---- touch

root_is : (a b c : Bool) → (if a then Some thing else if b then Some room else if c then Some direction else None) ≡ Some thing → a ≡ true
root_is true b c is = refl
root_is false true c is = absurd cc
root_is false false true is = absurd cc
root_is false false false is = absurd cc

root_from : (a b c : Bool) → a ≡ true → (if a then Some thing else if b then Some room else if c then Some direction else None) ≡ Some thing
root_from true b c is = refl
root_from false b c is = absurd cc

touch_to : (s : Setting) (w : World) (o : ℕ) → IsWorldOf s w → is_touchable s w o ≡ true → IsTouchable (sights_of s w) o
unfolding is_touchable
touch_to s w o i is =
    let parts : ((s.is_of o thing_kind && is_visible s w o) ≡ true) × (not (list_any (blocks_touch (sights_of s w)) (chain w o)) ≡ true) = and_parts _ _ is in
    let seen : (s.is_of o thing_kind ≡ true) × (is_visible s w o ≡ true) = and_parts _ _ parts.0 in
    (root_from _ _ _ seen.0, ((visible_is s w o i).0 seen.1, (chain w o, (i.chains o, not-true _ parts.1))))

touch_from : (s : Setting) (w : World) (o : ℕ) → IsWorldOf s w → IsTouchable (sights_of s w) o → is_touchable s w o ≡ true
unfolding is_touchable
touch_from s w o i t =
    and_from _ _ (and_from _ _ (root_is _ _ _ t.0) ((visible_is s w o i).1 t.1.0))
    (not_from_false _ (ap (list_any (blocks_touch (sights_of s w))) (sym (one_chain (place_of w) o t.1.1.0 (chain w o) t.1.1.1.0 (i.chains o))) ∙ t.1.1.1.1))

pub touchable_is : (s : Setting) (w : World) (o : ℕ) → IsWorldOf s w → (is_touchable s w o ≡ true) ↔ IsTouchable (sights_of s w) o
touchable_is s w o i = (touch_to s w o i, touch_from s w o i)
