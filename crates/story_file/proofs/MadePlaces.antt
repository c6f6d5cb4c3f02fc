-- Where objects are known whole, the player and the directions are what they must be, and each place is allowed.
use Rattle.std.proofs.Common.{◌≡◌, ℕ, zero, suc, ◌+◌, ◌<◌, ◌≤◌, Bool, true, false, not, ◌&&◌, ◌||◌, List, [], ◌∷◌, length, drop, Option, Some, None, refl, sym, ap, ◌∙◌, subst, arith, inl, inr, true≢false}
use Rattle.std.specs.Prelude.{slice_get}
use Rattle.std.proofs.lemmas.Bool.{cases_Bool, and_from}
use Rattle.i7_kinds.proofs.Rooted.{trans}
use Rattle.world_meaning.proofs.Climbs.{climbs_decide}
use Rattle.world_meaning.specs.Chains.{IsTree}
use Rattle.world_meaning.specs.Kinds.{Under, built_in_parents, is_under}
use Rattle.world_meaning.specs.Placing.{Kinds, can_be_held}
use Rattle.world_meaning.specs.Standing.{place_at}
use Rattle.world_meaning.specs.declared.place.Place.{Place}
use Rattle.world_meaning.specs.declared.place.Rel.TheVariants.{In}
use Rattle.i7_kinds.specs.Knowns.{is_of, is_of_in, is_parted, is_parted_at, kind_of, kinds_known, kinds_of, known_at}
use Rattle.i7_kinds.specs.Places.{Places, put}
use Rattle.i7_kinds.specs.Suits.{first_room, room_from, suits}
use Rattle.i7_kinds.specs.Tales.{kind_at}
use Rattle.i7_kinds.specs.declared.knowns.Known.{Known}
use Rattle.i7_kinds.proofs.Fines.{AreFine, IsFine, base, fine_isnt_parted, kind_based}
use Rattle.i7_kinds.proofs.Placed.{AreSuited, IsSuited, player_tree, put_at, room_is_author}
use Rattle.i7_kinds.proofs.UnderKinds.{direction_and_thing, isnt_under, person_and_door, person_is_thing, room_and_thing, with_others}
use Rattle.story_format.proofs.StoryLemmas.{get_dropped}
use Rattle.i7_kinds.proofs.ObjectsNamed.{kind_known}

-- ---- what is known of an object by its number

whole_at : (knowns : List Known) (o : ℕ) → is_parted (known_at knowns o).demanded ≡ false → is_parted_at knowns o ≡ false
whole_at [] o h = refl
whole_at (known ∷ knowns) zero h = h
whole_at (known ∷ knowns) (suc o) h = whole_at knowns o h

pub all_whole : (parents : List (Option ℕ)) (n : ℕ) (knowns : List Known) → AreFine parents n knowns → (o : ℕ) → is_parted_at knowns o ≡ false
all_whole parents n knowns fine o = whole_at knowns o (fine_isnt_parted parents n (base o) (known_at knowns o).demanded (fine o))

is_of_at : (parents : List (Option ℕ)) (knowns : List Known) (kind o : ℕ) → o < length knowns → is_of parents knowns kind o ≡ is_under parents (kind_of (known_at knowns o)) kind
is_of_at parents [] kind o lt = absurd (omega (arith, lt))
is_of_at parents (known ∷ knowns) kind zero lt = refl
is_of_at parents (known ∷ knowns) kind (suc o) lt = is_of_at parents knowns kind o (omega (arith, lt))

-- ---- the first room is one

here_room : (parents : List (Option ℕ)) (all : List Known) (o room : ℕ) (known : Known) → o ≡ room → slice_get all o ≡ Some known → is_under parents (kind_of known) 1 ≡ true → is_of parents all 1 room ≡ true
here_room parents all o room known same there is =
    subst (λ (x : ℕ). is_of parents all 1 x ≡ true) same (ap (is_of_in parents 1) there ∙ is)

room_there : (parents : List (Option ℕ)) (all : List Known) (o room : ℕ) (knowns : List Known) → room_from parents o knowns ≡ Some room → ((i j : ℕ) → o + i ≡ j → slice_get all j ≡ slice_get knowns i) → is_of parents all 1 room ≡ true
room_there parents all o room [] h k = absurd cc
room_there parents all o room (known ∷ knowns) h k =
    elim (cases_Bool (is_under parents (kind_of known) 1)) [
      | inl is ↦ let here : Some o ≡ Some room = rw is at h in let same : o ≡ room = cc in here_room parents all o room known same (k 0 o (omega arith)) is
      | inr isnt ↦ let later : room_from parents (o + 1) knowns ≡ Some room = rw isnt at h in room_there parents all (o + 1) room knowns later (λ i j q. k (suc i) j (omega (arith, q)))
    ]

pub room_is : (parents : List (Option ℕ)) (knowns : List Known) (room : ℕ) → first_room parents knowns ≡ Some room → is_of parents knowns 1 room ≡ true
room_is parents knowns room h = room_there parents knowns 13 room (drop 13 knowns) h (λ i j q. sym (get_dropped 13 i j knowns q))

-- ---- what is no thing is nowhere

held_is_thing : (a b c d : Bool) → ((a && not b) && c) && d ≡ true → a ≡ true
held_is_thing true b c d h = refl
held_is_thing false b c d h = absurd cc

nowhere_if : (kinds : Kinds) (o : ℕ) (place : Option Place) → IsSuited kinds o place → kinds.is_thing o ≡ false → place ≡ None
nowhere_if kinds o None h k = refl
nowhere_if kinds o (Some place) h k = absurd (true≢false (sym (held_is_thing (kinds.is_thing o) (kinds.is_door o) _ _ h) ∙ k))

thing_and_person : (others : List (Option ℕ)) → is_under (with_others others) 0 6 ≡ false
unfolding is_under built_in_parents
thing_and_person others = refl

thing_isnt_person : (others : List (Option ℕ)) → Under (with_others others) 0 6 → ⊥
thing_isnt_person others u = true≢false (sym ((climbs_decide (with_others others) 0 6).1 u) ∙ thing_and_person others)

thing_isnt_direction : (others : List (Option ℕ)) → Under (with_others others) 0 2 → ⊥
thing_isnt_direction others u = true≢false (sym ((climbs_decide (with_others others) 0 2).1 u) ∙ (direction_and_thing others).1)

direction_base : (o : ℕ) → 1 ≤ o → o ≤ 12 → base o ≡ Some 2
direction_base zero le ge = absurd (omega (arith, le))
direction_base (suc zero) le ge = refl
direction_base (suc (suc zero)) le ge = refl
direction_base (suc (suc (suc zero))) le ge = refl
direction_base (suc (suc (suc (suc zero)))) le ge = refl
direction_base (suc (suc (suc (suc (suc zero))))) le ge = refl
direction_base (suc (suc (suc (suc (suc (suc zero)))))) le ge = refl
direction_base (suc (suc (suc (suc (suc (suc (suc zero))))))) le ge = refl
direction_base (suc (suc (suc (suc (suc (suc (suc (suc zero)))))))) le ge = refl
direction_base (suc (suc (suc (suc (suc (suc (suc (suc (suc zero))))))))) le ge = refl
direction_base (suc (suc (suc (suc (suc (suc (suc (suc (suc (suc zero)))))))))) le ge = refl
direction_base (suc (suc (suc (suc (suc (suc (suc (suc (suc (suc (suc zero))))))))))) le ge = refl
direction_base (suc (suc (suc (suc (suc (suc (suc (suc (suc (suc (suc (suc zero)))))))))))) le ge = refl
direction_base (suc (suc (suc (suc (suc (suc (suc (suc (suc (suc (suc (suc (suc o))))))))))))) le ge = absurd (omega (arith, ge))

abbrev pub place_in_room : ℕ → Place
place_in_room room = record { relation = In; holder = room }

suits_player : (held room container : Bool) → held ≡ true → room ≡ true → ((held && (room || container)) && (false || (true && room))) ≡ true
suits_player true true container h k = refl
suits_player true false container h k = absurd cc
suits_player false room container h k = absurd cc

module _ (others : List (Option ℕ)) (n : ℕ) (knowns : List Known) (count : ℕ) (counted : length knowns ≡ 13 + count) (fine : AreFine (with_others others) n knowns) where
  abbrev S : List (Option ℕ)
  S = with_others others

  player_under : Under S (kind_of (known_at knowns 0)) 6
  player_under = kind_based S n 6 (known_at knowns 0).demanded (known_at knowns 0).holds (thing_isnt_person others) (fine 0)

  pub player_person : is_under S (kind_at (kinds_of knowns) 0) 6 ≡ true
  player_person = ap (λ (k : ℕ). is_under S k 6) (kind_known knowns 0) ∙ (climbs_decide S (kind_of (known_at knowns 0)) 6).1 player_under

  player_held : can_be_held (kinds_known S knowns) 0 ≡ true
  player_held =
      let kind = kind_of (known_at knowns 0) in
      let up : Under S kind 0 = trans S kind 6 0 player_under ((climbs_decide S 6 0).0 (person_is_thing others)) in
      let thing : is_of S knowns 0 0 ≡ true = is_of_at S knowns 0 0 (omega (arith, counted)) ∙ (climbs_decide S kind 0).1 up in
      let door : is_of S knowns 3 0 ≡ false = is_of_at S knowns 3 0 (omega (arith, counted)) ∙ isnt_under S kind 6 3 (person_and_door others) player_under in
      and_from (is_of S knowns 0 0) (not (is_of S knowns 3 0)) thing (ap not door)

  direction_under : (o : ℕ) → 1 ≤ o → o ≤ 12 → Under S (kind_of (known_at knowns o)) 2
  direction_under o le ge =
      kind_based S n 2 (known_at knowns o).demanded (known_at knowns o).holds (thing_isnt_direction others) (subst (λ (b : Option ℕ). IsFine S n b (known_at knowns o).demanded) (direction_base o le ge) (fine o))

  pub direction_is : (o : ℕ) → 1 ≤ o → o ≤ 12 → is_under S (kind_at (kinds_of knowns) o) 2 ≡ true
  direction_is o le ge = ap (λ (k : ℕ). is_under S k 2) (kind_known knowns o) ∙ (climbs_decide S (kind_of (known_at knowns o)) 2).1 (direction_under o le ge)

  direction_isnt_thing : (o : ℕ) → 1 ≤ o → o ≤ 12 → is_of S knowns 0 o ≡ false
  direction_isnt_thing o le ge = is_of_at S knowns 0 o (omega (arith, counted, ge)) ∙ isnt_under S (kind_of (known_at knowns o)) 2 0 (direction_and_thing others) (direction_under o le ge)

  -- with places that the kinds allow, and the first room
  module _ (places : Places) (suited : AreSuited (kinds_known S knowns) places) (room : ℕ) (first : first_room S knowns ≡ Some room) where
    is_room : is_of S knowns 1 room ≡ true
    is_room = room_is S knowns room first

    bounds : (13 ≤ room) × (room < length knowns)
    bounds = room_is_author S knowns room (omega (arith, counted)) first

    room_nowhere : place_at places room ≡ None
    room_nowhere =
        let kind = kind_of (known_at knowns room) in
        let under : Under S kind 1 = (climbs_decide S kind 1).0 (sym (is_of_at S knowns 1 room bounds.1) ∙ is_room) in
        nowhere_if (kinds_known S knowns) room (place_at places room) (suited room) (is_of_at S knowns 0 room bounds.1 ∙ isnt_under S kind 1 0 (room_and_thing others) under)

    player_suits : suits (kinds_known S knowns) 0 (place_in_room room) ≡ true
    player_suits = suits_player (can_be_held (kinds_known S knowns) 0) (is_of S knowns 1 room) (is_of S knowns 4 room) player_held is_room

    pub all_suited : AreSuited (kinds_known S knowns) (put places 0 (place_in_room room))
    all_suited o = put_at (IsSuited (kinds_known S knowns) o) places 0 o (place_in_room room) (suited o) (λ e. subst (λ (x : ℕ). suits (kinds_known S knowns) x (place_in_room room) ≡ true) (sym e) player_suits)

    pub direction_nowhere : (o : ℕ) → 1 ≤ o → o ≤ 12 → place_at (put places 0 (place_in_room room)) o ≡ None
    direction_nowhere o le ge =
        put_at (λ (p : Option Place). p ≡ None) places 0 o (place_in_room room) (nowhere_if (kinds_known S knowns) o (place_at places o) (suited o) (direction_isnt_thing o le ge)) (λ e. absurd (omega (arith, e, le)))

    pub tree_with_player : 1 ≤ length places → IsTree (place_at places) → IsTree (place_at (put places 0 (place_in_room room)))
    tree_with_player many tree = player_tree places (place_in_room room) many (omega (arith, bounds.0)) room_nowhere tree
