-- What is seen in the hall of the examples.
use Rattle.std.proofs.Common.{◌≡◌, ℕ, Bool, true, false, ◌&&◌, List, [], ◌∷◌, refl, subst, inl, inr, arith}
use Rattle.std.specs.Prelude.{Some, eqb, IsTrue}
use Rattle.std.specs.List.{list_any}
use Rattle.std.proofs.lemmas.Bool.{false≢true, true≢false}
use Rattle.std.proofs.lemmas.Bool.Decides.{eqb_tells}
use Rattle.std.proofs.lemmas.Option.{none-some, same_Some}
use Rattle.world_meaning.specs.Chains.{IsChain, StandsIn}
use Rattle.world_meaning.specs.Sight.{Sights, IsInView, HasLight, IsVisible, IsTouchable, blocks_touch, thing, room, direction}
use Rattle.world_meaning.specs.SightExamples.{hall}
use Rattle.world_meaning.proofs.Chains.{one_chain}
use Rattle.world_meaning.specs.declared.place.Place.{Place}
use Rattle.world_meaning.specs.declared.place.Rel.TheVariants.{In, Carried, Part}

-- what is seen is seen along its chain
along : (w : Sights) (o : ℕ) (steps others : List Place) → IsChain w.place o steps → IsInView w o others → IsInView w o steps
along w o steps others p view = subst (λ (ks : List Place). IsInView w o ks) (one_chain w.place o others steps view.chain p) view

-- the coin is in the box, and the box in the hall
abbrev coin_steps : List Place
coin_steps = record { relation = In; holder = 2 } ∷ record { relation = In; holder = 1 } ∷ []

abbrev box_steps : List Place
box_steps = record { relation = In; holder = 1 } ∷ []

abbrev lamp_steps : List Place
lamp_steps = record { relation = Carried; holder = 0 } ∷ record { relation = In; holder = 1 } ∷ []

abbrev knob_steps : List Place
knob_steps = record { relation = Part; holder = 4 } ∷ []

coin_chain : (o t l d : Bool) → IsChain (hall o t l d).place 3 coin_steps
coin_chain o t l d = (refl, (refl, refl))

box_chain : (o t l d : Bool) → IsChain (hall o t l d).place 2 box_steps
box_chain o t l d = (refl, refl)

lamp_chain : (o t l d : Bool) → IsChain (hall o t l d).place 5 lamp_steps
lamp_chain o t l d = (refl, (refl, refl))

knob_chain : (o t l d : Bool) → IsChain (hall o t l d).place 8 knob_steps
knob_chain o t l d = (refl, refl)

door_chain : (o t l d : Bool) → IsChain (hall o t l d).place 4 []
door_chain o t l d = refl

-- the coin can't be seen in a box that is closed and opaque
coin_hidden : (l d : Bool) (steps : List Place) → IsInView (hall false false l d) 3 steps → ⊥
coin_hidden l d steps view = true≢false (along (hall false false l d) 3 coin_steps steps (coin_chain false false l d) view).clear

-- a door, and a part of one, have no chain that ends in the hall
door_apart : (o t l d : Bool) (steps : List Place) → IsInView (hall o t l d) 4 steps → ⊥
door_apart o t l d steps view = none-some 1 (along (hall o t l d) 4 [] steps (door_chain o t l d) view).ends

knob_apart : (o t l d : Bool) (steps : List Place) → IsInView (hall o t l d) 8 steps → ⊥
knob_apart o t l d steps view = let e = same_Some 4 1 (along (hall o t l d) 8 knob_steps steps (knob_chain o t l d) view).ends in omega arith

-- only the coin may be lit
lit_is_coin : (x : ℕ) (lit : Bool) → IsTrue ((eqb x 3) && lit) → (x ≡ 3) × IsTrue lit
lit_is_coin x lit p =
    elim (eqb_tells x 3) [
      | inl is ↦ let q : IsTrue lit = rw is.0 at p in (is.1, q)
      | inr isnt ↦ let q : IsTrue false = rw isnt.0 at p in absurd (false≢true q)
    ]

-- in the dark hall light comes from the coin alone
pub light_is_coins : (o t l : Bool) → HasLight (hall o t l false) → IsTrue l × ((steps : List Place) × IsInView (hall o t l false) 3 steps)
light_is_coins o t l (inl lighted) = absurd (false≢true lighted)
light_is_coins o t l (inr (x, (lit, (steps, view)))) =
    let coin = lit_is_coin x l lit in
    (coin.1, (steps, subst (λ (y : ℕ). IsInView (hall o t l false) y steps) coin.0 view))

pub dark_unlit : (o t : Bool) → HasLight (hall o t false false) → ⊥
dark_unlit o t light = false≢true (light_is_coins o t false light).0

pub dark_shut : (l : Bool) → HasLight (hall false false l false) → ⊥
dark_shut l light = let coin = light_is_coins false false l light in coin_hidden l false coin.1.0 coin.1.1

-- the coin can be seen in a box that is open or transparent
pub coin_in_open : (t l d : Bool) → IsInView (hall true t l d) 3 coin_steps
coin_in_open t l d = record { chain = coin_chain true t l d; ends = refl; clear = refl }

pub coin_in_glass : (o l d : Bool) → IsInView (hall o true l d) 3 coin_steps
coin_in_glass true l d = record { chain = coin_chain true true l d; ends = refl; clear = refl }
coin_in_glass false l d = record { chain = coin_chain false true l d; ends = refl; clear = refl }

pub light_from_open : (t d : Bool) → HasLight (hall true t true d)
light_from_open t d = inr (3, (refl, (coin_steps, coin_in_open t true d)))

pub light_from_glass : (o d : Bool) → HasLight (hall o true true d)
light_from_glass o d = inr (3, (refl, (coin_steps, coin_in_glass o true d)))

pub opaque_hides : (l d : Bool) → IsVisible (hall false false l d) 3 → ⊥
opaque_hides l d (inl e) = omega (arith, e)
opaque_hides l d (inr (inl (door, light))) = false≢true door
opaque_hides l d (inr (inr (steps, (view, seen)))) = coin_hidden l d steps view

pub glass_shows : (o l : Bool) → IsVisible (hall o true l true) 3
glass_shows o l = inr (inr (coin_steps, (coin_in_glass o l true, inl (inl refl))))

pub glass_keeps : (t l d : Bool) → IsTouchable (hall false t l d) 3 → ⊥
glass_keeps t l d (_, (_, (steps, (chain, clear)))) =
    true≢false (subst (λ (ks : List Place). list_any (blocks_touch (hall false t l d)) ks ≡ false) (one_chain (hall false t l d).place 3 steps coin_steps chain (coin_chain false t l d)) clear)

pub open_gives : (t l : Bool) → IsTouchable (hall true t l true) 3
open_gives t l = (refl, (inr (inr (coin_steps, (coin_in_open t l true, inl (inl refl)))), (coin_steps, (coin_chain true t l true, refl))))

pub door_in_light : (o t l : Bool) → IsTouchable (hall o t l true) 4
door_in_light o t l = (refl, (inr (inl (refl, inl refl)), ([], (refl, refl))))

pub door_in_dark : (o t : Bool) → IsVisible (hall o t false false) 4 → ⊥
door_in_dark o t (inl e) = omega (arith, e)
door_in_dark o t (inr (inl (door, light))) = dark_unlit o t light
door_in_dark o t (inr (inr (steps, (view, seen)))) = door_apart o t false false steps view

pub knob_unseen : (o t l d : Bool) → IsVisible (hall o t l d) 8 → ⊥
knob_unseen o t l d (inl e) = omega (arith, e)
knob_unseen o t l d (inr (inl (door, light))) = false≢true door
knob_unseen o t l d (inr (inr (steps, (view, seen)))) = knob_apart o t l d steps view

pub lamp_at_hand : (o t l d : Bool) → IsTouchable (hall o t l d) 5
lamp_at_hand o t l d = (refl, (inr (inr (lamp_steps, (record { chain = lamp_chain o t l d; ends = refl; clear = refl }, inr (inl refl)))), (lamp_steps, (lamp_chain o t l d, refl))))

apart_from_player : (o t : Bool) (steps : List Place) → IsInView (hall o t false false) 2 steps → StandsIn 0 steps → ⊥
apart_from_player o t steps view held =
    let box : StandsIn 0 box_steps = subst (λ (ks : List Place). StandsIn 0 ks) (one_chain (hall o t false false).place 2 steps box_steps view.chain (box_chain o t false false)) held in
    not_in box
  where
    not_in : StandsIn 0 box_steps → ⊥
    not_in (inl e) = omega (arith, e)
    not_in (inr more) = more

pub box_in_dark : (o t : Bool) → IsVisible (hall o t false false) 2 → ⊥
box_in_dark o t (inl e) = omega (arith, e)
box_in_dark o t (inr (inl (door, light))) = dark_unlit o t light
box_in_dark o t (inr (inr (steps, (view, inl light)))) = dark_unlit o t light
box_in_dark o t (inr (inr (steps, (view, inr held)))) = apart_from_player o t steps view held

pub box_in_light : (o t : Bool) (l : Bool) → IsTouchable (hall o t l true) 2
box_in_light o t l = (refl, (inr (inr (box_steps, (record { chain = box_chain o t l true; ends = refl; clear = refl }, inl (inl refl)))), (box_steps, (box_chain o t l true, refl))))

pub player_at_hand : (o t l d : Bool) → IsTouchable (hall o t l d) 0
player_at_hand o t l d = (refl, (inl refl, (box_steps, ((refl, refl), refl))))

pub elsewhere_unseen : (o t l d : Bool) → IsVisible (hall o t l d) 6 → ⊥
elsewhere_unseen o t l d e = omega (arith, e)

pub location_untouched : (o t l d : Bool) → IsTouchable (hall o t l d) 1 → ⊥
location_untouched o t l d touch = let e : Some room ≡ Some thing = touch.0 in cc

pub direction_untouched : (o t l d : Bool) → IsTouchable (hall o t l d) 7 → ⊥
direction_untouched o t l d touch = let e : Some direction ≡ Some thing = touch.0 in cc
