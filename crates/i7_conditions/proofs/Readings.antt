-- Marks tell an object exactly if it is what they put together.
use Rattle.std.proofs.Common.{◌≡◌, ℕ, ◌+◌, ◌<◌, ◌≤◌, max, Bool, true, false, cond, List, [], ◌∷◌, ◌++◌, map, refl, sym, ap, subst, ◌∙◌, append_assoc, arith, inl, inr}
use Rattle.std.specs.Prelude.{Option, Some, None, flat_map, nat_lt, option_map}
use Rattle.std.proofs.lemmas.List.{append-nil}
use Rattle.std.proofs.lemmas.Bool.{ltb-true, ltb-false, cases_Bool}
use Rattle.std.proofs.lemmas.Bool.Decides.{nat_tests}
use Rattle.play_meaning.specs.Trees.{Object, The, Noun, SecondNoun, Location, Nothing, Turning, RoomFrom, DoorFrom}
use Rattle.i7_conditions.specs.Marks.{marks_of}
use Rattle.i7_conditions.specs.Objects.{IsObjectFound, Means, froms, told}
use Rattle.i7_conditions.specs.Parts.{Built, Deep, Part, beyond, found_in, joined, leaf_of, on_two, parts_on, put_together, step, stepped}
use Rattle.i7_conditions.specs.Scopes.{Scope}
use Rattle.i7_conditions.specs.Words.{Word}
use Rattle.i7_conditions.specs.declared.found.Found.{Found}
use Rattle.i7_conditions.specs.declared.found.Found.TheVariants.{Read, TooMany, Unread}
use Rattle.i7_conditions.specs.declared.mark.Mark.{Mark}
use Rattle.i7_conditions.specs.declared.mark.Mark.TheVariants as mark

-- ---- the same without a limit

abbrev join_objects : Bool → List Object → Option (List Object)
join_objects is_door [] = None
join_objects is_door (first ∷ []) = None
join_objects is_door (first ∷ second ∷ os) = Some (beyond is_door first second ∷ os)

abbrev with_object : Option Object → List Object → Option (List Object)
with_object None os = None
with_object (Some o) os = Some (o ∷ os)

abbrev object_step : Mark → List Object → Option (List Object)
object_step mark.Room os = join_objects false os
object_step mark.Door os = join_objects true os
object_step mark os = with_object (leaf_of mark) os

abbrev object_stepped : Mark → Option (List Object) → Option (List Object)
object_stepped mark None = None
object_stepped mark (Some os) = object_step mark os

abbrev objects_on : Option (List Object) → List Mark → Option (List Object)
objects_on start [] = start
objects_on start (mark ∷ marks) = object_stepped mark (objects_on start marks)

-- ---- an object is put together of what it is told by

objects_behind : (start : Option (List Object)) (ms ns : List Mark) → objects_on start (ms ++ ns) ≡ objects_on (objects_on start ns) ms
objects_behind start [] ns = refl
objects_behind start (m ∷ ms) ns = ap (object_stepped m) (objects_behind start ms ns)

all_told : (o : Object) (os : List Object) → objects_on (Some os) (told o) ≡ Some (o ∷ os)
all_told (The n) os = refl
all_told Noun os = refl
all_told SecondNoun os = refl
all_told Location os = refl
all_told Nothing os = refl
all_told (Turning n) os = refl
all_told (RoomFrom d r) os = ap (object_stepped mark.Room) (objects_behind (Some os) (told d) (told r) ∙ ap (λ start. objects_on start (told d)) (all_told r os) ∙ all_told d (r ∷ os))
all_told (DoorFrom d r) os = ap (object_stepped mark.Door) (objects_behind (Some os) (told d) (told r) ∙ ap (λ start. objects_on start (told d)) (all_told r os) ∙ all_told d (r ∷ os))

pub told_once : (ms : List Mark) (o p : Object) → ms ≡ told o → ms ≡ told p → o ≡ p
told_once ms o p e f =
    let a : objects_on (Some []) ms ≡ Some (o ∷ []) = ap (objects_on (Some [])) e ∙ all_told o [] in
    let b : objects_on (Some []) ms ≡ Some (p ∷ []) = ap (objects_on (Some [])) f ∙ all_told p [] in
    cc

-- ---- what is put together is told

abbrev tell : List Object → List Mark
tell os = flat_map told os

step_tells : (m : Mark) (os ps : List Object) → object_step m os ≡ Some ps → m ∷ tell os ≡ tell ps
step_tells mark.Room [] ps e = absurd cc
step_tells mark.Room (d ∷ []) ps e = absurd cc
step_tells mark.Room (d ∷ r ∷ os) ps e = let p : ps ≡ RoomFrom d r ∷ os = cc in rw p (ap (λ ms. mark.Room ∷ ms) (sym (append_assoc (told d) (told r) (tell os))))
step_tells mark.Door [] ps e = absurd cc
step_tells mark.Door (d ∷ []) ps e = absurd cc
step_tells mark.Door (d ∷ r ∷ os) ps e = let p : ps ≡ DoorFrom d r ∷ os = cc in rw p (ap (λ ms. mark.Door ∷ ms) (sym (append_assoc (told d) (told r) (tell os))))
step_tells (mark.The n) os ps e = let p : ps ≡ The n ∷ os = cc in rw p refl
step_tells mark.Noun os ps e = let p : ps ≡ Noun ∷ os = cc in rw p refl
step_tells mark.SecondNoun os ps e = let p : ps ≡ SecondNoun ∷ os = cc in rw p refl
step_tells mark.Location os ps e = let p : ps ≡ Location ∷ os = cc in rw p refl
step_tells mark.Nothing os ps e = let p : ps ≡ Nothing ∷ os = cc in rw p refl
step_tells (mark.Turning n) os ps e = let p : ps ≡ Turning n ∷ os = cc in rw p refl
step_tells mark.Unknown os ps e = absurd cc

stepped_tells : (m : Mark) (before : Option (List Object)) (ps : List Object) → object_stepped m before ≡ Some ps → (os : List Object) × (before ≡ Some os) × (m ∷ tell os ≡ tell ps)
stepped_tells m None ps e = absurd cc
stepped_tells m (Some os) ps e = (os, refl, step_tells m os ps e)

put_told : (ms : List Mark) (os : List Object) → objects_on (Some []) ms ≡ Some os → ms ≡ tell os
put_told [] os e = let p : os ≡ [] = cc in rw p refl
put_told (m ∷ ms) os e =
    let before = stepped_tells m (objects_on (Some []) ms) os e in
    ap (λ more. m ∷ more) (put_told ms before.0 before.1) ∙ before.2

-- ---- the limit

abbrev capped_at : ℕ → Object → Part
capped_at n o = cond (nat_lt n 9) (Built o n) Deep

abbrev capped : Object → Part
capped o = capped_at (froms o) o

one_more : (n : ℕ) → nat_lt n 8 ≡ nat_lt (n + 1) 9
one_more n = grind (arith, nat_tests)

joined_at : (is_door : Bool) (d r : Object) (m n : ℕ) → joined is_door (capped_at m d) (capped_at n r) ≡ capped_at (max m n + 1) (beyond is_door d r)
joined_at is_door d r m n =
    elim (cases_Bool (nat_lt m 9)) [
      | inl a ↦ elim (cases_Bool (nat_lt n 9)) [
        | inl b ↦ rw (a, b) (ap (λ t. cond t (Built (beyond is_door d r) (max m n + 1)) Deep) (one_more (max m n)))
        | inr b ↦ let over : nat_lt (max m n + 1) 9 ≡ false = grind (arith, nat_tests, ltb-false _ _ b) in rw (a, b, over) refl
      ]
      | inr a ↦ let over : nat_lt (max m n + 1) 9 ≡ false = grind (arith, nat_tests, ltb-false _ _ a) in rw (a, over) refl
    ]

froms_beyond : (is_door : Bool) (d r : Object) → froms (beyond is_door d r) ≡ max (froms d) (froms r) + 1
froms_beyond false d r = refl
froms_beyond true d r = refl

joined_capped : (is_door : Bool) (d r : Object) → joined is_door (capped d) (capped r) ≡ capped (beyond is_door d r)
joined_capped is_door d r = joined_at is_door d r (froms d) (froms r) ∙ ap (λ n. capped_at n (beyond is_door d r)) (sym (froms_beyond is_door d r))

join_capped : (is_door : Bool) (os : List Object) → on_two is_door (map capped os) ≡ option_map (map capped) (join_objects is_door os)
join_capped is_door [] = refl
join_capped is_door (d ∷ []) = refl
join_capped is_door (d ∷ r ∷ os) = ap (λ p. Some (p ∷ map capped os)) (joined_capped is_door d r)

step_capped : (m : Mark) (os : List Object) → step m (map capped os) ≡ option_map (map capped) (object_step m os)
step_capped mark.Room os = join_capped false os
step_capped mark.Door os = join_capped true os
step_capped (mark.The n) os = refl
step_capped mark.Noun os = refl
step_capped mark.SecondNoun os = refl
step_capped mark.Location os = refl
step_capped mark.Nothing os = refl
step_capped (mark.Turning n) os = refl
step_capped mark.Unknown os = refl

stepped_capped : (m : Mark) (os : Option (List Object)) → stepped m (option_map (map capped) os) ≡ option_map (map capped) (object_stepped m os)
stepped_capped m None = refl
stepped_capped m (Some os) = step_capped m os

on_capped : (start : Option (List Object)) (ms : List Mark) → parts_on (option_map (map capped) start) ms ≡ option_map (map capped) (objects_on start ms)
on_capped start [] = refl
on_capped start (m ∷ ms) = ap (stepped m) (on_capped start ms) ∙ stepped_capped m (objects_on start ms)

-- ---- what is found

abbrev IsToldBy : List Mark → Found Object → Type 0
IsToldBy ms (Read o) = (ms ≡ told o) × (froms o ≤ 8)
IsToldBy ms TooMany = (o : Object) × (ms ≡ told o) × (8 < froms o)
IsToldBy ms Unread = (o : Object) → ms ≡ told o → ⊥

told_alone : (ms : List Mark) (o : Object) → objects_on (Some []) ms ≡ Some (o ∷ []) → ms ≡ told o
told_alone ms o e = put_told ms (o ∷ []) e ∙ append-nil (told o)

one_told : (ms : List Mark) (o : Object) → objects_on (Some []) ms ≡ Some (o ∷ []) → IsToldBy ms (found_in (Some (capped o ∷ [])))
one_told ms o e =
    elim (cases_Bool (nat_lt (froms o) 9)) [
      | inl few ↦ let le : froms o ≤ 8 = omega (arith, ltb-true _ _ few) in rw few (told_alone ms o e, le)
      | inr many ↦ let lt : 8 < froms o = omega (arith, ltb-false _ _ many) in rw many (o, told_alone ms o e, lt)
    ]

by_objects : (ms : List Mark) (os : Option (List Object)) → objects_on (Some []) ms ≡ os → IsToldBy ms (found_in (option_map (map capped) os))
by_objects ms None e = λ o f. let a : objects_on (Some []) ms ≡ Some (o ∷ []) = ap (objects_on (Some [])) f ∙ all_told o [] in cc
by_objects ms (Some []) e = λ o f. let a : objects_on (Some []) ms ≡ Some (o ∷ []) = ap (objects_on (Some [])) f ∙ all_told o [] in cc
by_objects ms (Some (o ∷ [])) e = one_told ms o e
by_objects ms (Some (o ∷ p ∷ os)) e = λ q f. let a : objects_on (Some []) ms ≡ Some (q ∷ []) = ap (objects_on (Some [])) f ∙ all_told q [] in cc

pub objects_found : (s : Scope) (words : List Word) (found : Found Object) → found ≡ put_together (marks_of s words) → IsObjectFound s words found
unfolding Means put_together
objects_found s words found e =
    let all = by_objects (marks_of s words) (objects_on (Some []) (marks_of s words)) refl in
    subst (IsToldBy (marks_of s words)) (ap found_in (sym (on_capped (Some []) (marks_of s words))) ∙ sym e) all

pub meant_once : (s : Scope) (words : List Word) (o p : Object) → Means s words o → Means s words p → o ≡ p
unfolding Means
meant_once s words o p e f = told_once (marks_of s words) o p e f
