-- What is told of together: objects that pass one test and another.
use Rattle.std.proofs.Common.{◌≡◌, ◌∙◌, ap, refl, sym, ℕ, Bool, false, List, [], ◌∷◌, Option, None, Some, inl, inr}
use Rattle.std.specs.Prelude.{◌&&◌, filter}
use Rattle.std.specs.List.{list_any}
use Rattle.std.proofs.lemmas.Bool.{cases_Bool}
use Rattle.play_meaning.proofs.Asking.{held_at}
use Rattle.play_meaning.specs.Machines.{holder_by}
use Rattle.play_meaning.specs.Scripts.{scope_of}
use Rattle.play_meaning.specs.Settings.{Setting, objects_of, thing_kind}
use Rattle.play_meaning.specs.StandardRules.{things_with_player, visible_things}
use Rattle.play_meaning.specs.Trees.{Those, Visible}
use Rattle.play_meaning.specs.Truth.{of_some}
use Rattle.play_meaning.specs.Values.{is_among, is_held, is_one, object_in, those}
use Rattle.play_meaning.specs.Worlds.{World, place_of}
use Rattle.play_meaning.specs.declared.action.ActionNow.{ActionNow}
use Rattle.world_meaning.specs.declared.place.Rel.{Rel}
use Rattle.world_meaning.specs.declared.place.Rel.TheVariants.{Part}

-- those of which two things hold are those of which the one holds, among those of which the other does
filter_both : (p q : ℕ → Bool) (xs : List ℕ) → filter p (filter q xs) ≡ filter (λ x. p x && q x) xs
filter_both p q [] = refl
filter_both p q (x ∷ xs) =
    elim (cases_Bool (q x)) [
      | inl is ↦
          elim (cases_Bool (p x)) [
            | inl so ↦ rw (is, so) (ap (λ ys. x ∷ ys) (filter_both p q xs))
            | inr isnt ↦ rw (is, isnt) (filter_both p q xs)
          ]
      | inr isnt ↦
          elim (cases_Bool (p x)) [
            | inl so ↦ rw (isnt, so) (filter_both p q xs)
            | inr not_so ↦ rw (isnt, not_so) (filter_both p q xs)
          ]
    ]

pub things_held : (s : Setting) (w : World) (now : ActionNow) (relation : Rel) (holder : ℕ) → holder ≡ 0
    → filter (is_among s w [] (Some thing_kind)) (filter (is_held w relation (Some holder)) (objects_of s)) ≡ those s (scope_of now) w (things_with_player relation)
unfolding those is_one object_in
things_held s w now relation holder is =
    filter_both (is_among s w [] (Some thing_kind)) (is_held w relation (Some holder)) (objects_of s)
    ∙ ap (λ n. filter (λ o. is_among s w [] (Some thing_kind) o && is_held w relation (Some n) o) (objects_of s)) is

pub things_seen : (s : Setting) (w : World) (now : ActionNow) (relation : Rel) (noun : ℕ) → now.noun ≡ Some noun
    → filter (is_among s w (Visible ∷ []) (Some thing_kind)) (filter (is_held w relation (Some noun)) (objects_of s)) ≡ those s (scope_of now) w (visible_things relation)
unfolding those is_one object_in
things_seen s w now relation noun is =
    filter_both (is_among s w (Visible ∷ []) (Some thing_kind)) (is_held w relation (Some noun)) (objects_of s)
    ∙ ap (λ holder. filter (λ o. is_among s w (Visible ∷ []) (Some thing_kind) o && is_held w relation holder o) (objects_of s)) (sym is)

none_of_false : (p : ℕ → Bool) (xs : List ℕ) → filter (λ x. p x && false) xs ≡ []
none_of_false p [] = refl
none_of_false p (x ∷ xs) =
    elim (cases_Bool (p x)) [
      | inl is ↦ rw is (none_of_false p xs)
      | inr isnt ↦ rw isnt (none_of_false p xs)
    ]

-- nothing holds nothing
pub none_seen : (s : Setting) (w : World) (now : ActionNow) (relation : Rel) → now.noun ≡ None → [] ≡ those s (scope_of now) w (visible_things relation)
unfolding those is_one object_in
none_seen s w now relation is =
    sym (none_of_false (is_among s w (Visible ∷ []) (Some thing_kind)) (objects_of s))
    ∙ ap (λ holder. filter (λ o. is_among s w (Visible ∷ []) (Some thing_kind) o && is_held w relation holder o) (objects_of s)) (sym is)

-- what is part of something is held so by a thing
pub part_of_those : (s : Setting) (w : World) (now : ActionNow)
    → of_some (holder_by s w Part now.noun) (is_among s w [] (Some thing_kind))
    ≡ of_some now.noun (λ n. list_any (λ holder. is_held w Part (Some holder) n) (those s (scope_of now) w (Those [] (Some thing_kind))))
unfolding those is_one
part_of_those s w now = of_noun now.noun
  where
    of_noun : (noun : Option ℕ) → of_some (holder_by s w Part noun) (is_among s w [] (Some thing_kind)) ≡ of_some noun (λ n. list_any (λ holder. is_held w Part (Some holder) n) (those s (scope_of now) w (Those [] (Some thing_kind))))
    of_noun None = refl
    of_noun (Some n) = held_at s Part (is_among s w [] (Some thing_kind)) (place_of w n)
