-- What lies under what among the kinds of a source.

use Rattle.std.proofs.Common.{◌≡◌, ℕ, true, false, List, ◌++◌, Option, refl, sym, ◌∙◌, subst, inl, inr, ◌⊎◌, ⊎_elim, true≢false}
use Rattle.std.specs.Prelude.{Some, slice_get}
use Rattle.std.proofs.lemmas.Bool.{false_from_ne_true}
use Rattle.world_meaning.proofs.Climbs.{climbs_decide}
use Rattle.world_meaning.specs.Kinds.{Under, itself, above, built_in_parents, direction_kind, door_kind, is_under, person_kind, room_kind, thing_kind}

same_parent : (o : Option (Option ℕ)) (p q : ℕ) → o ≡ Some (Some p) → o ≡ Some (Some q) → p ≡ q
same_parent o p q h k = cc

-- two kinds above one lie on its path
pub comparable : (S : List (Option ℕ)) (d i j : ℕ) → Under S d i → Under S d j → Under S i j ⊎ Under S j i
comparable S d i j itself u = inl u
comparable S d i j (above h v) itself = inr (above h v)
comparable S d i j (above {parent = p} h v) (above {parent = q} k u) =
    comparable S p i j v (subst (λ (o : ℕ). Under S o j) (same_parent (slice_get S d) q p k h) u)

abbrev pub Apart : List (Option ℕ) → ℕ → ℕ → Type 0
Apart S i j = (is_under S i j ≡ false) × (is_under S j i ≡ false)

-- what lies under one of two kinds that are apart doesn't lie under the other
pub not_both : (S : List (Option ℕ)) (d i j : ℕ) → Apart S i j → Under S d i → Under S d j → ⊥
not_both S d i j apart u v =
    ⊎_elim (λ w. true≢false (sym ((climbs_decide S i j).1 w) ∙ apart.0)) (λ w. true≢false (sym ((climbs_decide S j i).1 w) ∙ apart.1)) (comparable S d i j u v)

pub isnt_under : (S : List (Option ℕ)) (d i j : ℕ) → Apart S i j → Under S d i → is_under S d j ≡ false
isnt_under S d i j apart u = false_from_ne_true (is_under S d j) (λ h. not_both S d i j apart u ((climbs_decide S d j).0 h))

-- ---- the built-in kinds

abbrev pub with_others : List (Option ℕ) → List (Option ℕ)
with_others others = built_in_parents ++ others

pub person_is_thing : (others : List (Option ℕ)) → is_under (with_others others) person_kind thing_kind ≡ true
unfolding is_under built_in_parents
person_is_thing others = refl

pub person_and_door : (others : List (Option ℕ)) → Apart (with_others others) person_kind door_kind
unfolding is_under built_in_parents
person_and_door others = (refl, refl)

pub room_and_thing : (others : List (Option ℕ)) → Apart (with_others others) room_kind thing_kind
unfolding is_under built_in_parents
room_and_thing others = (refl, refl)

pub direction_and_thing : (others : List (Option ℕ)) → Apart (with_others others) direction_kind thing_kind
unfolding is_under built_in_parents
direction_and_thing others = (refl, refl)
