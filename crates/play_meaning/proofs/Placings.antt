-- What is computed of placing is what the rules of placing say.
use Rattle.std.proofs.Common.{◌≡◌, refl, ◌⊎◌, inl, inr, ◌↔◌, ℕ, Bool, true, false, eq-eqb, eqb-true}
use Rattle.std.specs.Prelude.{not, ◌&&◌, ◌||◌, ◌==◌}
use Rattle.world_meaning.specs.Chains.{WouldCycle}
use Rattle.world_meaning.specs.Placing.{MayBePut, can_be_held, can_hold, keeps_player}
use Rattle.world_meaning.specs.declared.place.Place.{Place}
use Rattle.play_meaning.specs.Changes.{may_be_put}
use Rattle.play_meaning.specs.Seeing.{encloses}
use Rattle.play_meaning.specs.Settings.{Setting, kinds_of}
use Rattle.play_meaning.specs.StoryWorlds.{IsWorldOf}
use Rattle.play_meaning.specs.Worlds.{World, place_of}
use Rattle.play_meaning.proofs.Seen.{encloses_is}

four_of : (a b c d : Bool) → a ≡ true → b ≡ true → c ≡ true → d ≡ true → (a && b && c && d) ≡ true
four_of true true true true p q r s = refl
four_of false b c d p q r s = absurd cc
four_of true false c d p q r s = absurd cc
four_of true true false d p q r s = absurd cc
four_of true true true false p q r s = absurd cc

four_are : (a b c d : Bool) → (a && b && c && d) ≡ true → (a ≡ true) × ((b ≡ true) × ((c ≡ true) × (d ≡ true)))
four_are true true true true is = (refl, (refl, (refl, refl)))
four_are false b c d is = absurd cc
four_are true false c d is = absurd cc
four_are true true false d is = absurd cc
four_are true true true false is = absurd cc

neither : (a b : Bool) → (a ≡ true → ⊥) → (b ≡ true → ⊥) → not (a || b) ≡ true
neither false false first second = refl
neither true b first second = absurd (first refl)
neither false true first second = absurd (second refl)

pub not_either : (a b : Bool) → not (a || b) ≡ true → (a ≡ true) ⊎ (b ≡ true) → ⊥
not_either true b is other = absurd cc
not_either false true is other = absurd cc
not_either false false is (inl first) = absurd cc
not_either false false is (inr second) = absurd cc

no_cycle : (s : Setting) (w : World) (o holder : ℕ) → IsWorldOf s w → not ((o == holder) || encloses w o holder) ≡ true → WouldCycle (place_of w) o holder → ⊥
no_cycle s w o holder i free (inl same) = not_either (o == holder) (encloses w o holder) free (inl (eq-eqb o holder same))
no_cycle s w o holder i free (inr under) = not_either (o == holder) (encloses w o holder) free (inr ((encloses_is s w o holder i).1 under))

pub placed_is : (s : Setting) (w : World) (o : ℕ) (to : Place) → IsWorldOf s w → (may_be_put s w o to ≡ true) ↔ MayBePut (kinds_of s) (place_of w) o to
unfolding may_be_put
placed_is s w o to i = (
  (λ may. let parts = four_are (can_be_held (kinds_of s) o) (can_hold (kinds_of s) to.relation to.holder) (keeps_player (kinds_of s) o to) (not ((o == to.holder) || encloses w o to.holder)) may in
      record { held = parts.0; holds = parts.1.0; player = parts.1.1.0; no_cycle = no_cycle s w o to.holder i parts.1.1.1 }),
  (λ may. four_of (can_be_held (kinds_of s) o) (can_hold (kinds_of s) to.relation to.holder) (keeps_player (kinds_of s) o to) (not ((o == to.holder) || encloses w o to.holder)) may.held may.holds may.player
      (neither (o == to.holder) (encloses w o to.holder) (λ same. may.no_cycle (inl (eqb-true o to.holder same))) (λ under. may.no_cycle (inr ((encloses_is s w o to.holder i).0 under))))),
)
