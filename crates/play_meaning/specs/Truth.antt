-- Whether a condition holds, in a world, an action and the open repeats. All its parts are looked at, from left to
-- right. Of nothing every condition is false in front of a `not`, but that nothing is nothing.
use Rattle.std.specs.Prelude.{ℕ, ℤ, int_le, int_lt, Bool, false, not, ◌&&◌, ◌||◌, Option, None, Some, Ok}
use Rattle.std.specs.List.{list_any}
use Rattle.std.specs.Ordering.{int_eq}
use Rattle.world_meaning.specs.declared.place.Rel.TheVariants.{Carried, Worn}
use Rattle.play_meaning.specs.Attempts.{Attempt, next}
use Rattle.play_meaning.specs.Seeing.{encloses, has_light, is_same}
use Rattle.play_meaning.specs.Settings.{Setting}
use Rattle.play_meaning.specs.Trees.{And, Condition, Encloses, Equals, Happens, Has, HasDescription, InDarkness, IsAtMost, IsHeld, IsHeldByOne, IsLess, IsOne, IsSame, IsSo, Not, Or}
use Rattle.play_meaning.specs.Values.{Scope, is_held, is_one, is_so, number_in, object_in, those}
use Rattle.play_meaning.specs.Worlds.{World, scene_of}

abbrev pub of_some : Option ℕ → (ℕ → Bool) → Bool
of_some None holds = false
of_some (Some o) holds = holds o

abbrev pub of_both : Option ℕ → Option ℕ → (ℕ → ℕ → Bool) → Bool
of_both a b holds = of_some a (λ m. of_some b (λ n. holds m n))

abbrev pub compared : Attempt ℤ → Attempt ℤ → (ℤ → ℤ → Bool) → Attempt Bool
compared a b is_so = next a (λ m. next b (λ n. Ok (is_so m n)))

abbrev pub joined : Attempt Bool → Attempt Bool → (Bool → Bool → Bool) → Attempt Bool
joined a b join = next a (λ x. next b (λ y. Ok (join x y)))

-- the player has what he carries and what he wears; so does anyone
abbrev pub has_thing : World → ℕ → ℕ → Bool
has_thing w holder o = is_held w Carried (Some holder) o || is_held w Worn (Some holder) o

unfoldable pub truth_in : Setting → Scope → World → Condition → Attempt Bool
truth_in s scope w (IsSo o adjective) = Ok (of_some (object_in s scope w o) (is_so s w adjective))
truth_in s scope w (IsOne o description) = Ok (of_some (object_in s scope w o) (is_one s scope w description))
truth_in s scope w (IsSame a b) = Ok (is_same (object_in s scope w a) (object_in s scope w b))
truth_in s scope w (IsHeld o relation holder) = Ok (of_some (object_in s scope w o) (is_held w relation (object_in s scope w holder)))
truth_in s scope w (IsHeldByOne o relation description) = Ok (of_some (object_in s scope w o) (λ n. list_any (λ holder. is_held w relation (Some holder) n) (those s scope w description)))
truth_in s scope w (Has holder o) = Ok (of_both (object_in s scope w holder) (object_in s scope w o) (has_thing w))
truth_in s scope w (Encloses holder o) = Ok (of_both (object_in s scope w holder) (object_in s scope w o) (encloses w))
truth_in s scope w (HasDescription o) = Ok (of_some (object_in s scope w o) s.has_description)
truth_in s scope w (Equals a b) = compared (number_in s scope w a) (number_in s scope w b) int_eq
truth_in s scope w (IsLess a b) = compared (number_in s scope w a) (number_in s scope w b) int_lt
truth_in s scope w (IsAtMost a b) = compared (number_in s scope w a) (number_in s scope w b) int_le
truth_in s scope w (Happens scene) = Ok (scene_of w scene).happens
truth_in s scope w InDarkness = Ok (not (has_light s w))
truth_in s scope w (Not a) = next (truth_in s scope w a) (λ x. Ok (not x))
truth_in s scope w (And a b) = joined (truth_in s scope w a) (truth_in s scope w b) (λ x y. x && y)
truth_in s scope w (Or a b) = joined (truth_in s scope w a) (truth_in s scope w b) (λ x y. x || y)
