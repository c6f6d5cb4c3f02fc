-- A word between two objects, as `carries` in `Bob carries the ball` and `to` in `move the ball to the box`.
use Rattle.std.specs.Prelude.{◌≡◌, ℕ, ◌+◌, ◌<◌, min, Bool, true, ◌&&◌, ◌||◌, List, [], ◌∷◌, length, take, drop, Option, Some, None, if◌then◌else◌}
use Rattle.world_meaning.specs.Spelling.{is_spelled}
use Rattle.play_meaning.specs.Meant.{object_meant}
use Rattle.play_meaning.specs.Trees.{Object}
use Rattle.play_meaning.specs.declared.tree.object.Referent.{Referent}
use Rattle.i7_conditions.specs.Joining.{is_read}
use Rattle.i7_conditions.specs.Objects.{Means}
use Rattle.i7_conditions.specs.Predicates.{is_deep, object_said}
use Rattle.i7_conditions.specs.Readings.{two}
use Rattle.i7_conditions.specs.Scopes.{Scope}
use Rattle.i7_conditions.specs.Words.{Word}
use Rattle.i7_conditions.specs.declared.found.Found.{Found}
use Rattle.i7_conditions.specs.declared.found.Found.TheVariants.{Read, TooMany, Unread}

-- the object in front, and the one behind
abbrev pub Both : Type 0
Both = Object × Object

-- the word behind n words, with an object in front and one behind; these are all the words
pub record StandsAt (s : Scope) (word : List ℕ) (words : List Word) (n : ℕ) (both : Both) : Type 0 where
  pub found : Word
  pub rest : List Word
  pub at : drop n words ≡ found ∷ rest
  pub is : is_spelled found word ≡ true
  pub front : Means s (take n words) both.0
  pub behind : Means s rest both.1

-- names may hold the word: the shortest first part is meant
pub record IsParted (s : Scope) (word : List ℕ) (words : List Word) (both : Both) : Type 0 where
  pub n : ℕ
  pub stands : StandsAt s word words n both
  pub shortest : (k : ℕ) → k < n → (other : Both) → StandsAt s word words k other → ⊥

-- more than 8 `from`s within one another
abbrev pub is_one_deep : Both → Bool
is_one_deep both = is_deep both.0 || is_deep both.1

-- ---- by their words: the first place where the word fits

abbrev pub pair : Object → Object → Both
pair front behind = (front, behind)

-- objects stand in front of the word and behind it
abbrev pub fits : Scope → List ℕ → List Word → ℕ → Word → List Word → Bool
fits s word words count found rest = is_spelled found word && (is_read (object_said s (take count words)) && is_read (object_said s rest))

-- the first place of count or more where the word fits
abbrev pub place_from : Scope → List ℕ → List Word → ℕ → List Word → Option ℕ
place_from s word words count [] = None
place_from s word words count (found ∷ rest) = if fits s word words count found rest then Some count else place_from s word words (count + 1) rest

abbrev pub around_word : Scope → List Word → List Word → Found Both
around_word s front [] = Unread
around_word s front (found ∷ rest) = two pair (object_said s front) (object_said s rest)

abbrev pub parted_at : Scope → List Word → Option ℕ → Found Both
parted_at s words None = Unread
parted_at s words (Some count) = around_word s (take (min count (length words)) words) (drop (min count (length words)) words)

unfoldable pub parted_said : Scope → List ℕ → List Word → Found Both
parted_said s word words = parted_at s words (place_from s word words 0 words)

-- ---- as they are kept

abbrev pub found_both : Found (Referent × Referent) → Found Both
found_both (Read both) = Read (object_meant both.0, object_meant both.1)
found_both TooMany = TooMany
found_both Unread = Unread
