-- The sentences of a source that say when scenes begin and end, in order.
use Rattle.std.specs.Prelude.{ℕ, List, [], ◌∷◌, flat_map, map}
use Rattle.i7_sentences.specs.declared.scene_change.SceneChange.{SceneChange}
use Rattle.i7_sentences.specs.declared.sentence.Assertion.{Assertion}
use Rattle.i7_sentences.specs.declared.sentence.Assertion.TheVariants as asserts
use Rattle.i7_sentences.specs.declared.sentence.Sentence.{Sentence}
use Rattle.i7_resolution.specs.declared.scene_change_list.ChangeAt.{ChangeAt as Lent}

-- what a sentence says of a scene, and its line
pub record ChangeAt : Type 0 where
  pub line : ℕ
  pub said : SceneChange

abbrev pub changes_asserted : ℕ → Assertion → List ChangeAt
changes_asserted line (asserts.SceneChange said) = record { line = line; said = said } ∷ []
changes_asserted line _ = []

abbrev pub changes_said : Sentence → List ChangeAt
changes_said sentence = changes_asserted sentence.line sentence.said

abbrev pub changes_in : List Sentence → List ChangeAt
changes_in sentences = flat_map changes_said sentences

-- a sentence, and those before it, the last first
pub record Placed : Type 0 where
  pub change : ChangeAt
  pub before : List ChangeAt

-- each of these sentences, the last first, with those before it
abbrev pub placed : List ChangeAt → List Placed
placed [] = []
placed (change ∷ before) = record { change = change; before = before } ∷ placed before

-- ---- as they are lent

abbrev pub change_lent : Lent → ChangeAt
change_lent l = record { line = l.line; said = l.said.now }

abbrev pub changes_lent : List Lent → List ChangeAt
changes_lent changes = map change_lent changes
