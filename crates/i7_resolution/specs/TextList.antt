-- The texts with which a source's sentences describe, in order.
use Rattle.std.specs.Prelude.{ℕ, List, [], ◌∷◌, flat_map, map}
use Rattle.i7_sentences.specs.declared.sentence.Assertion.{Assertion}
use Rattle.i7_sentences.specs.declared.sentence.Assertion.TheVariants as asserts
use Rattle.i7_sentences.specs.declared.sentence.Sentence.{Sentence}
use Rattle.i7_resolution.specs.declared.text_list.TextAt.{TextAt as Lent}

-- a text as it is written, and the line of the sentence that describes with it
pub record TextAt : Type 0 where
  pub line : ℕ
  pub text : List ℕ

abbrev pub texts_asserted : ℕ → Assertion → List TextAt
texts_asserted line (asserts.Description text) = record { line = line; text = text } ∷ []
texts_asserted line (asserts.DescriptionOf object text) = record { line = line; text = text } ∷ []
texts_asserted line _ = []

abbrev pub texts_said : Sentence → List TextAt
texts_said sentence = texts_asserted sentence.line sentence.said

abbrev pub texts_in : List Sentence → List TextAt
texts_in sentences = flat_map texts_said sentences

-- ---- as they are lent

abbrev pub text_lent : Lent → TextAt
text_lent t = record { line = t.line; text = t.text.now }

abbrev pub texts_lent : List Lent → List TextAt
texts_lent texts = map text_lent texts
