-- The texts with which sentences describe, as they are written.
use Rattle.std.specs.Prelude.{◌≡◌, ℕ, List, ◌∷◌, ◌++◌, Ok, Some}
use Rattle.world_meaning.specs.Tale.{description_of}
use Rattle.world_meaning.specs.declared.tale.Tale.{Tale}
use Rattle.i7_sentences.specs.declared.sentence.Assertion.{Assertion}
use Rattle.i7_sentences.specs.declared.sentence.Assertion.TheVariants.{Description, DescriptionOf}
use Rattle.i7_sentences.specs.declared.sentence.Sentence.{Sentence}
use Rattle.i7_kinds.specs.Tales.{tale_said}

-- what is asserted describes with this text
abbrev pub DescribesWith : List ℕ → Assertion → Type 0
DescribesWith text (Description other) = other ≡ text
DescribesWith text (DescriptionOf object other) = other ≡ text
DescribesWith text _ = ⊥

-- one of the sentences describes with this text
pub record IsWritten (sentences : List Sentence) (text : List ℕ) : Type 0 where
  pub before : List Sentence
  pub sentence : Sentence
  pub rest : List Sentence
  pub parts : sentences ≡ before ++ sentence ∷ rest
  pub describes : DescribesWith text sentence.said

-- the description of an object of a tale stands in one of the sentences that mean it
abbrev pub DescriptionsAreWritten : Type 0
DescriptionsAreWritten = (sentences : List Sentence) (tale : Tale) (o : ℕ) (text : List ℕ) → tale_said sentences ≡ Ok tale → description_of tale o ≡ Some text → IsWritten sentences text
