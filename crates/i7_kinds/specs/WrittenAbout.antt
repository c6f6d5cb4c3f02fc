-- What sentences are about, and that the sentence in which a description stands describes the object that has it.
use Rattle.std.specs.Prelude.{◌≡◌, ℕ, List, [], ◌∷◌, ◌++◌, Ok, Some}
use Rattle.world_meaning.specs.Kinds.{Under, room_kind}
use Rattle.world_meaning.specs.Tale.{description_of, object_at}
use Rattle.world_meaning.specs.declared.place.Rel.{Rel}
use Rattle.world_meaning.specs.declared.place.Rel.TheVariants.{Carried, Worn}
use Rattle.world_meaning.specs.declared.tale.Object.{Object}
use Rattle.world_meaning.specs.declared.tale.Tale.{Tale}
use Rattle.i7_sentences.specs.declared.name.Name.{Name}
use Rattle.i7_sentences.specs.declared.sentence.Assertion.{Assertion}
use Rattle.i7_sentences.specs.declared.sentence.Assertion.TheVariants.{Are, Description, DescriptionOf, Door, Holds, Way}
use Rattle.i7_sentences.specs.declared.sentence.Sentence.{Sentence}
use Rattle.i7_claims.specs.Statements.{Named, named_by, number_of}
use Rattle.i7_kinds.specs.FirstShown.{IsShown}
use Rattle.i7_kinds.specs.Tales.{tale_said}

-- one name alone, which stands for the object of this number
abbrev pub IsOneName : Named → ℕ → List Name → Type 0
IsOneName named o names = (name : Name) × (names ≡ name ∷ []) × (number_of named name ≡ o)

-- a holding is about who carries or wears, and else about what is held
abbrev pub IsHoldingAbout : Named → ℕ → Rel → Name → List Name → Type 0
IsHoldingAbout named o Carried holder things = number_of named holder ≡ o
IsHoldingAbout named o Worn holder things = number_of named holder ≡ o
IsHoldingAbout named o _ holder things = IsOneName named o things

-- what is asserted is about an object
abbrev pub IsAbout : Named → ℕ → Assertion → Type 0
IsAbout named o (Are being) = IsOneName named o being.subjects
IsAbout named o (Way way) = number_of named way.subject ≡ o
IsAbout named o (Door door first second) = number_of named door ≡ o
IsAbout named o (Holds holder relation things) = IsHoldingAbout named o relation holder things
IsAbout named o _ = ⊥

-- the last of these sentences is about this object
pub record LastIsAbout (named : Named) (o : ℕ) (sentences : List Sentence) : Type 0 where
  pub earlier : List Sentence
  pub last : Sentence
  pub parts : sentences ≡ earlier ++ last ∷ []
  pub about : IsAbout named o last.said

-- an object of a tale is a room
abbrev pub IsRoomOf : Tale → ℕ → Type 0
IsRoomOf tale o = (object : Object) × (object_at tale o ≡ Some object) × Under tale.declared.kinds object.kind room_kind

-- what is asserted behind these sentences describes an object of a tale with a text: it names the object, or is the text
-- alone, and the sentence before it is about the object, which is a room
abbrev pub DescribesObject : Named → Tale → ℕ → List ℕ → List Sentence → Assertion → Type 0
DescribesObject named tale o text before (DescriptionOf object other) = (number_of named object ≡ o) × (other ≡ text)
DescribesObject named tale o text before (Description other) = LastIsAbout named o before × IsRoomOf tale o × (other ≡ text)
DescribesObject named tale o text before _ = ⊥

-- one of the sentences that mean a tale describes the object with the description that it has in the tale
abbrev pub DescriptionsAreAbout : Type 0
DescriptionsAreAbout =
    (sentences : List Sentence) (tale : Tale) (o : ℕ) (text : List ℕ) → tale_said sentences ≡ Ok tale → description_of tale o ≡ Some text
    → IsShown (λ before s. DescribesObject (named_by sentences) tale o text before s.said) sentences

-- and an object of a tale has no other description than that with which any of the sentences describes it
abbrev pub DescriptionsAreThoseSaid : Type 0
DescriptionsAreThoseSaid =
    (sentences : List Sentence) (tale : Tale) (o : ℕ) (object : Object) (text : List ℕ) → tale_said sentences ≡ Ok tale → object_at tale o ≡ Some object
    → IsShown (λ before s. DescribesObject (named_by sentences) tale o text before s.said) sentences → object.description ≡ Some text
