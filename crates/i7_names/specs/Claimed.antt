-- What is claimed of names, and that names stand for what is claimed of them.
use Rattle.std.specs.Prelude.{◌≡◌, ◌≢◌, ◌⊎◌, ℕ, List, [], ◌∷◌, ◌++◌, None}
use Rattle.i7_sentences.specs.declared.sentence.Sentence.{Sentence}
use Rattle.i7_conditions.specs.Meanings.{Meanings}
use Rattle.i7_claims.specs.Claims.{claims_of}
use Rattle.i7_claims.specs.Standings.{built_in_namings, namings_of}
use Rattle.i7_claims.specs.declared.claim.Naming.{Naming}
use Rattle.i7_names.specs.Meant.{meaning_as}
use Rattle.i7_names.specs.Numbering.{Numbering}

abbrev pub IsAmong : Naming → List Naming → Type 0
IsAmong x [] = ⊥
IsAmong x (y ∷ ys) = (x ≡ y) ⊎ IsAmong x ys

-- what is claimed before any sentence, and then by sentences
abbrev pub claimed_in : List Sentence → List Naming
claimed_in sentences = built_in_namings ++ namings_of (claims_of sentences)

-- each name stands for what is claimed of it, by its number, and others stand for nothing
pub record AreAsClaimed (n : Numbering) (namings : List Naming) (meanings : Meanings) : Type 0 where
  pub claimed : (x : Naming) → IsAmong x namings → meanings x.name ≡ meaning_as n x.name x.standing
  pub unclaimed : (name : List ℕ) → ((x : Naming) → IsAmong x namings → x.name ≢ name) → meanings name ≡ None
