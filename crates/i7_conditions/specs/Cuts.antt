-- Words that are adjectives, each by its name, and then a kind; and which of their readings is meant.
use Rattle.std.specs.Prelude.{◌≡◌, ℕ, ◌<◌, List, [], ◌∷◌, take, drop, Option, Some, None}
use Rattle.play_meaning.specs.declared.tree.object.Adjective.{Adjective}
use Rattle.i7_conditions.specs.Adjectives.{adjective_named, kind_named}
use Rattle.i7_conditions.specs.Scopes.{Scope}
use Rattle.i7_conditions.specs.Words.{Word}
use Rattle.i7_conditions.specs.declared.front.Front.{Front}

pub data IsCut (s : Scope) : List Word → List Adjective → ℕ → Type 0 where
  kind : {words : List Word} {k : ℕ} → kind_named s words ≡ Some k → IsCut s words [] k
  more : {words : List Word} {a : Adjective} {others : List Adjective} {k : ℕ} → (n : ℕ) → adjective_named s (take n words) ≡ Some a
      → IsCut s (drop n words) others k → IsCut s words (a ∷ others) k

abbrev pub CanBeCut : Scope → List Word → Type 0
CanBeCut s words = (adjectives : List Adjective) × (k : ℕ) × IsCut s words adjectives k

-- no shorter first part is an adjective behind which the rest can be cut
abbrev pub IsShortest : Scope → List Word → ℕ → Type 0
IsShortest s words n = (m : ℕ) → m < n → (a : Adjective) → adjective_named s (take m words) ≡ Some a → CanBeCut s (drop m words) → ⊥

-- of the readings a kind that is all the words is meant, and then the one with the shortest first adjective
pub data IsMeant (s : Scope) : List Word → List Adjective → ℕ → Type 0 where
  kind : {words : List Word} {k : ℕ} → kind_named s words ≡ Some k → IsMeant s words [] k
  more : {words : List Word} {a : Adjective} {others : List Adjective} {k : ℕ} → (n : ℕ) → kind_named s words ≡ None → adjective_named s (take n words) ≡ Some a → IsShortest s words n
      → IsMeant s (drop n words) others k → IsMeant s words (a ∷ others) k

abbrev pub IsFrontFound : Scope → List Word → Option Front → Type 0
IsFrontFound s words (Some front) = IsMeant s words front.adjectives front.kind
IsFrontFound s words None = CanBeCut s words → ⊥
