-- Which kinds have each property: the built-in ones, and those to which sentences give it.
use Rattle.std.specs.Prelude.{ℕ, ◌+◌, ◌==◌, List, [], ◌∷◌, ◌++◌, flat_map, map, if◌then◌else◌}
use Rattle.world_meaning.specs.Declarations.{is_among}
use Rattle.world_meaning.specs.declared.declared.Granted.{Granted}
use Rattle.world_meaning.specs.declared.kinds.TheConstants.{PROPERTIES}
use Rattle.i7_claims.specs.Statements.{number_in}
use Rattle.i7_claims.specs.declared.claim.Claim.{Claim}
use Rattle.i7_claims.specs.declared.claim.Fact.{Fact}
use Rattle.i7_claims.specs.declared.claim.Fact.TheVariants.{CanBe, HasNumber, HasValue}
use Rattle.i7_kinds.specs.declared.grants.Given.{Given}

-- of each built-in property the kinds that have it
unfoldable pub built_in_bases : List (List ℕ)
built_in_bases = map (λ property. property.2.now) PROPERTIES

abbrev pub first_base : List (List ℕ) → List ℕ
first_base [] = []
first_base (base ∷ bases) = base

abbrev pub other_bases : List (List ℕ) → List (List ℕ)
other_bases [] = []
other_bases (base ∷ bases) = bases

-- the property and the kind that a fact gives it to, by their numbers
abbrev pub givens_in : List (List ℕ) → List (List ℕ) → Fact → List Given
givens_in properties kinds (CanBe g) = record { property = number_in properties g.property; kind = number_in kinds g.kind } ∷ []
givens_in properties kinds (HasNumber g) = record { property = number_in properties g.property; kind = number_in kinds g.kind } ∷ []
givens_in properties kinds (HasValue g) = record { property = number_in properties g.property; kind = number_in kinds g.kind } ∷ []
givens_in properties kinds _ = []

abbrev pub givens_of : List (List ℕ) → List (List ℕ) → List Claim → List Given
givens_of properties kinds claims = flat_map (λ c. givens_in properties kinds c.fact) claims

abbrev pub kind_given : ℕ → Given → List ℕ
kind_given property given = if given.property == property then given.kind ∷ [] else []

-- the kinds to which sentences give a property
abbrev pub kinds_given : ℕ → List Given → List ℕ
kinds_given property givens = flat_map (kind_given property) givens

-- those of the kinds, counted from n, that are among these
abbrev pub rising_of : {X : Type 0} → List ℕ → ℕ → List X → List ℕ
rising_of among n [] = []
rising_of among n (x ∷ xs) = if is_among n among then n ∷ rising_of among (n + 1) xs else rising_of among (n + 1) xs

abbrev pub flag_of : {X : Type 0} → List X → List Given → ℕ → List ℕ → Granted
flag_of kinds givens property base = record { kinds = rising_of (base ++ kinds_given property givens) 0 kinds }

-- the properties of these names, of which the first have these kinds already
abbrev pub flags_from : {X : Type 0} → List X → List Given → ℕ → List (List ℕ) → List (List ℕ) → List Granted
flags_from kinds givens property bases [] = []
flags_from kinds givens property bases (name ∷ names) = flag_of kinds givens property (first_base bases) ∷ flags_from kinds givens (property + 1) (other_bases bases) names
