-- What names stand for: the first claim of a name tells, and later ones must suit it.
use Rattle.std.specs.Prelude.{◌≡◌, ℕ, Bool, true, false, List, [], ◌∷◌, ◌++◌, flat_map, map, Option, Some, None, bytes_eq, option_map, if◌then◌else◌}
use Rattle.world_meaning.specs.declared.kinds.TheConstants.{KINDS, PROPERTIES}
pub use Rattle.i7_claims.specs.Numbers.{has_name}
use Rattle.i7_claims.specs.Statements.{built_in_keys}
use Rattle.i7_claims.specs.declared.claim.Claim.{Claim}
use Rattle.i7_claims.specs.declared.claim.Fact.{Fact}
use Rattle.i7_claims.specs.declared.claim.Fact.TheVariants.{Stands, Rulebook, Values}
use Rattle.i7_claims.specs.declared.claim.Naming.{Naming}
use Rattle.i7_claims.specs.declared.claim.Standing.{Standing}
use Rattle.i7_claims.specs.declared.claim.Standing.TheVariants as stands
use Rattle.i7_claims.specs.declared.reserved_names.TheConstants.{RESERVED, BOOKS}

abbrev pub naming : Standing → List ℕ → Naming
naming standing name = record { name = name; standing = standing }

-- the names of a property of two, or of one
abbrev pub property_namings : List ℕ → Option (List ℕ) → List Naming
property_namings first None = naming (stands.First None) first ∷ []
property_namings first (Some second) = naming (stands.First (Some second)) first ∷ naming (stands.Second first) second ∷ []

abbrev pub namings_in_row : List ℕ × Option (List ℕ) → List Naming
namings_in_row names = property_namings names.0 names.1

-- what the names of these words, kinds and properties stand for
abbrev pub namings_from : List (List ℕ) → List (List ℕ) → List (List ℕ × Option (List ℕ)) → List Naming
namings_from words kinds properties =
    map (naming stands.Reserved) words
    ++ map (naming stands.Kind) kinds
    ++ flat_map namings_in_row properties
    ++ map (naming stands.Object) built_in_keys

-- what names stand for before any sentence
unfoldable pub built_in_namings : List Naming
built_in_namings = namings_from (map (λ word. word.now) RESERVED) (map (λ kind. kind.0.now) KINDS) (map (λ property. (property.0.now, option_map (λ second. second.now) property.1)) PROPERTIES)

-- what a name stands for among these: the first tells
abbrev pub standing_in : List Naming → List ℕ → Option Standing
standing_in [] name = None
standing_in (n ∷ ns) name = if bytes_eq n.name name then Some n.standing else standing_in ns name

abbrev pub namings_in : Fact → List Naming
namings_in (Stands naming) = naming ∷ []
namings_in _ = []

abbrev pub namings_of : List Claim → List Naming
namings_of claims = flat_map (λ c. namings_in c.fact) claims

abbrev pub is_number : Standing → Bool
is_number stands.Number = true
is_number _ = false

abbrev pub is_variable : Standing → Bool
is_variable stands.Variable = true
is_variable _ = false

-- what is known of a name is that it stands for a number property
abbrev pub is_number_name : Option Standing → Bool
is_number_name None = false
is_number_name (Some standing) = is_number standing

-- or for a variable
abbrev pub is_variable_name : Option Standing → Bool
is_variable_name None = false
is_variable_name (Some standing) = is_variable standing

abbrev pub is_object : Standing → Bool
is_object stands.Object = true
is_object _ = false

-- a property's second name may be left out where it is known
abbrev pub suits_second : Option (List ℕ) → Option (List ℕ) → Bool
suits_second known None = true
suits_second None (Some second) = false
suits_second (Some other) (Some second) = bytes_eq other second

abbrev pub suits_first : Standing → Option (List ℕ) → Bool
suits_first (stands.First known) second = suits_second known second
suits_first _ second = false

abbrev pub is_second_of : Standing → List ℕ → Bool
is_second_of (stands.Second known) first = bytes_eq known first
is_second_of _ first = false

-- a name may be claimed again: an object, a number property, and an either-or property with the same names
abbrev pub suits : Standing → Standing → Bool
suits known (stands.First second) = suits_first known second
suits known (stands.Second first) = is_second_of known first
suits known stands.Number = is_number known
suits known stands.Object = is_object known
suits known _ = false

-- a name that stands for something else already
abbrev pub IsTwice : List Claim → Fact → Type 0
IsTwice before (Stands n) = (known : Standing) × (standing_in (built_in_namings ++ namings_of before) n.name ≡ Some known) × (suits known n.standing ≡ false)
IsTwice before _ = ⊥

-- ---- rulebooks, whose names are apart

-- the names that no sentence gives a rulebook
abbrev pub built_in_books : List (List ℕ)
built_in_books = map (λ book. book.now) BOOKS ++ map (λ word. word.now) RESERVED

abbrev pub books_in : Fact → List (List ℕ)
books_in (Rulebook name) = name ∷ []
books_in _ = []

abbrev pub books_of : List Claim → List (List ℕ)
books_of claims = flat_map (λ c. books_in c.fact) claims

-- a rulebook's name is another's
abbrev pub IsBookTwice : List Claim → Fact → Type 0
IsBookTwice before (Rulebook name) = has_name (built_in_books ++ books_of before) name ≡ true
IsBookTwice before _ = ⊥

-- ---- the lists of values, one for each kind of value

abbrev pub lists_in : Fact → List (List ℕ)
lists_in (Values listing) = listing.kind ∷ []
lists_in _ = []

abbrev pub lists_of : List Claim → List (List ℕ)
lists_of claims = flat_map (λ c. lists_in c.fact) claims

-- a kind of value whose values are listed already
abbrev pub IsListedTwice : List Claim → Fact → Type 0
IsListedTwice before (Values listing) = has_name (lists_of before) listing.kind ≡ true
IsListedTwice before _ = ⊥
