-- What a substitution of a text says (*Writing with Inform*, chapter 5): of the readings that the names allow the first listed is meant.
use Rattle.std.specs.Prelude.{◌≡◌, ℕ, Bool, false, ◌&&◌, ◌||◌, List, [], ◌∷◌, Option, None, Some, codes, if◌then◌else◌}
use Rattle.std.specs.Char.{is_ascii_uppercase}
use Rattle.world_meaning.specs.Spelling.{is_article, is_spelled}
use Rattle.play_meaning.specs.Trees as tree
use Rattle.play_meaning.specs.declared.naming.Naming.{Naming}
use Rattle.play_meaning.specs.declared.naming.Naming.TheVariants.{CapitalDefinite, CapitalIndefinite, Definite, Indefinite, Plain}
use Rattle.i7_conditions.specs.Describing.{Describes}
use Rattle.i7_conditions.specs.Numbers.{CountsAs}
use Rattle.i7_conditions.specs.Objects.{Means}
use Rattle.i7_conditions.specs.Predicates.{is_deep, is_long}
use Rattle.i7_conditions.specs.Readings.{FirstOf}
use Rattle.i7_conditions.specs.Scopes.{Scope}
use Rattle.i7_conditions.specs.Terms.{is_over}
use Rattle.i7_conditions.specs.Values.{kind_and_object}
use Rattle.i7_conditions.specs.Words.{Word}

-- what a text says outside its ifs
pub data Piece : Type 0 where
  Bytes : List ℕ → Piece
  -- a number in digits
  Figure : tree.Number → Piece
  Name : Naming → tree.Object → Piece
  -- the names of the objects that a description means
  Listing : Naming → tree.Description → Piece
  DescriptionOf : tree.Object → Piece
  -- the name of an object's value of a kind of value
  ValueName : ℕ → tree.Object → Piece

-- more than 9 adjectives, or more than 8 `from`s within one another
abbrev pub piece_is_over : Piece → Bool
piece_is_over (Bytes bytes) = false
piece_is_over (Figure number) = is_over number
piece_is_over (Name naming o) = is_deep o
piece_is_over (Listing naming description) = is_long description
piece_is_over (DescriptionOf o) = is_deep o
piece_is_over (ValueName q o) = is_deep o

-- ---- names

-- the case of the first letter tells `[The O]` and `[A O]`
abbrev pub is_capital : Word → Bool
is_capital [] = false
is_capital (b ∷ bytes) = is_ascii_uppercase b

-- how an object is told of behind this word, if it is `the`, `a` or `an`
unfoldable pub naming_of : Word → Option Naming
naming_of word =
    if is_spelled word (codes "the") then Some (if is_capital word then CapitalDefinite else Definite)
    else (if is_spelled word (codes "a") || is_spelled word (codes "an") then Some (if is_capital word then CapitalIndefinite else Indefinite) else None)

abbrev pub begins_with_article : List Word → Bool
begins_with_article [] = false
begins_with_article (word ∷ words) = is_article word

abbrev pub Telling : Type 0
Telling = Naming × List Word

-- no other article stands in front of the name
abbrev pub told_by : Naming → List Word → Option Telling
told_by naming words = if begins_with_article words then None else Some (naming, words)

abbrev pub told_behind : Option Naming → Word → List Word → Option Telling
told_behind None word words = told_by Plain (word ∷ words)
told_behind (Some naming) word words = told_by naming words

-- how an object is told of, and the words that name it: `O`, `the O`, `The O`, `a O`, `A O`
abbrev pub telling_in : List Word → Option Telling
telling_in [] = told_by Plain []
telling_in (word ∷ words) = told_behind (naming_of word) word words

-- ---- lists and descriptions

-- the words behind this one and `of`
abbrev pub behind_of : List ℕ → List Word → Option (List Word)
behind_of name (first ∷ second ∷ words) = if is_spelled first name && is_spelled second (codes "of") then Some words else None
behind_of name _ = None

abbrev pub listed_by : Naming → Option (List Word) → Option Telling
listed_by naming None = None
listed_by naming (Some words) = Some (naming, words)

-- how objects are told of in a list, and the words that describe them: `list of D`, `a list of D`, `the list of D`
abbrev pub listing_in : List Word → Option Telling
listing_in [] = None
listing_in (word ∷ words) =
    if is_spelled word (codes "a") then listed_by Indefinite (behind_of (codes "list") words)
    else (if is_spelled word (codes "the") then listed_by Definite (behind_of (codes "list") words) else listed_by Plain (behind_of (codes "list") (word ∷ words)))

-- ---- which of them words are

-- a number, one article in front being free
abbrev pub IsFigure : Scope → List Word → Piece → Type 0
IsFigure s words piece = (n : tree.Number) × CountsAs s words n × (piece ≡ Figure n)

abbrev pub IsName : Scope → List Word → Piece → Type 0
IsName s words piece = (t : Telling) × (telling_in words ≡ Some t) × ((o : tree.Object) × Means s t.1 o × (piece ≡ Name t.0 o))

abbrev pub IsListing : Scope → List Word → Piece → Type 0
IsListing s words piece = (t : Telling) × (listing_in words ≡ Some t) × ((d : tree.Description) × Describes s t.1 d × (piece ≡ Listing t.0 d))

-- `description of O`
abbrev pub IsDescription : Scope → List Word → Piece → Type 0
IsDescription s words piece = (rest : List Word) × (behind_of (codes "description") words ≡ Some rest) × ((o : tree.Object) × Means s rest o × (piece ≡ DescriptionOf o))

-- `KIND of O`, one article in front being free
abbrev pub IsValueName : Scope → List Word → Piece → Type 0
IsValueName s words piece = (parts : ℕ × List Word) × (kind_and_object s words ≡ Some parts) × ((o : tree.Object) × Means s parts.1 o × (piece ≡ ValueName parts.0 o))

unfoldable pub Substitutes : Scope → List Word → Piece → Type 0
Substitutes s words = FirstOf (IsFigure s words) (FirstOf (IsName s words) (FirstOf (IsListing s words) (FirstOf (IsDescription s words) (IsValueName s words))))
