-- Which number words are that isn't joined of others.
use Rattle.std.specs.Prelude.{◌≡◌, ℕ, ℤ, ◌<◌, Bool, true, false, not, nat_lt, ◌||◌, List, [], ◌∷◌, Option, Some, None, codes}
use Rattle.std.specs.List.{list_any}
use Rattle.play_meaning.specs.Trees.{CountOf, Description, Literal, Minus, Number, Object, Plus, PropertyOf, Times, TurnCount, Variable}
use Rattle.i7_conditions.specs.Describing.{Describes, adjectives_in, froms_in}
use Rattle.i7_conditions.specs.Keys.{is_named, property_named, split_of, variable_named}
use Rattle.world_meaning.specs.Literals.{literal_in}
use Rattle.i7_conditions.specs.Objects.{Means, froms}
use Rattle.i7_conditions.specs.Operators.{is_operator}
use Rattle.i7_conditions.specs.Scopes.{Scope}
use Rattle.i7_conditions.specs.Words.{Word}
use Rattle.i7_conditions.specs.declared.found.Found.{Found}
use Rattle.i7_conditions.specs.declared.found.Found.TheVariants.{Read, TooMany, Unread}

-- a literal is one word
abbrev pub literal_said : List Word → Option ℤ
literal_said [] = None
literal_said (word ∷ []) = literal_in word
literal_said (word ∷ other ∷ words) = None

-- the forms of a number, by their places in the list
pub data IsTerm (s : Scope) : List Word → ℕ → Number → Type 0 where
  literal : {words : List Word} {n : ℤ} → literal_said words ≡ Some n → IsTerm s words 0 (Literal n)
  variable : {words : List Word} {v : ℕ} → variable_named s words ≡ Some v → IsTerm s words 1 (Variable v)
  -- `the PROPERTY of OBJECT`
  property : {words name object : List Word} {p : ℕ} {o : Object} → split_of words ≡ Some (name, object) → property_named s name ≡ Some p → Means s object o → IsTerm s words 2 (PropertyOf p o)
  -- `the number of DESCRIPTION`
  count : {words name those : List Word} {d : Description} → split_of words ≡ Some (name, those) → is_named (codes "number") name ≡ true → Describes s those d → IsTerm s words 3 (CountOf d)
  turns : {words : List Word} → is_named (codes "turn count") words ≡ true → IsTerm s words 4 TurnCount

-- `plus`, `minus` or `times` stands in a part of a number only as a word of some name
abbrev pub can_stand : Scope → List Word → Bool
can_stand s words = s.has_operators || not (list_any is_operator words)

-- the first of the forms that words have is meant
pub record IsTermMeant (s : Scope) (words : List Word) (t : Number) : Type 0 where
  pub stands : can_stand s words ≡ true
  pub form : ℕ
  pub is_term : IsTerm s words form t
  pub first : (lower : ℕ) → lower < form → (other : Number) → IsTerm s words lower other → ⊥

-- more than 9 adjectives, or more than 8 `from`s within one another
abbrev pub is_over : Number → Bool
is_over (Literal n) = false
is_over (Variable v) = false
is_over (PropertyOf p o) = nat_lt 8 (froms o)
is_over (CountOf d) = nat_lt 9 (adjectives_in d) || nat_lt 8 (froms_in d)
is_over TurnCount = false
is_over (Plus a b) = is_over a || is_over b
is_over (Minus a b) = is_over a || is_over b
is_over (Times a b) = is_over a || is_over b

abbrev pub IsTermFound : Scope → List Word → Found Number → Type 0
IsTermFound s words (Read t) = IsTermMeant s words t × (is_over t ≡ false)
IsTermFound s words TooMany = (t : Number) × IsTermMeant s words t × (is_over t ≡ true)
IsTermFound s words Unread = (t : Number) → IsTermMeant s words t → ⊥
