-- What joins two numbers.
use Rattle.std.specs.Prelude.{ℕ, Bool, ◌==◌, List, [], ◌∷◌, Option, Some, None, codes, is_some, if◌then◌else◌}
use Rattle.std.specs.List.{list_any, slice_split}
use Rattle.world_meaning.specs.Spelling.{is_spelled}
use Rattle.play_meaning.specs.declared.tree.number.Operator.{Operator}
use Rattle.play_meaning.specs.declared.tree.number.Operator.TheVariants.{Plus, Minus, Times}

unfoldable pub operator_of : List ℕ → Option Operator
operator_of word = if is_spelled word (codes "plus") then Some Plus else (if is_spelled word (codes "minus") then Some Minus else (if is_spelled word (codes "times") then Some Times else None))

abbrev pub is_operator : List ℕ → Bool
is_operator word = is_some (operator_of word)

abbrev pub is_blank : ℕ → Bool
is_blank b = b == 32

-- one of the words of a name, which are parted by blanks, is an operator
abbrev pub holds_operator : List ℕ → Bool
holds_operator name = list_any is_operator (slice_split is_blank name)

abbrev pub behind_operator : Option Operator → List (List ℕ) → Option (Operator × List (List ℕ))
behind_operator None rest = None
behind_operator (Some operator) rest = Some (operator, rest)

-- the operator with which words begin, and the words behind it
abbrev pub operator_at : List (List ℕ) → Option (Operator × List (List ℕ))
operator_at [] = None
operator_at (word ∷ rest) = behind_operator (operator_of word) rest
