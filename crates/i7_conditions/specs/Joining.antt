-- How words are parted into numbers that `plus`, `minus` and `times` join, told from the last word to the first.
use Rattle.std.specs.Prelude.{ℕ, ◌+◌, ◌-◌, min, Bool, true, false, ◌&&◌, nat_lt, List, [], ◌∷◌, ◌++◌, length, take, map, get_or, is_some, Option, Some, None, if◌then◌else◌}
use Rattle.std.specs.Global.{Vec}
use Rattle.play_meaning.specs.Meant.{by_operator, number_meant, term_meant}
use Rattle.play_meaning.specs.Trees as tree
use Rattle.play_meaning.specs.declared.tree.number.Joined.{Joined}
use Rattle.play_meaning.specs.declared.tree.number.Number.{Number}
use Rattle.play_meaning.specs.declared.tree.number.Operator.{Operator}
use Rattle.i7_conditions.specs.Operators.{is_operator, operator_of}
use Rattle.i7_conditions.specs.Scopes.{Scope}
use Rattle.i7_conditions.specs.TermForms.{term_said}
use Rattle.i7_conditions.specs.Words.{Word}
use Rattle.i7_conditions.specs.declared.found.Found.{Found}
use Rattle.i7_conditions.specs.declared.found.Found.TheVariants.{Read, TooMany, Unread}

-- ---- the column: of each operator, of how many words the first part behind it is

abbrev pub Column : Type 0
Column = List (Option ℕ)

-- what the column tells of the words behind an operator, where so many are left
abbrev pub looked : Column → ℕ → Option ℕ
looked column left = get_or column left None

abbrev pub is_read : {A : Type 0} → Found A → Bool
is_read (Read x) = true
is_read TooMany = true
is_read Unread = false

abbrev pub is_term : Scope → List Word → Bool
is_term s words = is_read (term_said s words)

-- the words in front of an operator are a part, and those behind it are a number
abbrev pub is_end : Scope → Column → List Word → ℕ → List Word → Bool
is_end s column words count rest = is_some (looked column (length rest)) && is_term s (take count words)

-- the shortest part in front, of count words or more; where no name has an operator, it ends at the first
abbrev pub part_from : Scope → Column → List Word → ℕ → List Word → Option ℕ
part_from s column words count [] = None
part_from s column words count (word ∷ rest) =
    if is_operator word then (if is_end s column words count rest then Some count else (if s.has_operators then part_from s column words (count + 1) rest else None))
    else part_from s column words (count + 1) rest

-- of how many words the first part is: of all, if they are one
abbrev pub first_part : Scope → Column → List Word → Option ℕ
first_part s column words = if is_term s words then Some (length words) else part_from s column words 0 words

-- what is told of words by their first
abbrev pub entry : Scope → Column → List Word → Option ℕ
entry s column [] = None
entry s column (word ∷ words) = if is_operator word then first_part s column words else None

abbrev pub column_of : Scope → List Word → Column
column_of s [] = []
column_of s (word ∷ words) = column_of s words ++ entry s (column_of s words) (word ∷ words) ∷ []

-- ---- the parts

-- an operator, and the number behind it
abbrev pub Joint : Type 0
Joint = Operator × tree.Number

abbrev pub joined : Operator → Found tree.Number → Found (List Joint) → Found (List Joint)
joined operator (Read t) (Read joints) = Read ((operator, t) ∷ joints)
joined operator (Read t) TooMany = TooMany
joined operator (Read t) Unread = Unread
joined operator TooMany joints = TooMany
joined operator Unread joints = Unread

abbrev pub part_by : Option Operator → Option ℕ → Option (Operator × ℕ)
part_by None count = None
part_by (Some operator) None = None
part_by (Some operator) (Some count) = Some (operator, count)

abbrev pub and_part : Scope → Option (Operator × ℕ) → List Word → (ℕ → Found (List Joint)) → Found (List Joint)
and_part s None rest next = Unread
and_part s (Some part) rest next = joined part.0 (term_said s (take (min part.1 (length rest)) rest)) (next part.1)

-- the operators and the parts behind them, where so many words are passed over first
abbrev pub follow : Scope → Column → ℕ → List Word → Found (List Joint)
follow s column left [] = Read []
follow s column left (word ∷ rest) =
    if nat_lt 0 left then follow s column (left - 1) rest
    else and_part s (part_by (operator_of word) (looked column (length rest))) rest (λ count. follow s column count rest)

-- ---- the number

-- operators bind alike, and to the right
abbrev pub chain : tree.Number → List Joint → tree.Number
chain first [] = first
chain first (joint ∷ joints) = by_operator joint.0 first (chain joint.1 joints)

abbrev pub chained : Found tree.Number → Found (List Joint) → Found tree.Number
chained (Read t) (Read joints) = Read (chain t joints)
chained (Read t) TooMany = TooMany
chained (Read t) Unread = Unread
chained TooMany joints = TooMany
chained Unread joints = Unread

abbrev pub number_from : Scope → Column → Option ℕ → List Word → Found tree.Number
number_from s column None words = Unread
number_from s column (Some count) words = chained (term_said s (take (min count (length words)) words)) (follow s column count words)

unfoldable pub number_said : Scope → List Word → Found tree.Number
number_said s words = number_from s (column_of s words) (first_part s (column_of s words) words) words

-- ---- as they are kept

abbrev pub joint_of : Joined → Joint
joint_of j = (j.operator, term_meant j.term)

abbrev pub joints_of : List Joined → List Joint
joints_of joined = map joint_of joined

abbrev pub found_number : Found Number → Found tree.Number
found_number (Read n) = Read (number_meant n)
found_number TooMany = TooMany
found_number Unread = Unread

abbrev pub found_joints : Found (Vec Joined) → Found (List Joint)
found_joints (Read parts) = Read (joints_of parts.items)
found_joints TooMany = TooMany
found_joints Unread = Unread

-- behind joints that are read already
abbrev pub onto : List Joint → Found (List Joint) → Found (List Joint)
onto done (Read joints) = Read (done ++ joints)
onto done TooMany = TooMany
onto done Unread = Unread

-- what comes of a part that is read, of so many words, or is not
abbrev pub added_to : Found ℕ → List Joint → (ℕ → Found (List Joint)) → Found (List Joint)
added_to (Read count) done next = onto done (next count)
added_to TooMany done next = TooMany
added_to Unread done next = Unread
