-- What holds of the order of rulebooks.
use Rattle.std.specs.Prelude.{◌≡◌, ℕ, List, map}
use Rattle.play_meaning.specs.Order.{book_of}
use Rattle.play_meaning.specs.Rules.{Rule}
use Rattle.play_meaning.specs.Settings.{Setting}
use Rattle.rule_order.specs.Books.{AreListedApart, IsInOrder}
use Rattle.rule_order.specs.Handing.{IsRenumbered, KeepsTies}

-- a rulebook has one order
abbrev pub HasOneOrder : Type 0
HasOneOrder =
    (s : Setting) (rules : List Rule) (book : ℕ) (numbers others : List ℕ) → AreListedApart rules
    → IsInOrder s rules book numbers → IsInOrder s rules book others → numbers ≡ others

-- it is the order in which it is consulted
abbrev pub IsConsultedSo : Type 0
IsConsultedSo =
    (s : Setting) (rules : List Rule) (book : ℕ) (numbers : List ℕ) → AreListedApart rules
    → IsInOrder s rules book numbers → numbers ≡ book_of s rules book

-- the order is that of the same rules handed in in another order
abbrev pub HandingIsNothing : Type 0
HandingIsNothing =
    (s : Setting) (rules others : List Rule) (renewed old : ℕ → ℕ) (book : ℕ) (numbers : List ℕ)
    → IsRenumbered renewed old rules others → KeepsTies s rules renewed
    → IsInOrder s rules book numbers → IsInOrder s others book (map renewed numbers)
