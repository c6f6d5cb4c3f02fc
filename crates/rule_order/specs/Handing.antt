-- The same rules handed in in another order: the order of a rulebook is the same, as long as rules that are equally specific
-- are handed in one before the other as they were.
use Rattle.std.specs.Prelude.{◌≡◌, ℕ, ◌<◌, List, Some, slice_get}
use Rattle.play_meaning.specs.Order.{key_by}
use Rattle.play_meaning.specs.Rules.{InOrder, Rule}
use Rattle.play_meaning.specs.Settings.{Setting}

-- each rule of some stands among others by its new number, and each of these has an old one
pub record IsRenumbered (renewed old : ℕ → ℕ) (rules others : List Rule) : Type 0 where
  pub there : (n : ℕ) → slice_get others (renewed n) ≡ slice_get rules n
  pub back : (n : ℕ) → old (renewed n) ≡ n
  pub forth : (n : ℕ) → renewed (old n) ≡ n

-- two rules are equally specific where their keys would be equal, had they one number
abbrev pub AreTied : Setting → Rule → Rule → Type 0
AreTied s rule other = key_by s 0 rule InOrder ≡ key_by s 0 other InOrder

-- of two rules of one rulebook that are in order and equally specific the first stays the first
abbrev pub KeepsTies : Setting → List Rule → (ℕ → ℕ) → Type 0
KeepsTies s rules renewed =
    (m n : ℕ) (rule other : Rule) → slice_get rules m ≡ Some rule → slice_get rules n ≡ Some other → rule.book ≡ other.book
    → rule.listed ≡ InOrder → other.listed ≡ InOrder → AreTied s rule other → m < n → renewed m < renewed n
