-- What is said to a line so far, and how many more texts of the player's own there is room for.
use Rattle.std.specs.Prelude.{ℕ, ◌*◌, List}

pub record LineText : Type 0 where
  pub said : List ℕ
  pub left : ℕ

-- the most commands of a line
abbrev pub most_commands : ℕ
most_commands = 128

-- the most bytes of a text of the player's own
abbrev pub longest_fixed : ℕ
longest_fixed = 48

-- what such texts take, each with a line break in front of it
abbrev pub room_for : ℕ → ℕ
room_for left = left * 49
