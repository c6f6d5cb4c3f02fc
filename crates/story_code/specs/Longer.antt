-- Texts to which something is added.
use Rattle.std.specs.Prelude.{◌≡◌, ℕ, List, ◌++◌}

-- what was said stands there still, with something behind it, or nothing
pub record IsLonger (before after : List ℕ) : Type 0 where
  pub more : List ℕ
  pub is : after ≡ before ++ more
