-- Which games have one session.
use Rattle.std.specs.Prelude.{◌≡◌, ℕ, List, Option}
use Rattle.play_meaning.specs.Games.{Game}
use Rattle.play_meaning.specs.Sessions.{State, answer_of, opened}

-- The opening of both is the same, and to whatever line is typed, in whatever state, and wherever memory is refused to its commands,
-- both give the same answer, with the same state behind it.
pub record HaveOneSession (g h : Game) : Type 0 where
  pub opening : opened g ≡ opened h
  pub answers : (refused : Option ℕ) (s : State) (line : List ℕ) → answer_of g refused s line ≡ answer_of h refused s line
