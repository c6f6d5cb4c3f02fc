-- The numbers of the rulebooks that every story has, as docs/story-format.md lists them: before, instead, check, carry out, after,
-- report, every turn, when play begins, and when the first scene begins and ends.
use Rattle.std.specs.Prelude.{ℕ, List, [], ◌∷◌}

abbrev pub written_books : List ℕ
written_books = 0 ∷ 1 ∷ 2 ∷ 3 ∷ 4 ∷ 5 ∷ 6 ∷ 7 ∷ 8 ∷ 9 ∷ []
