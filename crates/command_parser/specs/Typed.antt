-- Words as they are handed in.
use Rattle.std.specs.Prelude.{ℕ, List, map}
use Rattle.std.specs.Borrow.{Bor}

abbrev pub typed : List (Bor (List ℕ)) → List (List ℕ)
typed words = map (λ word. word.now) words
