-- The number that digits spell only grows with each of them.
use Rattle.std.proofs.Common.{◌≡◌, ℕ, ◌<◌, ◌≤◌, List, [], ◌∷◌, arith}
use Rattle.std.specs.Prelude.{fold}
use Rattle.world_meaning.specs.Literals.{with_digit}

pub fold_grows : (n : ℕ) (digits : List ℕ) → n ≤ fold with_digit n digits
fold_grows n [] = omega arith
fold_grows n (digit ∷ digits) =
    let more : with_digit n digit ≤ fold with_digit (with_digit n digit) digits = fold_grows (with_digit n digit) digits
    in omega (arith, more)

-- a number that is past the most stays so
pub stays_past : (n most digit all : ℕ) (digits : List ℕ) → most < with_digit n digit → fold with_digit n (digit ∷ digits) ≡ all → most < all
stays_past n most digit all digits past same =
    let more : with_digit n digit ≤ fold with_digit (with_digit n digit) digits = fold_grows (with_digit n digit) digits
    in omega (arith, more, past, same)
