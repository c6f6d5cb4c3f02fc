-- Places side by side are apart.
use Rattle.std.proofs.Common.{◌≡◌, ◌∙◌, ap, refl, ℕ, zero, suc, ◌+◌, ◌<◌, ◌++◌, [], ◌∷◌, length, true, false, arith}
use Rattle.std.specs.List.{list_any}
use Rattle.room_map.specs.Spots.{are_apart, is_same_spot, row_of}
use Rattle.room_map.specs.declared.spot.Spot.{Spot}

abbrev spot_at : ℕ → Spot
spot_at c = record { column = c; row = 0 }

up : (n : ℕ) → n + 1 ≡ suc n
up n = omega arith

-- a row that is one longer has one place more behind the others
pub row_more : (c n : ℕ) → row_of c (n + 1) ≡ row_of c n ++ record { column = c + n; row = 0 } ∷ []
row_more c n = ap (row_of c) (up n) ∙ by c n
  where
    by : (c n : ℕ) → row_of c (suc n) ≡ row_of c n ++ spot_at (c + n) ∷ []
    by c zero = ap (λ k. spot_at k ∷ []) (omega arith)
    by c (suc n) = ap (λ spots. spot_at c ∷ spots) (by (c + 1) n) ∙ ap (λ k. spot_at c ∷ row_of (c + 1) n ++ spot_at k ∷ []) (omega arith)

pub row_length : (c n : ℕ) → length (row_of c n) ≡ n
row_length c zero = refl
row_length c (suc n) = ap suc (row_length (c + 1) n)

none_same : (c d n : ℕ) → c < d → list_any (is_same_spot (spot_at c)) (row_of d n) ≡ false
none_same c d zero less = refl
none_same c d (suc n) less = grind (arith, none_same c (d + 1) n (omega (arith, less)))

pub row_apart : (c n : ℕ) → are_apart (row_of c n) ≡ true
unfolding are_apart
row_apart c zero = refl
row_apart c (suc n) = grind (arith, none_same c (c + 1) n (omega arith), row_apart (c + 1) n)
