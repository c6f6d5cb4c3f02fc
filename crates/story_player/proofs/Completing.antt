-- What a text is with a line break at its end.
use Rattle.std.proofs.Common.{◌≡◌, ◌∙◌, ap, refl, ℕ, suc, ◌-◌, false, List, [], ◌∷◌, length, arith}
use Rattle.std.specs.Prelude.{not, ◌==◌, slice_index_or}
use Rattle.play_meaning.specs.Turns.{ends_in_break}
use Rattle.story_player.specs.Turns.{lacks_break}

-- whether a text ends in a break is told by its last byte
last_tells : (b : ℕ) (bytes : List ℕ) (otherwise : ℕ) → (slice_index_or (b ∷ bytes) (length bytes) otherwise == 10) ≡ ends_in_break (b ∷ bytes)
last_tells b [] otherwise = refl
last_tells b (c ∷ bytes) otherwise = last_tells c bytes otherwise

pub break_lacking : (bytes : List ℕ) (otherwise : ℕ) → (length bytes == 0) ≡ false → not (slice_index_or bytes (length bytes - 1) otherwise == 10) ≡ lacks_break bytes
break_lacking [] otherwise some = absurd cc
break_lacking (b ∷ bytes) otherwise some = ap (λ n. not (slice_index_or (b ∷ bytes) n otherwise == 10)) (one_less (length bytes)) ∙ ap not (last_tells b bytes otherwise)
  where
    one_less : (n : ℕ) → suc n - 1 ≡ n
    one_less n = omega arith
