-- A variable that isn't there is not set.
use Rattle.std.proofs.Common.{◌≡◌, ap, ℕ, nat_lt, false, length, ltb-false}
use Rattle.std.specs.Prelude.{ℤ}
use Rattle.std.proofs.lemmas.List.{set_past}
use Rattle.play_meaning.specs.Worlds.{World, set_variable}

pub no_variable : (w : World) (v : ℕ) (value : ℤ) → nat_lt v (length w.variables) ≡ false → set_variable v value w ≡ w
no_variable w v value is = ap (λ variables. record w { variables = variables }) (set_past w.variables v value (ltb-false v (length w.variables) is))
