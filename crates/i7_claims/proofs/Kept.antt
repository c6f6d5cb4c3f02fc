-- A map that keeps what is known first of a name.
use Rattle.std.proofs.Common.{◌≡◌, Bool, true, false, refl}
use Rattle.std.specs.Prelude.{not, Option, Some, None, is_some, option_copied}
use Rattle.std.specs.Borrow.{Bor}

pub copied_none : {X : Type 0} (found : Option (Bor X)) (none : Bool) → is_some found ≡ not none → none ≡ true → option_copied found ≡ None
copied_none None none e is = refl
copied_none (Some x) true e is = absurd cc
copied_none (Some x) false e is = absurd cc
