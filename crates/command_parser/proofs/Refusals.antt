-- What holds whatever is refused.
use Rattle.std.specs.Prelude.{Result, Ok, Err, OnErr}

pub on_err_so : {T E P : Type 0} (r : Result T E) → P → OnErr r P
on_err_so (Ok x) p = tt
on_err_so (Err e) p = p
