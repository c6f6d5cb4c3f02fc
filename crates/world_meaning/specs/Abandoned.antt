-- How it is told why a turn is abandoned: the code and its name.
use Rattle.std.specs.Prelude.{ℕ, List, codes}
use Rattle.world_meaning.specs.declared.session.Abandon.{Abandon}
use Rattle.world_meaning.specs.declared.session.Abandon.TheVariants.{Memory, NestedTooDeep, NumberOutOfRange, TooMuchWork}

abbrev pub reason_text : Abandon → List ℕ
reason_text NestedTooDeep = codes "N1 NestedTooDeep"
reason_text Memory = codes "N2 Memory"
reason_text TooMuchWork = codes "N3 TooMuchWork"
reason_text NumberOutOfRange = codes "N4 NumberOutOfRange"
