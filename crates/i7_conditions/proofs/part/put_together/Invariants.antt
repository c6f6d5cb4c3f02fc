use Rattle.std.proofs.Common.{◌≡◌, length}
use Rattle.std.specs.Prelude.{Some}
use Rattle.i7_conditions.specs.Parts.{found_in, parts_on, put_together, stack_of}
use Rattle.i7_conditions.proofs.part.put_together.Given as goal

abbrev pub invariant-loop-mark : goal.invariant-loop-mark
invariant-loop-mark l = found_in (parts_on (Some (stack_of l.parts.items)) l.marks.items) ≡ put_together l.initial.marks.items

abbrev pub decreases-loop-mark : goal.decreases-loop-mark
decreases-loop-mark l = length l.marks.items
