use Rattle.std.proofs.Common.{◌≡◌, length}
use Rattle.std.specs.Prelude.{find}
use Rattle.std.specs.Option.{option_map}
use Rattle.i7_kinds.specs.Demands.{is_second, line_of_description, second_description}
use Rattle.i7_kinds.specs.Described.{descriptions_in}
use Rattle.i7_kinds.proofs.descriptions.Descriptions.second.Given as goal

abbrev pub invariant-loop-rest : goal.invariant-loop-rest
invariant-loop-rest l = option_map line_of_description (find (is_second (descriptions_in l.self)) l.rest) ≡ second_description (descriptions_in l.self)

abbrev pub decreases-loop-rest : goal.decreases-loop-rest
decreases-loop-rest l = length l.rest
