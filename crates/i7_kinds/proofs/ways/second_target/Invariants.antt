use Rattle.std.proofs.Common.{◌≡◌, length}
use Rattle.std.specs.Prelude.{find}
use Rattle.std.specs.Option.{option_map}
use Rattle.i7_kinds.specs.Demands.{line_of_statement, second_target, shows_elsewhere, stated_leads}
use Rattle.i7_kinds.proofs.ways.second_target.Given as goal

abbrev pub invariant-loop-rest : goal.invariant-loop-rest
invariant-loop-rest l = option_map line_of_statement (find (shows_elsewhere (stated_leads l.statements)) l.rest) ≡ second_target l.statements

abbrev pub decreases-loop-rest : goal.decreases-loop-rest
decreases-loop-rest l = length l.rest
