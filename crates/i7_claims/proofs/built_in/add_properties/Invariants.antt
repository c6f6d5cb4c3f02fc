use Rattle.std.proofs.Common.{◌≡◌, ◌++◌, length}
use Rattle.std.specs.Prelude.{flat_map, map, option_map}
use Rattle.i7_claims.specs.Standings.{namings_in_row}
use Rattle.i7_claims.proofs.built_in.add_properties.Given as goal

abbrev pub invariant-loop-rest : goal.invariant-loop-rest
invariant-loop-rest l = l.namings.items ++ flat_map namings_in_row (map (λ property. (property.0.now, option_map (λ second. second.now) property.1)) l.rest) ≡ l.initial.namings.items ++ flat_map namings_in_row (map (λ property. (property.0.now, option_map (λ second. second.now) property.1)) l.properties)

abbrev pub decreases-loop-rest : goal.decreases-loop-rest
decreases-loop-rest l = length l.rest
