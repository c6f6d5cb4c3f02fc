use Rattle.std.proofs.Common.{◌≡◌, length, map}
use Rattle.std.specs.List.{list_any}
use Rattle.play_meaning.specs.Meant.{adjective_meant}
use Rattle.i7_patterns.specs.Places.{is_value}
use Rattle.i7_patterns.proofs.place.any_value.Given as goal

abbrev pub invariant-loop-rest : goal.invariant-loop-rest
invariant-loop-rest l = list_any is_value (map adjective_meant l.rest) ≡ list_any is_value (map adjective_meant l.adjectives)

abbrev pub decreases-loop-rest : goal.decreases-loop-rest
decreases-loop-rest l = length l.rest
