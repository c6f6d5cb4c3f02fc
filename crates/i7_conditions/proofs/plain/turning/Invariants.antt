use Rattle.std.proofs.Common.{◌≡◌, ◌+◌, ◌≤◌, length}
use Rattle.std.specs.Option.{option_or}
use Rattle.i7_conditions.specs.Plain.{turning}
use Rattle.i7_conditions.proofs.plain.turning.Given as goal

abbrev pub invariant-loop-rest : goal.invariant-loop-rest
invariant-loop-rest l = record {
  same : option_or (turning l.number l.rest l.key) l.found ≡ turning 0 l.repeats l.key;
  bound : l.number + length l.rest ≤ 255;
}

abbrev pub decreases-loop-rest : goal.decreases-loop-rest
decreases-loop-rest l = length l.rest
