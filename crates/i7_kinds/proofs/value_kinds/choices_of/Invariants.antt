use Rattle.std.proofs.Common.{◌≡◌, ◌++◌, ◌+◌, length}
use Rattle.i7_kinds.specs.Making.{made_of}
use Rattle.i7_kinds.specs.Tales.{choices_from}
use Rattle.i7_kinds.specs.ValueKinds.{AreFewValues}
use Rattle.i7_kinds.proofs.value_kinds.choices_of.Given as goal

abbrev pub invariant-loop-rest : goal.invariant-loop-rest
invariant-loop-rest l = record {
  same : l.found.items ++ choices_from (made_of l.makings) l.object l.kind l.property l.rest
      ≡ choices_from (made_of l.makings) l.object l.kind (length l.makings.flags.now + length l.makings.numbers.now) l.makings.value_kinds.now;
  few : AreFewValues l.rest;
  counted : l.property + length l.rest ≡ length l.makings.flags.now + length l.makings.numbers.now + length l.makings.value_kinds.now;
}

abbrev pub decreases-loop-rest : goal.decreases-loop-rest
decreases-loop-rest l = length l.rest
