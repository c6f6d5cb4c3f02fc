use Rattle.std.proofs.Common.{◌≡◌, ◌++◌}
use Rattle.i7_phrases.proofs.adding.joined.Given as goal

abbrev pub invariant-loop-joined : goal.invariant-loop-joined
invariant-loop-joined l = record {
  all : l.rest.items ++ l.joined-iterator.rest.items ≡ l.initial.rest.items ++ l.fn.number.rest.items;
  first : l.first ≡ l.fn.first;
}
