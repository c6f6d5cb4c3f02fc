-- The places that were found, and those that are still to be found, are all of them.
use Rattle.std.proofs.Common.{◌≡◌, ◌≤◌, ◌+◌, ◌++◌, length}
use Rattle.rule_index.specs.Classes.{places_where, rule_suits}
use Rattle.rule_index.proofs.classes.places_of.Given as goal

abbrev pub invariant-loop-rest : goal.invariant-loop-rest
invariant-loop-rest l = record {
  all : l.places.items ++ places_where (rule_suits l.story l.action) l.place l.rest ≡ places_where (rule_suits l.story l.action) 0 l.listed;
  few : l.place + length l.rest ≤ length l.listed;
}

abbrev pub decreases-loop-rest : goal.decreases-loop-rest
decreases-loop-rest l = length l.rest
