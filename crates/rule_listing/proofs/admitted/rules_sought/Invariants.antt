-- The rules that were found, and those that are still to be found, are all of them.
use Rattle.std.proofs.Common.{◌≡◌, ◌++◌, length, filter}
use Rattle.rule_listing.specs.Admitted.{is_sought, rules_sought}
use Rattle.rule_listing.proofs.admitted.rules_sought.Given as goal

abbrev pub invariant-loop-rest : goal.invariant-loop-rest
invariant-loop-rest l = l.rules.items ++ filter (is_sought l.story l.sought) l.rest ≡ rules_sought l.story l.sought l.book

abbrev pub decreases-loop-rest : goal.decreases-loop-rest
decreases-loop-rest l = length l.rest
