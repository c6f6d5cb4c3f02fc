use Rattle.std.proofs.Common.{length}
use Rattle.i7_rules.proofs.Looked.{IsLookedTo}
use Rattle.i7_rules.specs.Knowns.{known_of}
use Rattle.i7_rules.specs.RuleList.{rules_lent}
use Rattle.i7_resolution.specs.ListingList.{listings_lent}
use Rattle.i7_resolution.specs.ListingScans.{IsSoFar, state_of}
use Rattle.i7_resolution.proofs.source_listings.read_listings.Given as goal

abbrev pub invariant-loop-rest : goal.invariant-loop-rest
invariant-loop-rest l = IsLookedTo (λ before. IsSoFar (known_of l.known) (rules_lent l.rules) before (state_of l.so_far)) (listings_lent l.listings) (listings_lent l.rest)

abbrev pub decreases-loop-rest : goal.decreases-loop-rest
decreases-loop-rest l = length l.rest
