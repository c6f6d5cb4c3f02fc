use Rattle.std.proofs.Common.{◌≡◌, ◌++◌, length, map}
use Rattle.i7_kinds.specs.Tales.{author_entry}
use Rattle.i7_claims.specs.Views.{mentions_of}
use Rattle.i7_kinds.proofs.entries.push_authors.Given as goal

abbrev pub invariant-loop-rest : goal.invariant-loop-rest
invariant-loop-rest l = l.entries.items ++ map author_entry (mentions_of l.rest) ≡ l.initial.entries.items ++ map author_entry (mentions_of l.mentions)

abbrev pub decreases-loop-rest : goal.decreases-loop-rest
decreases-loop-rest l = length l.rest
