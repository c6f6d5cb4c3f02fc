use Rattle.std.proofs.Common.{◌≡◌, length}
use Rattle.i7_claims.specs.NameScans.{book_twice, shows_book, with_book_of}
use Rattle.i7_claims.specs.Scans.{lowest}
use Rattle.i7_claims.proofs.standings.book_twice.Given as goal

abbrev pub invariant-loop-rest : goal.invariant-loop-rest
invariant-loop-rest l = lowest shows_book with_book_of l.books l.rest l.found ≡ book_twice l.claims

abbrev pub decreases-loop-rest : goal.decreases-loop-rest
decreases-loop-rest l = length l.rest
