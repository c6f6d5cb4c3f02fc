use Rattle.i7_claims.proofs.BookScans.{book_lowest}
use Rattle.i7_claims.proofs.claim_laws.books_twice_are_found.Goals as goal

pub returns : goal.returns
returns c = book_lowest
