use Rattle.i7_actions.proofs.Once.{book_once}
use Rattle.i7_actions.proofs.book.one_book_is_followed.Goals as goal

pub returns : goal.returns
returns c = book_once
