use Rattle.std.proofs.Common.{◌≡◌, ◌++◌, length}
use Rattle.i7_resolution.specs.BookNames.{books_of_stage}
use Rattle.i7_resolution.proofs.book_name.add_books.Given as goal

abbrev pub invariant-loop-rest : goal.invariant-loop-rest
invariant-loop-rest l = l.names.items ++ books_of_stage l.stage l.rest ≡ l.initial.names.items ++ books_of_stage l.stage l.actions

abbrev pub decreases-loop-rest : goal.decreases-loop-rest
decreases-loop-rest l = length l.rest
