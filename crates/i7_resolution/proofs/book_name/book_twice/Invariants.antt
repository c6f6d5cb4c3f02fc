use Rattle.std.proofs.Common.{◌≡◌, length}
use Rattle.i7_sentences.specs.Lowest.{lower_of, lowest}
use Rattle.i7_resolution.specs.BookNames.{book_line}
use Rattle.i7_resolution.proofs.book_name.book_twice.Given as goal

abbrev pub invariant-loop-rest : goal.invariant-loop-rest
invariant-loop-rest l = lower_of l.low (lowest (book_line l.names.items) l.rest) ≡ lowest (book_line l.names.items) l.sentences

abbrev pub decreases-loop-rest : goal.decreases-loop-rest
decreases-loop-rest l = length l.rest
