-- The rulebooks so far, and those that are left.
use Rattle.std.proofs.Common.{◌≡◌, ◌-◌, ◌++◌, map}
use Rattle.std.specs.List.{range_with_len}
use Rattle.rule_order.specs.Entries.{count_of, numbers_of}
use Rattle.rule_order.proofs.books.books_from.Given as goal

abbrev pub invariant-loop-book : goal.invariant-loop-book
invariant-loop-book l =
    l.all.items ++ map (λ book. numbers_of book l.entries) (range_with_len l.book (l.book-end - l.book)) ≡ map (λ book. numbers_of book l.entries) (range_with_len 0 (count_of l.entries))
