-- The books so far, and those that are left.
use Rattle.std.proofs.Common.{◌≡◌, ◌-◌, ◌++◌, map}
use Rattle.std.specs.List.{range_with_len}
use Rattle.rule_order.specs.Books.{book_in}
use Rattle.story_format.proofs.ordering.table_of.Given as goal

abbrev pub invariant-loop-number : goal.invariant-loop-number
invariant-loop-number l =
    l.all.items ++ map (λ book. record { rules = book_in l.books book }) (range_with_len l.number (l.count - l.number)) ≡ map (λ book. record { rules = book_in l.books book }) (range_with_len 0 l.count)
