use Rattle.std.proofs.Common.{◌≡◌, ◌+◌, ◌≤◌, length}
use Rattle.story_format.specs.BookRules.{list_their_own}
use Rattle.story_format.proofs.book_rules.list_their_own.Given as goal

abbrev pub invariant-loop-rest : goal.invariant-loop-rest
invariant-loop-rest l = record { same : list_their_own l.rules l.number l.rest ≡ list_their_own l.rules 0 l.books; bound : l.number + length l.rest ≤ length l.books }

abbrev pub decreases-loop-rest : goal.decreases-loop-rest
decreases-loop-rest l = length l.rest
