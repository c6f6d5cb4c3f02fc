-- So far each book has its classes.
use Rattle.std.proofs.Common.{◌≡◌, length}
use Rattle.rule_index.specs.Classes.{AreIndexed}
use Rattle.rule_index.proofs.index.classes_of_each.Given as goal

abbrev pub invariant-loop-book : goal.invariant-loop-book
invariant-loop-book l = record {
  books : AreIndexed l.story l.books.items;
  count : length l.books.items ≡ l.book;
}
