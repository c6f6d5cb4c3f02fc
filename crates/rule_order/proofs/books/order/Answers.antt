use Rattle.std.proofs.Common.{◌≡◌, ◌∙◌, ap, sym, subst, ℕ, List}
use Rattle.std.specs.Prelude.{IsPermutation, Option}
use Rattle.rule_order.specs.Books.{AreBooksOf}
use Rattle.rule_order.specs.Entries.{books_from, entries_from}
use Rattle.rule_order.specs.declared.entry.Entry.{Entry}
use Rattle.rule_order.proofs.BookLemmas.{books_are}
use Rattle.rule_order.proofs.books.order.Goals as goal

pub returns : goal.returns
returns c =
    let kinds : List (Option ℕ) = c.args.kinds.now in
    let es : List Entry = c.sort.new.self.items in
    let moved : IsPermutation (entries_from kinds 0 c.args.headings.now) es = subst (λ from. IsPermutation from es) c.in_ok-entries.ensures c.in_ok-sort.ensures.permutation in
    let told : c.in_ok-books_from.field-0 ≡ books_from es = c.in_ok-books_from.ensures ∙ ap books_from c.as_slice.ensures.value in
    subst (AreBooksOf kinds c.args.headings.now) (sym told) (books_are kinds c.args.headings.now es moved c.in_ok-sort.ensures.sorted)
