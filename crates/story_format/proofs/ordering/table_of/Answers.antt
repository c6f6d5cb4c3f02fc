use Rattle.std.proofs.Common.{◌≡◌, ◌∙◌, ap, arith, ℕ, List, ◌+◌, ◌-◌, ◌++◌, ◌∷◌, [], map}
use Rattle.std.specs.List.{range_with_len}
use Rattle.rule_order.specs.Books.{book_in}
use Rattle.story_format.specs.declared.rule_tables.Book.{Book}
use Rattle.rule_order.proofs.BookLemmas.{one_more}
use Rattle.story_format.proofs.ordering.table_of.Goals as goal

pub loop-number-preserved : goal.loop-number-preserved
loop-number-preserved c =
    let number = c.loop-number.number in
    let f : ℕ → Book = λ book. record { rules = book_in c.args.books.now book } in
    let own : c.new.result ≡ book_in c.args.books.now number = c.new.ensures ∙ c.in_ok-from_slice.ensures.items ∙ c.book.ensures in
    ap (λ xs. xs ++ map f (range_with_len (number + 1) (c.args.count - (number + 1)))) (c.in_ok-push.ensures.items ∙ ap (λ (rules : List ℕ). c.loop-number.all.items ++ record { rules = rules } ∷ []) own)
    ∙ one_more f c.loop-number.all.items number c.args.count (omega (arith, c.loop-number-test.true)) ∙ c.loop-number.invariant
