use Rattle.std.proofs.Common.{◌≡◌, ◌∙◌, ap, arith, ℕ, List, ◌+◌, ◌-◌, ◌++◌, ◌∷◌, [], map}
use Rattle.std.specs.List.{range_with_len}
use Rattle.rule_order.specs.Entries.{numbers_of}
use Rattle.rule_order.proofs.BookLemmas.{one_more}
use Rattle.rule_order.proofs.books.books_from.Goals as goal

pub loop-book-preserved : goal.loop-book-preserved
loop-book-preserved c =
    let book = c.loop-book.book in
    let f : ℕ → List ℕ = λ b. numbers_of b c.args.entries.now in
    let own : c.new.result ≡ f book = c.new.ensures ∙ c.in_ok-numbers_of.ensures in
    ap (λ xs. xs ++ map f (range_with_len (book + 1) (c.count_of-book-end.result - (book + 1)))) (c.in_ok-push.ensures.items ∙ ap (λ numbers. c.loop-book.all.items ++ numbers ∷ []) own)
    ∙ one_more f c.loop-book.all.items book c.count_of-book-end.result (omega (arith, c.loop-book-test.true)) ∙ c.loop-book.invariant
