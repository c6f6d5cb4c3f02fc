use Rattle.std.proofs.Common.{◌≡◌, ◌∙◌, ap, subst, sym, arith, ℕ, List, ◌+◌, ◌++◌, length, map}
use Rattle.std.specs.List.{range_with_len}
use Rattle.std.proofs.lemmas.List.{length-map}
use Rattle.play_meaning.specs.Patterns.{rule_meant}
use Rattle.play_meaning.specs.Rules.{Rule}
use Rattle.play_meaning.specs.StandardRules.{standard_rules}
use Rattle.rule_order.specs.Books.{AreBooksOf, book_in}
use Rattle.rule_order.specs.declared.heading.Heading.{Heading}
use Rattle.story_format.specs.RuleHeadings.{heading_meant, heading_of}
use Rattle.story_format.specs.declared.rule_tables.Book.{Book}
use Rattle.story_format.specs.Making.{story_rules}
use Rattle.story_format.proofs.ListedRules.{headings_so}
use Rattle.story_format.proofs.OwnBooks.{books_made, heading_count}
use Rattle.story_format.proofs.ordering.books_of.Goals as goal

pub order-requires-clause-countable : goal.order-requires-clause-countable
order-requires-clause-countable c =
    let rules : List Rule = map rule_meant c.args.rules.now in
    let many : 61 + length c.args.rules.now ≡ 61 + length rules = ap (λ n. 61 + n) (sym (length-map c.args.rules.now rule_meant)) in
    let headed : map heading_meant c.in_ok-headings.headings.items ≡ map heading_of (story_rules c.args.listings.now rules) =
    headings_so c.args.listings.now c.in_ok-listings.listings.items c.as_slice.result.now rules (61 + length c.args.rules.now) (map heading_meant c.in_ok-headings.headings.items) c.as_slice.ensures.value many c.in_ok-listings.ensures c.in_ok-headings.ensures in
    let count = heading_count c.in_ok-headings.headings.items c.args.listings.now rules headed in
    omega (arith, ap (λ (headings : List Heading). length headings) c.as_slice-4.ensures.value, count, length-map c.args.rules.now rule_meant, c.requires.few_rules)

pub returns : goal.returns
returns c =
    let t = c.args.tale.now in
    let rules : List Rule = map rule_meant c.args.rules.now in
    let headings = c.in_ok-headings.headings.items in
    let books = c.in_ok-books.books in
    let f : ℕ → Book = λ book. record { rules = book_in books book } in
    let many : 61 + length c.args.rules.now ≡ 61 + length rules = ap (λ n. 61 + n) (sym (length-map c.args.rules.now rule_meant)) in
    let headed : map heading_meant headings ≡ map heading_of (story_rules c.args.listings.now rules) =
    headings_so c.args.listings.now c.in_ok-listings.listings.items c.as_slice.result.now rules (61 + length c.args.rules.now) (map heading_meant headings) c.as_slice.ensures.value many c.in_ok-listings.ensures c.in_ok-headings.ensures in
    let are : AreBooksOf t.declared.kinds headings books =
    subst (λ kinds. AreBooksOf kinds headings books) c.as_slice-3.ensures (subst (λ (hs : List Heading). AreBooksOf c.as_slice-3.result.now hs books) c.as_slice-4.ensures.value c.in_ok-books.ensures) in
    c.in_ok-table_of.ensures ∙ ap (λ count. map f (range_with_len 0 count)) c.book_count.ensures
    ∙ books_made c.one_order.ensures.consulted t c.args.listings.now rules headings books headed (c.rules_are_listed_apart.ensures c.args.listings.now (standard_rules ++ rules)) are
