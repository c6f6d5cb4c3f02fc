use Rattle.std.proofs.Common.{◌∙◌, ap, ℕ, List}
use Rattle.std.specs.Prelude.{slice_get}
use Rattle.std.specs.Option.{option_map}
use Rattle.rule_order.proofs.StandardBooks.{book_told}
use Rattle.rule_order.proofs.standard_rules.standard_book.Goals as goal

pub returns : goal.returns
returns c = c.book_at.ensures ∙ ap (λ (rows : List (ℕ × ℕ)). option_map (λ (row : ℕ × ℕ). row.0) (slice_get rows c.args.number)) c.as_slice.ensures ∙ book_told c.args.number
