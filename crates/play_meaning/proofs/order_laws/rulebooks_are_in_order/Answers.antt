use Rattle.play_meaning.proofs.Ordering.{book_rises, book_times}
use Rattle.play_meaning.proofs.order_laws.rulebooks_are_in_order.Goals as goal

pub returns : goal.returns
returns c = record { exactly = book_times; rising = book_rises }
