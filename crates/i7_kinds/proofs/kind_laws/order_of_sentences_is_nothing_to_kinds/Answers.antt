use Rattle.i7_kinds.proofs.OrderOfSentences.{order_is_nothing}
use Rattle.i7_kinds.proofs.kind_laws.order_of_sentences_is_nothing_to_kinds.Goals as goal

pub returns : goal.returns
returns c = order_is_nothing
