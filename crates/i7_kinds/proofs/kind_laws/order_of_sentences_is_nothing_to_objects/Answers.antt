use Rattle.i7_kinds.proofs.SameObjects.{same_objects}
use Rattle.i7_kinds.proofs.kind_laws.order_of_sentences_is_nothing_to_objects.Goals as goal

pub returns : goal.returns
returns c = same_objects
