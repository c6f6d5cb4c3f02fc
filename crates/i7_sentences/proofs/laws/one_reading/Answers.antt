use Rattle.i7_sentences.proofs.ReadingWith.{read_same}
use Rattle.i7_sentences.proofs.Sameness.{reading_same}
use Rattle.i7_sentences.proofs.laws.one_reading.Goals as goal

pub returns : goal.returns
returns c = record { with_kinds = read_same; forms = reading_same }
