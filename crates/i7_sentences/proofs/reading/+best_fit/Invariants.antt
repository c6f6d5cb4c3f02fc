use Rattle.std.proofs.Common.{length}
use Rattle.i7_sentences.proofs.reading.+best_fit.Given as goal

abbrev pub decreases-best_fit : goal.decreases-best_fit
decreases-best_fit l = length l.variants.now
