use Rattle.std.proofs.Common.{length}
use Rattle.i7_sentences.proofs.matcher.+fits_from.Given as goal

abbrev pub decreases-fits_from : goal.decreases-fits_from
decreases-fits_from l = length l.pieces.now
