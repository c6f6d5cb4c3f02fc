use Rattle.std.proofs.Common.{length}
use Rattle.i7_sentences.proofs.lookahead.+columns.Given as goal

abbrev pub decreases-columns : goal.decreases-columns
decreases-columns l = length l.pieces.now
