use Rattle.std.proofs.Common.{length}
use Rattle.i7_sentences.proofs.reserved.+has_reserved_among.Given as goal

abbrev pub decreases-has_reserved_among : goal.decreases-has_reserved_among
decreases-has_reserved_among l = length l.pieces.now
