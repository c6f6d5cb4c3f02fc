use Rattle.std.proofs.Common.{◌≡◌, length}
use Rattle.i7_claims.specs.NameScans.{standing_at}
use Rattle.i7_claims.specs.Wording.{cut_words, uncut}
use Rattle.i7_claims.proofs.wording.cut_words.Given as goal

abbrev pub invariant-loop-rest : goal.invariant-loop-rest
invariant-loop-rest l =
    cut_words (standing_at l.known) l.is_joined l.column l.cutting l.rest ≡ cut_words (standing_at l.known) l.is_joined l.column uncut l.words

abbrev pub decreases-loop-rest : goal.decreases-loop-rest
decreases-loop-rest l = length l.rest
