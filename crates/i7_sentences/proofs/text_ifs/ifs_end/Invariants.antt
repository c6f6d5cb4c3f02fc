use Rattle.std.proofs.Common.{◌≡◌, length}
use Rattle.i7_sentences.specs.TextPieces.{ifs_end}
use Rattle.i7_sentences.specs.declared.text_ifs.IfPlace.TheVariants.{Outside}
use Rattle.i7_sentences.proofs.text_ifs.ifs_end.Given as goal

abbrev pub invariant-loop-rest : goal.invariant-loop-rest
invariant-loop-rest l = ifs_end l.place l.rest ≡ ifs_end Outside l.pieces

abbrev pub decreases-loop-rest : goal.decreases-loop-rest
decreases-loop-rest l = length l.rest
