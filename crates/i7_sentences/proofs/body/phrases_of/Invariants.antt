use Rattle.std.proofs.Common.{◌≡◌, length}
use Rattle.std.specs.Prelude.{fold}
use Rattle.i7_sentences.specs.Bodies.{body_lines, is_same_phrase, lines_of, with_piece}
use Rattle.i7_sentences.specs.Cuts.{cut, opens_nothing}
use Rattle.i7_sentences.proofs.body.phrases_of.Given as goal

abbrev pub invariant-loop-rest : goal.invariant-loop-rest
invariant-loop-rest l = (fold with_piece (lines_of l.lines) (cut opens_nothing is_same_phrase l.rest)).phrases ≡ body_lines l.body

abbrev pub decreases-loop-rest : goal.decreases-loop-rest
decreases-loop-rest l = length l.rest
