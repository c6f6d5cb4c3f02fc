use Rattle.std.proofs.Common.{◌≡◌, ◌++◌, length}
use Rattle.i7_sentences.specs.Bodies.{phrases_of}
use Rattle.i7_sentences.specs.BodyOrder.{or_else, place_of}
use Rattle.i7_sentences.specs.RuleBodies.{body_phrases, phrases_from, unspoken_line}
use Rattle.i7_sentences.proofs.rule_body.spoken_body.Given as goal

abbrev pub invariant-loop-rest : goal.invariant-loop-rest
invariant-loop-rest l = record {
  said : l.all.items ++ phrases_from (place_of l.place) (phrases_of l.rest) ≡ body_phrases l.line (phrases_of l.phrases);
  unspoken : or_else l.unspoken (unspoken_line (phrases_of l.rest)) ≡ unspoken_line (phrases_of l.phrases);
}

abbrev pub decreases-loop-rest : goal.decreases-loop-rest
decreases-loop-rest l = length l.rest
