use Rattle.std.proofs.Common.{◌≡◌, length, map}
use Rattle.i7_sentences.specs.Bodies.{phrases_of}
use Rattle.i7_sentences.specs.Lowest.{lower_of, lowest}
use Rattle.i7_sentences.specs.Stretches.{bad_literal_in, phrase_stretch}
use Rattle.i7_sentences.proofs.stretch.bad_phrase.Given as goal

abbrev pub invariant-loop-rest : goal.invariant-loop-rest
invariant-loop-rest l =
    lower_of l.low (lowest bad_literal_in (map phrase_stretch (phrases_of l.rest))) ≡ lowest bad_literal_in (map phrase_stretch (phrases_of l.phrases))

abbrev pub decreases-loop-rest : goal.decreases-loop-rest
decreases-loop-rest l = length l.rest
