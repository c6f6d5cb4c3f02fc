use Rattle.std.proofs.Common.{◌≡◌, ◌++◌, true, length, map}
use Rattle.i7_sentences.specs.Names.{name_of, names_from}
use Rattle.i7_sentences.proofs.names.names_of.Given as goal

abbrev pub invariant-loop-rest : goal.invariant-loop-rest
invariant-loop-rest l = l.all.items ++ map name_of (names_from true l.rest) ≡ map name_of (names_from true l.letter)

abbrev pub decreases-loop-rest : goal.decreases-loop-rest
decreases-loop-rest l = length l.rest
