use Rattle.std.proofs.Common.{◌≡◌, length}
use Rattle.std.specs.List.{list_any}
use Rattle.i7_sentences.specs.BracketedWords.{bracketed, has_bad_word}
use Rattle.i7_sentences.proofs.brackets.has_bad_bracket.Given as goal

abbrev pub invariant-loop-part : goal.invariant-loop-part
invariant-loop-part l = list_any has_bad_word (bracketed l.rest) ≡ list_any has_bad_word (bracketed l.text)

abbrev pub decreases-loop-part : goal.decreases-loop-part
decreases-loop-part l = length l.rest
