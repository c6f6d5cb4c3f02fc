use Rattle.std.proofs.Common.{◌≡◌, ◌++◌, length}
use Rattle.std.specs.Prelude.{map}
use Rattle.i7_grammar.specs.TextTokens.{words_among}
use Rattle.i7_grammar.proofs.text_words.words_among.Given as goal

abbrev pub invariant-loop-word : goal.invariant-loop-word
invariant-loop-word l = map (λ word. word.now) l.all.items ++ words_among l.rest ≡ words_among l.bytes

abbrev pub decreases-loop-word : goal.decreases-loop-word
decreases-loop-word l = length l.rest
