use Rattle.std.proofs.Common.{◌≡◌, length}
use Rattle.std.specs.Prelude.{fold}
use Rattle.command_grammar.specs.Synonyms.{own_words}
use Rattle.object_words.specs.Mentions.{mention}
use Rattle.object_words.specs.Words.{words_for}
use Rattle.command_grammar.proofs.synonym.words_said.Given as goal

abbrev pub invariant-loop-rest : goal.invariant-loop-rest
invariant-loop-rest l = fold mention l.words (own_words l.number l.rest) ≡ fold mention (words_for l.number l.name) (own_words l.number l.synonyms)

abbrev pub decreases-loop-rest : goal.decreases-loop-rest
decreases-loop-rest l = length l.rest
