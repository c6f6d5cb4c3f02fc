use Rattle.std.proofs.Common.{◌≡◌, length}
use Rattle.std.specs.Prelude.{fold, map}
use Rattle.world_meaning.specs.Spelling.{lowered}
use Rattle.object_words.specs.Mentions.{mention}
use Rattle.i7_grammar.proofs.word_table.mention_text.Given as goal

abbrev pub invariant-loop-rest : goal.invariant-loop-rest
invariant-loop-rest l = fold mention l.words (map lowered (map (λ word. word.now) l.rest)) ≡ fold mention l.initial.words (map lowered (map (λ word. word.now) l.initial.rest))

abbrev pub decreases-loop-rest : goal.decreases-loop-rest
decreases-loop-rest l = length l.rest
