use Rattle.std.proofs.Common.{◌≡◌, ◌++◌, length}
use Rattle.std.specs.Prelude.{map}
use Rattle.i7_grammar.specs.Grammars.{synonym_by}
use Rattle.i7_grammar.proofs.telling.add_words.Given as goal

abbrev pub invariant-loop-rest : goal.invariant-loop-rest
invariant-loop-rest l = l.synonyms.items ++ map (synonym_by l.object) (map (λ word. word.now) l.rest) ≡ l.initial.synonyms.items ++ map (synonym_by l.object) (map (λ word. word.now) l.initial.rest)

abbrev pub decreases-loop-rest : goal.decreases-loop-rest
decreases-loop-rest l = length l.rest
