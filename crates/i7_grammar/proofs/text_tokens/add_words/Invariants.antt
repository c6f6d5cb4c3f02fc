use Rattle.std.proofs.Common.{◌≡◌, ◌++◌, length}
use Rattle.std.specs.Prelude.{map}
use Rattle.command_grammar.specs.Lines.{token_meant}
use Rattle.play_meaning.specs.Grammar.{Word}
use Rattle.i7_grammar.proofs.text_tokens.add_words.Given as goal

abbrev pub invariant-loop-rest : goal.invariant-loop-rest
invariant-loop-rest l = map token_meant l.all.items ++ map Word (map (λ word. word.now) l.rest) ≡ map token_meant l.initial.all.items ++ map Word (map (λ word. word.now) l.initial.rest)

abbrev pub decreases-loop-rest : goal.decreases-loop-rest
decreases-loop-rest l = length l.rest
