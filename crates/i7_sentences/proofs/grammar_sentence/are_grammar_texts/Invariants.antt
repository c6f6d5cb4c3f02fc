use Rattle.std.proofs.Common.{◌≡◌, length}
use Rattle.std.specs.List.{list_all}
use Rattle.i7_sentences.specs.Understandings.{is_grammar_text}
use Rattle.i7_sentences.proofs.grammar_sentence.are_grammar_texts.Given as goal

abbrev pub invariant-loop-rest : goal.invariant-loop-rest
invariant-loop-rest l = list_all is_grammar_text l.rest ≡ list_all is_grammar_text l.texts

abbrev pub decreases-loop-rest : goal.decreases-loop-rest
decreases-loop-rest l = length l.rest
