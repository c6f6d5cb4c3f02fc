use Rattle.std.proofs.Common.{◌≡◌, ◌++◌, length}
use Rattle.std.specs.Prelude.{map}
use Rattle.std.specs.List.{flat_map}
use Rattle.command_grammar.specs.Lines.{token_meant}
use Rattle.i7_sentences.specs.TextPieces.{parts_of}
use Rattle.i7_grammar.specs.TextTokens.{behind_bracket}
use Rattle.i7_grammar.proofs.text_tokens.add_brackets.Given as goal

abbrev pub invariant-loop-part : goal.invariant-loop-part
invariant-loop-part l = map token_meant l.all.items ++ flat_map behind_bracket (parts_of l.rest) ≡ map token_meant l.initial.all.items ++ flat_map behind_bracket (parts_of l.text)

abbrev pub decreases-loop-part : goal.decreases-loop-part
decreases-loop-part l = length l.rest
