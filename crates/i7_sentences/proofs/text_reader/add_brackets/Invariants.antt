use Rattle.std.proofs.Common.{◌≡◌, ◌++◌, length}
use Rattle.std.specs.List.{flat_map}
use Rattle.i7_sentences.specs.TextPieces.{bracket_pieces, parts_of}
use Rattle.i7_sentences.proofs.text_reader.add_brackets.Given as goal

abbrev pub invariant-loop-part : goal.invariant-loop-part
invariant-loop-part l = l.all.items ++ flat_map bracket_pieces (parts_of l.rest) ≡ l.initial.all.items ++ flat_map bracket_pieces (parts_of l.text)

abbrev pub decreases-loop-part : goal.decreases-loop-part
decreases-loop-part l = length l.rest
