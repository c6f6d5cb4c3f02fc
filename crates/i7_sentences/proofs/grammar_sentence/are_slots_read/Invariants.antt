use Rattle.std.proofs.Common.{◌≡◌, length}
use Rattle.std.specs.List.{list_all}
use Rattle.i7_sentences.specs.TextPieces.{parts_of}
use Rattle.i7_sentences.specs.Understandings.{is_slot_read}
use Rattle.i7_sentences.proofs.grammar_sentence.are_slots_read.Given as goal

abbrev pub invariant-loop-part : goal.invariant-loop-part
invariant-loop-part l = list_all is_slot_read (parts_of l.rest) ≡ list_all is_slot_read (parts_of l.text)

abbrev pub decreases-loop-part : goal.decreases-loop-part
decreases-loop-part l = length l.rest
