use Rattle.std.proofs.Common.{◌≡◌, length}
use Rattle.object_words.specs.Mentions.{number_in}
use Rattle.play_meaning.specs.Meant.{pieces_meant}
use Rattle.play_meaning.specs.Translation.{text_part}
use Rattle.story_code.specs.Emitting.{emitted}
use Rattle.story_code.proofs.emitting.text.emit_pieces.Given as goal

abbrev pub invariant-loop-rest : goal.invariant-loop-rest
invariant-loop-rest l = emitted l.out (text_part (number_in l.fn.strings) l.fn.loops (pieces_meant l.rest)) ≡ emitted l.fn.out (text_part (number_in l.fn.strings) l.fn.loops (pieces_meant l.fn.pieces))

abbrev pub decreases-loop-rest : goal.decreases-loop-rest
decreases-loop-rest l = length l.rest
