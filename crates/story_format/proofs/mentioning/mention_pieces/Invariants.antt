use Rattle.std.proofs.Common.{◌≡◌, length}
use Rattle.std.specs.Prelude.{fold}
use Rattle.std.specs.List.{flat_map}
use Rattle.object_words.specs.Mentions.{mention}
use Rattle.story_format.specs.Mentioning.{piece_strings}
use Rattle.story_format.proofs.mentioning.mention_pieces.Given as goal

abbrev pub invariant-loop-rest : goal.invariant-loop-rest
invariant-loop-rest l = fold mention l.strings (flat_map piece_strings l.rest) ≡ fold mention l.initial.strings (flat_map piece_strings l.pieces)

abbrev pub decreases-loop-rest : goal.decreases-loop-rest
decreases-loop-rest l = length l.rest
