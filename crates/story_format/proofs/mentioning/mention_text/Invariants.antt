use Rattle.std.proofs.Common.{◌≡◌, length}
use Rattle.std.specs.Prelude.{fold}
use Rattle.std.specs.List.{flat_map}
use Rattle.object_words.specs.Mentions.{mention}
use Rattle.story_format.specs.Mentioning.{part_strings}
use Rattle.story_format.proofs.mentioning.mention_text.Given as goal

abbrev pub invariant-loop-rest : goal.invariant-loop-rest
invariant-loop-rest l = fold mention l.strings (flat_map part_strings l.rest) ≡ fold mention l.initial.strings (flat_map part_strings l.text.parts.items)

abbrev pub decreases-loop-rest : goal.decreases-loop-rest
decreases-loop-rest l = length l.rest
