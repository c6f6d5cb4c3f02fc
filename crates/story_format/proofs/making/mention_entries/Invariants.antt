use Rattle.std.proofs.Common.{◌≡◌, length}
use Rattle.std.specs.Prelude.{fold}
use Rattle.std.specs.List.{flat_map}
use Rattle.object_words.specs.Mentions.{mention}
use Rattle.story_format.specs.Making.{entry_strings}
use Rattle.story_format.specs.WordedViews.{all_worded}
use Rattle.story_format.proofs.making.mention_entries.Given as goal

abbrev pub invariant-loop-rest : goal.invariant-loop-rest
invariant-loop-rest l = fold mention l.strings (flat_map entry_strings (all_worded l.rest)) ≡ fold mention l.initial.strings (flat_map entry_strings (all_worded l.worded))

abbrev pub decreases-loop-rest : goal.decreases-loop-rest
decreases-loop-rest l = length l.rest
