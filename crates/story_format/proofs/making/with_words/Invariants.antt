use Rattle.std.proofs.Common.{◌≡◌, ◌++◌, ◌+◌, ◌≤◌, length}
use Rattle.story_format.specs.Making.{worded, worded_from}
use Rattle.story_format.specs.WordedViews.{all_worded}
use Rattle.story_format.proofs.making.with_words.Given as goal

abbrev pub invariant-loop-rest : goal.invariant-loop-rest
invariant-loop-rest l = record { made : all_worded l.made.items ++ worded_from l.synonyms l.number l.rest ≡ worded l.synonyms l.objects; bound : l.number + length l.rest ≤ length l.objects }

abbrev pub decreases-loop-rest : goal.decreases-loop-rest
decreases-loop-rest l = length l.rest
