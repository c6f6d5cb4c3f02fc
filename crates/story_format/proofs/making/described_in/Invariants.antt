use Rattle.std.proofs.Common.{◌≡◌, ◌+◌, ◌≤◌, length}
use Rattle.story_format.specs.Making.{described_in}
use Rattle.story_format.specs.WordedViews.{all_worded}
use Rattle.story_format.proofs.making.described_in.Given as goal

abbrev pub invariant-loop-rest : goal.invariant-loop-rest
invariant-loop-rest l = record { counted : l.count + described_in (all_worded l.rest) ≡ described_in (all_worded l.worded); bound : l.count + length l.rest ≤ length l.worded }

abbrev pub decreases-loop-rest : goal.decreases-loop-rest
decreases-loop-rest l = length l.rest
