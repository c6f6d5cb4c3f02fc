use Rattle.std.proofs.Common.{◌≡◌, length}
use Rattle.story_file.specs.LongOnes.{lowest}
use Rattle.story_file.proofs.long_ones.lowest.Given as goal

abbrev pub invariant-loop-lines : goal.invariant-loop-lines
invariant-loop-lines l = lowest l.found l.lines l.longs ≡ lowest l.fn.found l.fn.lines l.fn.longs

abbrev pub decreases-loop-lines : goal.decreases-loop-lines
decreases-loop-lines l = length l.lines
