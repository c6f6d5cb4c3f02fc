-- The headings so far, and those of the heads that are left.
use Rattle.std.proofs.Common.{◌≡◌, ◌++◌, ◌+◌, ◌≤◌, length, map}
use Rattle.story_format.specs.RuleHeadings.{headed_from, head_meant, heading_meant}
use Rattle.story_format.proofs.ordering.add_standard.Given as goal

abbrev pub invariant-loop-rest : goal.invariant-loop-rest
invariant-loop-rest l = record {
  made : map heading_meant l.headings.items ++ headed_from l.listings l.number (map head_meant l.rest) ≡ map heading_meant l.initial.headings.items ++ headed_from l.listings 0 (map head_meant l.heads);
  bound : l.number + length l.rest ≤ length l.heads;
}

abbrev pub decreases-loop-rest : goal.decreases-loop-rest
decreases-loop-rest l = length l.rest
