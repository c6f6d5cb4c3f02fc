-- The headings so far, and those of the rules that are left.
use Rattle.std.proofs.Common.{◌≡◌, ◌++◌, ◌+◌, ◌≤◌, length, map}
use Rattle.play_meaning.specs.Patterns.{rule_meant}
use Rattle.story_format.specs.RuleHeadings.{headed_from, heading_meant, heading_of}
use Rattle.story_format.proofs.ordering.add_author.Given as goal

abbrev pub invariant-loop-rest : goal.invariant-loop-rest
invariant-loop-rest l = record {
  made : map heading_meant l.headings.items ++ headed_from l.listings l.number (map heading_of (map rule_meant l.rest)) ≡ map heading_meant l.initial.headings.items ++ headed_from l.listings 61 (map heading_of (map rule_meant l.rules));
  bound : l.number + length l.rest ≤ 2000;
}

abbrev pub decreases-loop-rest : goal.decreases-loop-rest
decreases-loop-rest l = length l.rest
