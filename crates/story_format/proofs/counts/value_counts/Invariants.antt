use Rattle.std.proofs.Common.{◌≡◌, ◌+◌, ◌≤◌, length, map}
use Rattle.std.specs.Prelude.{replicate}
use Rattle.story_format.specs.Counts.{name_count}
use Rattle.story_format.proofs.CountLemmas.{put_all}
use Rattle.story_format.proofs.counts.value_counts.Given as goal

abbrev pub invariant-loop-rest : goal.invariant-loop-rest
invariant-loop-rest l = record { same : put_all l.counts l.place (map name_count l.rest) ≡ put_all (replicate 100 0) 0 (map name_count l.values); bound : l.place + length l.rest ≤ length l.values }

abbrev pub decreases-loop-rest : goal.decreases-loop-rest
decreases-loop-rest l = length l.rest
