use Rattle.std.proofs.Common.{◌≡◌, ◌++◌, length}
use Rattle.story_format.specs.KindTables.{all_had}
use Rattle.story_format.proofs.kind_tables.all_had.Given as goal

abbrev pub invariant-loop-rest : goal.invariant-loop-rest
invariant-loop-rest l = l.all.items ++ all_had l.parents l.rest ≡ all_had l.parents l.granted

abbrev pub decreases-loop-rest : goal.decreases-loop-rest
decreases-loop-rest l = length l.rest
