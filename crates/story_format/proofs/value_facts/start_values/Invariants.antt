use Rattle.std.proofs.Common.{◌≡◌, ◌++◌, length}
use Rattle.story_format.specs.InPlay.{start_values, start_values_from}
use Rattle.story_format.proofs.value_facts.start_values.Given as goal

abbrev pub invariant-loop-rest : goal.invariant-loop-rest
invariant-loop-rest l = l.values.items ++ start_values_from l.tables l.number l.rest l.all ≡ start_values l.tables l.number

abbrev pub decreases-loop-rest : goal.decreases-loop-rest
decreases-loop-rest l = length l.rest
