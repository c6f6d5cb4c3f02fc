use Rattle.std.proofs.Common.{◌≡◌, ◌+◌, length}
use Rattle.code_table.proofs.Heads.{heads_of_scenes}
use Rattle.code_table.proofs.coding.scenes_counted.Given as goal

abbrev pub invariant-loop-rest : goal.invariant-loop-rest
invariant-loop-rest l = l.count + heads_of_scenes l.rest ≡ l.fn.before + heads_of_scenes l.fn.scenes

abbrev pub decreases-loop-rest : goal.decreases-loop-rest
decreases-loop-rest l = length l.rest
