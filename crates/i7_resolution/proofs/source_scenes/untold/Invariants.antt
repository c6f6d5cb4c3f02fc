use Rattle.std.proofs.Common.{◌≡◌, ◌++◌, length, map}
use Rattle.i7_resolution.specs.SceneScans.{untold}
use Rattle.i7_resolution.proofs.source_scenes.untold.Given as goal

abbrev pub invariant-loop-rest : goal.invariant-loop-rest
invariant-loop-rest l = l.scenes.items ++ map untold l.rest ≡ map untold l.recurring

abbrev pub decreases-loop-rest : goal.decreases-loop-rest
decreases-loop-rest l = length l.rest
