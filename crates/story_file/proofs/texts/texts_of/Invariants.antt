use Rattle.std.proofs.Common.{length}
use Rattle.i7_resolution.specs.Resolutions.{scope_in}
use Rattle.story_file.proofs.Gathered.{IsOnWay}
use Rattle.story_file.proofs.texts.texts_of.Given as goal

abbrev pub invariant-loop-rest : goal.invariant-loop-rest
invariant-loop-rest l = IsOnWay (scope_in l.names) l.objects l.texts.items l.rest

abbrev pub decreases-loop-rest : goal.decreases-loop-rest
decreases-loop-rest l = length l.rest
