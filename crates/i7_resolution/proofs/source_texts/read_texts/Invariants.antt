use Rattle.std.proofs.Common.{length}
use Rattle.i7_rules.proofs.Looked.{IsLookedTo}
use Rattle.i7_rules.specs.Knowns.{known_of}
use Rattle.i7_resolution.specs.TextList.{texts_lent}
use Rattle.i7_resolution.specs.TextScans.{IsSoFar, state_of}
use Rattle.i7_resolution.proofs.source_texts.read_texts.Given as goal

abbrev pub invariant-loop-rest : goal.invariant-loop-rest
invariant-loop-rest l = IsLookedTo (λ before. IsSoFar (known_of l.known) before (state_of l.so_far)) (texts_lent l.texts) (texts_lent l.rest)

abbrev pub decreases-loop-rest : goal.decreases-loop-rest
decreases-loop-rest l = length l.rest
