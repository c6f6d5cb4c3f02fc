use Rattle.std.proofs.Common.{length}
use Rattle.golden_transcripts.specs.Transcripts.{IsBehind}
use Rattle.golden_transcripts.proofs.trial.found_in.Given as goal

abbrev pub invariant-loop-session : goal.invariant-loop-session
invariant-loop-session g l = IsBehind l.begun l.file.rest.now

abbrev pub decreases-loop-session : goal.decreases-loop-session
decreases-loop-session g l = length l.file.rest.now
