use Rattle.std.proofs.Common.{◌≡◌, ◌++◌, length}
use Rattle.std.specs.Prelude.{flat_map}
use Rattle.golden_transcripts.specs.Commands.{line_of}
use Rattle.golden_transcripts.proofs.trial.commands_of.Given as goal

abbrev pub invariant-loop-rest : goal.invariant-loop-rest
invariant-loop-rest l = l.commands.items ++ flat_map line_of l.rest ≡ flat_map line_of l.exchanges

abbrev pub decreases-loop-rest : goal.decreases-loop-rest
decreases-loop-rest l = length l.rest
