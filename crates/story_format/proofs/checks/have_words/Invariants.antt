use Rattle.std.proofs.Common.{◌≡◌, ◌+◌, ◌≤◌, length}
use Rattle.story_format.specs.Checks.{have_words}
use Rattle.story_format.proofs.checks.have_words.Given as goal

abbrev pub invariant-loop-rest : goal.invariant-loop-rest
invariant-loop-rest l = record { same : have_words l.strings l.number l.rest ≡ have_words l.strings 0 l.entries; bound : l.number + length l.rest ≤ length l.entries }

abbrev pub decreases-loop-rest : goal.decreases-loop-rest
decreases-loop-rest l = length l.rest
