use Rattle.std.proofs.Common.{◌+◌, ◌≤◌, length}
use Rattle.i7_lexer.proofs.Placing.{Surveyed}
use Rattle.i7_lexer.proofs.survey.survey_of.Given as goal

abbrev pub invariant-loop-rest : goal.invariant-loop-rest
invariant-loop-rest l = Surveyed l.text l.rest l.at l.depth × (l.count + length l.rest ≤ length l.text)

abbrev pub decreases-loop-rest : goal.decreases-loop-rest
decreases-loop-rest l = length l.rest
