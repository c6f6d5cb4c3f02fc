use Rattle.std.proofs.Common.{◌≡◌, length, map}
use Rattle.play_meaning.specs.Grammar.{goes_by}
use Rattle.command_parser.proofs.candidates.goes_by.Given as goal

abbrev pub invariant-loop-rest : goal.invariant-loop-rest
invariant-loop-rest g l = goes_by (g.C.Commands.grammar l.commands) (map (λ word. word.now) l.rest) l.object ≡ goes_by (g.C.Commands.grammar l.commands) (map (λ word. word.now) l.words) l.object

abbrev pub decreases-loop-rest : goal.decreases-loop-rest
decreases-loop-rest g l = length l.rest
