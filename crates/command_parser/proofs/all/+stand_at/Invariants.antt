use Rattle.std.proofs.Common.{length}
use Rattle.command_parser.specs.Tokens.{tokens_from}
use Rattle.command_parser.proofs.all.+stand_at.Given as goal

abbrev pub decreases-stand_at : goal.decreases-stand_at
decreases-stand_at g l = length (tokens_from (g.C.Commands.grammar l.commands.now) l.line l.place)
