use Rattle.std.proofs.Common.{length}
use Rattle.command_parser.specs.Tokens.{tokens_from}
use Rattle.command_parser.proofs.all.+is_one_thing_behind.Given as goal

abbrev pub decreases-is_one_thing_behind : goal.decreases-is_one_thing_behind
decreases-is_one_thing_behind g l = length (tokens_from (g.C.Commands.grammar l.commands.now) l.line l.place)
