use Rattle.std.proofs.Common.{◌≡◌, ◌+◌, ◌*◌, length, map}
use Rattle.command_parser.specs.Searching.{fits, slot_fits}
use Rattle.command_parser.specs.Tokens.{tokens_from}
use Rattle.command_parser.proofs.fitting.+fitting.Given as goal

abbrev pub decreases-fits : goal.decreases-fits
decreases-fits g l = 4 * length (tokens_from (g.C.Commands.grammar l.commands.now) l.line l.place)

abbrev pub decreases-token_fits : goal.decreases-token_fits
decreases-token_fits g l = 4 * length (tokens_from (g.C.Commands.grammar l.commands.now) l.line l.after) + 2

abbrev pub decreases-word_fits : goal.decreases-word_fits
decreases-word_fits g l = 4 * length (tokens_from (g.C.Commands.grammar l.commands.now) l.line l.after) + 1

abbrev pub decreases-slot_fits : goal.decreases-slot_fits
decreases-slot_fits g l = 4 * length (tokens_from (g.C.Commands.grammar l.commands.now) l.line l.after) + 1

abbrev pub invariant-slot_fits-loop-rest : goal.invariant-slot_fits-loop-rest
invariant-slot_fits-loop-rest g l =
    slot_fits (fits (tokens_from (g.C.Commands.grammar l.commands) l.line l.after)) (map (λ word. word.now) l.rest)
    ≡ slot_fits (fits (tokens_from (g.C.Commands.grammar l.commands) l.line l.after)) (map (λ word. word.now) l.words)

abbrev pub decreases-slot_fits-loop-rest : goal.decreases-slot_fits-loop-rest
decreases-slot_fits-loop-rest g l = length l.rest
