use Rattle.std.proofs.Common.{◌≡◌, ◌+◌, ◌*◌, ◌++◌, [], length, map, take}
use Rattle.play_meaning.specs.Grammar.{candidates}
use Rattle.command_parser.specs.Searching.{first_filled, slot_filled}
use Rattle.command_grammar.specs.Lines.{told_token}
use Rattle.command_parser.specs.Tokens.{tokens_from}
use Rattle.command_parser.proofs.listing.+listing.Given as goal

abbrev pub decreases-slots : goal.decreases-slots
decreases-slots g l = 4 * length (tokens_from (g.C.Commands.grammar l.commands.now) l.line l.place)

abbrev pub decreases-token_slots : goal.decreases-token_slots
decreases-token_slots g l = 4 * length (tokens_from (g.C.Commands.grammar l.commands.now) l.line l.after) + 3

abbrev pub decreases-word_slots : goal.decreases-word_slots
decreases-word_slots g l = 4 * length (tokens_from (g.C.Commands.grammar l.commands.now) l.line l.after) + 2

abbrev pub decreases-slot_slots : goal.decreases-slot_slots
decreases-slot_slots g l = 4 * length (tokens_from (g.C.Commands.grammar l.commands.now) l.line l.after) + 2

abbrev pub decreases-phrase_slots : goal.decreases-phrase_slots
decreases-phrase_slots g l = 4 * length (tokens_from (g.C.Commands.grammar l.commands.now) l.line l.after) + 1

abbrev pub invariant-slot_slots-loop-rest : goal.invariant-slot_slots-loop-rest
invariant-slot_slots-loop-rest g l = record {
  counted : l.count + length l.rest ≡ length l.words;
  parted : map (λ word. word.now) l.words ≡ take l.count (map (λ word. word.now) l.words) ++ map (λ word. word.now) l.rest;
  same : slot_filled (candidates (g.C.Commands.grammar l.commands) (g.C.Commands.sees l.commands) (told_token l.slot))
      (first_filled (g.C.Commands.grammar l.commands) (g.C.Commands.sees l.commands) (tokens_from (g.C.Commands.grammar l.commands) l.line l.after))
      (take l.count (map (λ word. word.now) l.words)) (map (λ word. word.now) l.rest)
      ≡ slot_filled (candidates (g.C.Commands.grammar l.commands) (g.C.Commands.sees l.commands) (told_token l.slot))
      (first_filled (g.C.Commands.grammar l.commands) (g.C.Commands.sees l.commands) (tokens_from (g.C.Commands.grammar l.commands) l.line l.after))
      [] (map (λ word. word.now) l.words);
}

abbrev pub decreases-slot_slots-loop-rest : goal.decreases-slot_slots-loop-rest
decreases-slot_slots-loop-rest g l = length l.rest
