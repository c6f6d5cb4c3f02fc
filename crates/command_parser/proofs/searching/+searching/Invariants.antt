use Rattle.std.proofs.Common.{◌≡◌, ◌+◌, ◌*◌, ◌++◌, [], length, map, take}
use Rattle.std.specs.Option.{option_map}
use Rattle.play_meaning.specs.Grammar.{candidates}
use Rattle.command_parser.specs.Searching.{first_filled, slot_filled}
use Rattle.command_parser.specs.Settling.{outcome_of}
use Rattle.command_grammar.specs.Lines.{told_token}
use Rattle.command_parser.specs.Tokens.{tokens_from}
use Rattle.command_parser.proofs.searching.+searching.Given as goal

abbrev pub decreases-search : goal.decreases-search
decreases-search g l = 4 * length (tokens_from (g.C.Commands.grammar l.commands.now) l.line l.place)

abbrev pub decreases-search_token : goal.decreases-search_token
decreases-search_token g l = 4 * length (tokens_from (g.C.Commands.grammar l.commands.now) l.line l.after) + 3

abbrev pub decreases-search_word : goal.decreases-search_word
decreases-search_word g l = 4 * length (tokens_from (g.C.Commands.grammar l.commands.now) l.line l.after) + 2

abbrev pub decreases-search_slot : goal.decreases-search_slot
decreases-search_slot g l = 4 * length (tokens_from (g.C.Commands.grammar l.commands.now) l.line l.after) + 2

abbrev pub decreases-search_phrase : goal.decreases-search_phrase
decreases-search_phrase g l = 4 * length (tokens_from (g.C.Commands.grammar l.commands.now) l.line l.after) + 1

abbrev pub invariant-search_slot-loop-rest : goal.invariant-search_slot-loop-rest
invariant-search_slot-loop-rest g l = record {
  counted : l.count + length l.rest ≡ length l.words;
  parted : map (λ word. word.now) l.words ≡ take l.count (map (λ word. word.now) l.words) ++ map (λ word. word.now) l.rest;
  same : option_map (outcome_of (g.C.Commands.grammar l.commands) l.now)
      (slot_filled (candidates (g.C.Commands.grammar l.commands) (g.C.Commands.sees l.commands) (told_token l.slot))
      (first_filled (g.C.Commands.grammar l.commands) (g.C.Commands.sees l.commands) (tokens_from (g.C.Commands.grammar l.commands) l.line l.after))
      (take l.count (map (λ word. word.now) l.words)) (map (λ word. word.now) l.rest))
      ≡ option_map (outcome_of (g.C.Commands.grammar l.commands) l.now)
      (slot_filled (candidates (g.C.Commands.grammar l.commands) (g.C.Commands.sees l.commands) (told_token l.slot))
      (first_filled (g.C.Commands.grammar l.commands) (g.C.Commands.sees l.commands) (tokens_from (g.C.Commands.grammar l.commands) l.line l.after))
      [] (map (λ word. word.now) l.words));
}

abbrev pub decreases-search_slot-loop-rest : goal.decreases-search_slot-loop-rest
decreases-search_slot-loop-rest g l = length l.rest
