use Rattle.std.proofs.Common.{◌≡◌, drop}
use Rattle.std.specs.List.{list_all}
use Rattle.play_meaning.specs.Grammar.{has_word}
use Rattle.command_parser.proofs.candidates.are_words_of.Given as goal

abbrev pub invariant-loop-place : goal.invariant-loop-place
invariant-loop-place g l =
    list_all (has_word ((g.C.Commands.grammar l.commands).words l.other)) (drop l.place ((g.C.Commands.grammar l.commands).words l.object))
    ≡ list_all (has_word ((g.C.Commands.grammar l.commands).words l.other)) ((g.C.Commands.grammar l.commands).words l.object)
