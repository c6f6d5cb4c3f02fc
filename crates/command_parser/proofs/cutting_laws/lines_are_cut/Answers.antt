use Rattle.std.proofs.Common.{refl}
use Rattle.play_meaning.specs.CommandLines.{commands_of}
use Rattle.command_parser.proofs.cutting_laws.lines_are_cut.Goals as goal

pub returns : goal.returns
unfolding commands_of
returns c = record { stop_and_then = refl; behind_stop = refl; blank = refl; any_case = refl; whole_word = refl; no_word = refl; one = refl; blank_however_long = refl; overlong = refl }
