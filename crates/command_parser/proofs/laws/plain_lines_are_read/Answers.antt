use Rattle.command_parser.proofs.PlainLines.{empty_is, quit_is, quit_letter_is, undo_is}
use Rattle.command_parser.proofs.laws.plain_lines_are_read.Goals as goal

pub returns : goal.returns
returns c = record { empty = empty_is; undo = undo_is; quit = quit_is; q = quit_letter_is }
