use Rattle.command_parser.proofs.PlainLines.{all_is}
use Rattle.command_parser.proofs.laws.all_is_read.Goals as goal

pub returns : goal.returns
returns c = all_is
