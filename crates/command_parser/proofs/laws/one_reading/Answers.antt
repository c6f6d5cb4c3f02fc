use Rattle.command_parser.proofs.Apart.{told_apart}
use Rattle.command_parser.proofs.laws.one_reading.Goals as goal

pub returns : goal.returns
returns c = told_apart
