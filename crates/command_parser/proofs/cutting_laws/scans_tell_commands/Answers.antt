use Rattle.command_parser.proofs.Scanning.{scan_tells}
use Rattle.command_parser.proofs.cutting_laws.scans_tell_commands.Goals as goal

pub returns : goal.returns
returns c = scan_tells
