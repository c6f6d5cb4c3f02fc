use Rattle.std.proofs.Common.{◌≡◌, length}
use Rattle.std.specs.Prelude.{fold}
use Rattle.command_parser.specs.Scanning.{scan_with}
use Rattle.command_parser.proofs.command_scan.CommandScan.over.Given as goal

abbrev pub invariant-loop-rest : goal.invariant-loop-rest
invariant-loop-rest l = fold scan_with l.scan l.rest ≡ fold scan_with l.fn.self l.bytes

abbrev pub decreases-loop-rest : goal.decreases-loop-rest
decreases-loop-rest l = length l.rest
