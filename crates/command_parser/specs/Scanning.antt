-- Whether bytes that are read one by one hold a command.
use Rattle.std.specs.Prelude.{ℕ, Bool, true, false, ◌==◌, List, [], ◌∷◌, if◌then◌else◌}
use Rattle.std.specs.Char.{to_ascii_lowercase}
use Rattle.command_parser.specs.Cutting.{ends_word}
use Rattle.command_parser.specs.declared.command_scan.CommandScan.{CommandScan}
use Rattle.command_parser.specs.declared.command_scan.CommandScan.TheVariants.{Command, Cut, T, Th, The, Then}

abbrev pub is_there : List (List (List ℕ)) → Bool
is_there [] = false
is_there (command ∷ commands) = true

-- whatever the case of the letter
abbrev pub is_letter : ℕ → ℕ → Bool
is_letter b letter = to_ascii_lowercase b == letter

-- behind a byte that ends a word
abbrev pub scan_ended : CommandScan → CommandScan
scan_ended Cut = Cut
scan_ended T = Command
scan_ended Th = Command
scan_ended The = Command
scan_ended Then = Cut
scan_ended Command = Command

-- behind a byte of a word
abbrev pub scan_spelled : CommandScan → ℕ → CommandScan
scan_spelled Cut b = if is_letter b 116 then T else Command
scan_spelled T b = if is_letter b 104 then Th else Command
scan_spelled Th b = if is_letter b 101 then The else Command
scan_spelled The b = if is_letter b 110 then Then else Command
scan_spelled Then b = Command
scan_spelled Command b = Command

abbrev pub scan_with : CommandScan → ℕ → CommandScan
scan_with scan b = if ends_word b then scan_ended scan else scan_spelled scan b

abbrev pub holds_command : CommandScan → Bool
holds_command Cut = false
holds_command T = true
holds_command Th = true
holds_command The = true
holds_command Then = false
holds_command Command = true
