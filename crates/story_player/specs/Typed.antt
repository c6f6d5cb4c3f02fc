-- A line that is being typed: the bytes that are kept, and what is known of those in front of them.
use Rattle.std.specs.Prelude.{◌≡◌, ℕ, ◌<◌, ◌==◌, Bool, true, false, List, [], ◌∷◌, ◌++◌, fold, length, Option, None, Some, if◌then◌else◌}
use Rattle.play_meaning.specs.CommandLines.{Blank, Overlong, Parts, parts_of}
use Rattle.command_parser.specs.Scanning.{holds_command, scan_with}
use Rattle.command_parser.specs.declared.command_scan.CommandScan.{CommandScan}
use Rattle.command_parser.specs.declared.command_scan.CommandScan.TheVariants.{Cut}
use Rattle.story_player.specs.declared.typed.Typed.{Typed}
use Rattle.story_player.specs.declared.typed.Typed.TheVariants as typed

pub record Typing : Type 0 where
  pub gone : Option CommandScan
  pub kept : List ℕ

-- how many bytes are kept
abbrev pub most_kept : ℕ
most_kept = 256

-- what is known of bytes that were let go: there were none, or over 255, and whether they hold a command
abbrev pub IsGone : Option CommandScan → List ℕ → Type 0
IsGone None bytes = bytes ≡ []
IsGone (Some scan) bytes = (255 < length bytes) × (scan ≡ fold scan_with Cut bytes)

abbrev pub scan_of : Option CommandScan → CommandScan
scan_of None = Cut
scan_of (Some scan) = scan

abbrev pub gone_with : Option CommandScan → List ℕ → Option CommandScan
gone_with gone bytes = Some (fold scan_with (scan_of gone) bytes)

abbrev pub nothing_typed : Typing
nothing_typed = record { gone = None; kept = [] }

abbrev pub is_full : Typing → Bool
is_full t = length t.kept == most_kept

abbrev pub is_nothing : Option CommandScan → Bool
is_nothing None = true
is_nothing (Some scan) = false

abbrev pub is_untyped : Typing → Bool
is_untyped t = if is_nothing t.gone then length t.kept == 0 else false

-- the bytes that are let go where one more is typed
abbrev pub flushed : Typing → List ℕ
flushed t = if is_full t then t.kept else []

abbrev pub typed_with : Typing → ℕ → Typing
typed_with t byte =
    if is_full t then record { gone = gone_with t.gone t.kept; kept = byte ∷ [] }
    else record { gone = t.gone; kept = t.kept ++ byte ∷ [] }

-- a line in front of its line break: all of its bytes, or over 255 of which it is known whether they hold a command
pub data Told : Type 0 where
  Line : List ℕ → Told
  Long : Bool → Told

abbrev pub gone_told : Option CommandScan → List ℕ → Told
gone_told None kept = Line kept
gone_told (Some scan) kept = Long (holds_command (fold scan_with scan kept))

-- what is known of a line behind its last byte
abbrev pub told_of : Typing → Told
told_of t = gone_told t.gone t.kept

abbrev pub told : Typed → Told
told (typed.Whole bytes) = Line bytes.now
told (typed.Overlong has_command) = Long has_command

-- what the line is made of
abbrev pub parts_told : Told → Parts
parts_told (Line line) = parts_of line
parts_told (Long true) = Overlong
parts_told (Long false) = Blank

abbrev pub typed_parts : Typing → Parts
typed_parts t = parts_told (told_of t)
