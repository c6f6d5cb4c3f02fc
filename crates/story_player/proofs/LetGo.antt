-- What is known of the bytes of a line that were let go is enough to tell what the line is made of.
use Rattle.std.proofs.Common.{◌≡◌, ◌∙◌, ap, sym, refl, ℕ, ◌<◌, true, List, [], ◌∷◌, ◌++◌, length, arith}
use Rattle.std.specs.Prelude.{fold, Option, None, Some}
use Rattle.std.proofs.lemmas.Bool.{lt-ltb}
use Rattle.std.proofs.lemmas.List.{length-append}
use Rattle.command_parser.proofs.Scanning.{scan_tells}
use Rattle.command_parser.specs.Scanning.{holds_command, is_there, scan_with}
use Rattle.command_parser.specs.declared.command_scan.CommandScan.{CommandScan}
use Rattle.command_parser.specs.declared.command_scan.CommandScan.TheVariants.{Cut}
use Rattle.play_meaning.specs.CommandLines.{commands_of, is_too_long, parted, parts_of}
use Rattle.story_player.specs.Typed.{IsGone, Long, gone_told, gone_with, parts_told}

fold-append : {A B : Type 0} (f : A → B → A) (start : A) (xs ys : List B) → fold f start (xs ++ ys) ≡ fold f (fold f start xs) ys
fold-append f start [] ys = refl
fold-append f start (x ∷ xs) ys = fold-append f (f start x) xs ys

over_limit : (bytes : List ℕ) → 255 < length bytes → is_too_long bytes ≡ true
over_limit bytes long = rw (lt-ltb 255 (length bytes) long) refl

long_parts : (commands : List (List (List ℕ))) → parts_told (Long (is_there commands)) ≡ parted true commands
long_parts [] = refl
long_parts (command ∷ commands) = refl

long_line : (bytes : List ℕ) → 255 < length bytes → parts_told (Long (holds_command (fold scan_with Cut bytes))) ≡ parts_of bytes
long_line bytes long =
    ap (λ there. parts_told (Long there)) (scan_tells bytes) ∙ long_parts (commands_of bytes)
    ∙ ap (λ long. parted long (commands_of bytes)) (sym (over_limit bytes long))

pub parts_typed : (gone : Option CommandScan) (front kept : List ℕ) → IsGone gone front → parts_told (gone_told gone kept) ≡ parts_of (front ++ kept)
parts_typed None front kept is = ap (λ bytes. parts_of (bytes ++ kept)) (sym is)
parts_typed (Some scan) front kept is =
    ap (λ scan. parts_told (Long (holds_command scan))) (ap (λ scan. fold scan_with scan kept) is.1 ∙ sym (fold-append scan_with Cut front kept))
    ∙ long_line (front ++ kept) (omega (arith, is.0, length-append front kept))

-- bytes that are let go behind others
pub gone-more : (gone : Option CommandScan) (front kept : List ℕ) → 255 < length kept → IsGone gone front → IsGone (gone_with gone kept) (front ++ kept)
gone-more None front kept long is = (omega (arith, long, length-append front kept), ap (λ bytes. fold scan_with Cut (bytes ++ kept)) (sym is))
gone-more (Some scan) front kept long is =
    (omega (arith, is.0, length-append front kept), ap (λ scan. fold scan_with scan kept) is.1 ∙ sym (fold-append scan_with Cut front kept))
