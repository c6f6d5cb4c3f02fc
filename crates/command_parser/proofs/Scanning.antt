-- Bytes that are read one by one tell whether there is a command.
use Rattle.std.proofs.Common.{◌≡◌, ℕ, ◌+◌, Bool, true, false, List, [], ◌∷◌, ◌++◌, take, drop, fold, refl, ap, sym, ◌∙◌, inl, inr}
use Rattle.std.specs.Prelude.{◌&&◌, ◌==◌, filter, if◌then◌else◌, codes}
use Rattle.std.specs.List.{position_or_len}
use Rattle.std.specs.Char.{to_ascii_lowercase}
use Rattle.std.proofs.lemmas.Bool.{cases_Bool, or_cases, or_parts}
use Rattle.world_meaning.specs.Reading.{is_blank}
use Rattle.world_meaning.specs.Spelling.{is_spelled}
use Rattle.play_meaning.specs.CommandLines.{Blank, Overlong, commands_of, has_words, is_full_stop, is_then, is_too_long, parted, parts_of}
use Rattle.command_parser.specs.Cutting.{commands_from, ends_word, onto_words}
use Rattle.command_parser.specs.Scanning.{holds_command, is_letter, is_there, scan_ended, scan_spelled, scan_with}
use Rattle.command_parser.specs.declared.command_scan.CommandScan.{CommandScan}
use Rattle.command_parser.specs.declared.command_scan.CommandScan.TheVariants.{Command, Cut, T, Th, The, Then}
use Rattle.command_parser.proofs.Cuts.{begins_word, drop_one, from_blank, from_more, from_none, from_stop, from_then, take_one}

-- the bytes of the word in front, and those behind it
abbrev word_of : List ℕ → List ℕ
word_of bytes = take (position_or_len ends_word bytes) bytes

abbrev behind_of : List ℕ → List ℕ
behind_of bytes = drop (position_or_len ends_word bytes) bytes

-- whether there is a command, where the word in front goes on with these letters if it is `then`
abbrev goes_on_with : List ℕ → List ℕ → Bool
goes_on_with letters bytes = if is_spelled (word_of bytes) letters then is_there (commands_of (behind_of bytes)) else true

-- whether there is a command, by what is known so far and the bytes that are left
abbrev holds_behind : CommandScan → List ℕ → Bool
holds_behind Cut bytes = is_there (commands_of bytes)
holds_behind T bytes = goes_on_with (codes "hen") bytes
holds_behind Th bytes = goes_on_with (codes "en") bytes
holds_behind The bytes = goes_on_with (codes "n") bytes
holds_behind Then bytes = goes_on_with [] bytes
holds_behind Command bytes = true

-- ---- a word in front

some_there : (word : List ℕ) (words : List (List ℕ)) (commands others : List (List (List ℕ))) → is_there (filter has_words (onto_words (word ∷ words) commands ++ others)) ≡ true
some_there word words [] others = refl
some_there word words (command ∷ commands) others = refl

from_there : (word : List ℕ) (words : List (List ℕ)) (bytes : List ℕ) → is_there (commands_from (word ∷ words) bytes) ≡ true
unfolding commands_from
from_there word words bytes = some_there word words _ _

word_there : (b : ℕ) (bytes : List ℕ) → is_full_stop b ≡ false → is_blank b ≡ false → is_there (commands_of (b ∷ bytes)) ≡ goes_on_with (codes "then") (b ∷ bytes)
word_there b bytes more isnt =
    let here = begins_word b bytes more isnt in
    ap is_there (sym (from_none (b ∷ bytes)))
    ∙ elim (cases_Bool (is_then (word_of (b ∷ bytes)))) [
      | inl cuts ↦ ap is_there (from_then [] (b ∷ bytes) here cuts) ∙ sym (ap (λ (is : Bool). if is then is_there (commands_of (behind_of (b ∷ bytes))) else true) cuts)
      | inr goes_on ↦ ap is_there (from_more [] (b ∷ bytes) here goes_on) ∙ from_there (word_of (b ∷ bytes)) [] (behind_of (b ∷ bytes))
          ∙ sym (ap (λ (is : Bool). if is then is_there (commands_of (behind_of (b ∷ bytes))) else true) goes_on)
    ]

-- one letter more
letter_more : (b letter : ℕ) (letters bytes : List ℕ) → is_full_stop b ≡ false → is_blank b ≡ false
    → goes_on_with (letter ∷ letters) (b ∷ bytes) ≡ (if is_spelled (b ∷ word_of bytes) (letter ∷ letters) then is_there (commands_of (behind_of bytes)) else true)
letter_more b letter letters bytes more isnt = rw (more, isnt) (
    ap (λ word. if is_spelled word (letter ∷ letters) then is_there (commands_of (drop (1 + position_or_len ends_word bytes) (b ∷ bytes))) else true) (take_one (position_or_len ends_word bytes) b bytes)
    ∙ ap (λ behind. if is_spelled (b ∷ word_of bytes) (letter ∷ letters) then is_there (commands_of behind) else true) (drop_one (position_or_len ends_word bytes) b bytes))

-- ---- one byte more

ends_there : (b : ℕ) (bytes : List ℕ) → ends_word b ≡ true → is_there (commands_of (b ∷ bytes)) ≡ is_there (commands_of bytes)
ends_there b bytes ends = elim (or_cases (is_blank b) (is_full_stop b) ends) [
  | inl blank ↦ ap is_there (sym (from_none (b ∷ bytes)) ∙ from_blank [] b bytes blank ∙ from_none bytes)
  | inr stop ↦ ap is_there (sym (from_none (b ∷ bytes)) ∙ from_stop [] b bytes stop)
]

-- no word is in front
at_end : (letters : List ℕ) (b : ℕ) (bytes : List ℕ) → ends_word b ≡ true → goes_on_with letters (b ∷ bytes) ≡ (if is_spelled [] letters then is_there (commands_of (b ∷ bytes)) else true)
at_end letters b bytes ends = rw ends refl

behind_end : (scan : CommandScan) (b : ℕ) (bytes : List ℕ) → ends_word b ≡ true → holds_behind scan (b ∷ bytes) ≡ holds_behind (scan_ended scan) bytes
behind_end Cut b bytes ends = ends_there b bytes ends
behind_end T b bytes ends = at_end (codes "hen") b bytes ends
behind_end Th b bytes ends = at_end (codes "en") b bytes ends
behind_end The b bytes ends = at_end (codes "n") b bytes ends
behind_end Then b bytes ends = at_end [] b bytes ends ∙ ends_there b bytes ends
behind_end Command b bytes ends = refl

chosen : (is spelled holds : Bool) (next : CommandScan) (bytes : List ℕ) → holds_behind next bytes ≡ (if spelled then holds else true)
    → (if is && spelled then holds else true) ≡ holds_behind (if is then next else Command) bytes
chosen true spelled holds next bytes same = sym same
chosen false spelled holds next bytes same = refl

module _ (b : ℕ) (bytes : List ℕ) (more : is_full_stop b ≡ false) (isnt : is_blank b ≡ false) where
  letter_next : (letter : ℕ) (letters : List ℕ) (next : CommandScan) → to_ascii_lowercase letter ≡ letter → holds_behind next bytes ≡ goes_on_with letters bytes
      → goes_on_with (letter ∷ letters) (b ∷ bytes) ≡ holds_behind (if is_letter b letter then next else Command) bytes
  letter_next letter letters next small same =
      letter_more b letter letters bytes more isnt
      ∙ ap (λ l. if (to_ascii_lowercase b == l) && is_spelled (word_of bytes) letters then is_there (commands_of (behind_of bytes)) else true) small
      ∙ chosen (is_letter b letter) (is_spelled (word_of bytes) letters) (is_there (commands_of (behind_of bytes))) next bytes same

  no_letter : goes_on_with [] (b ∷ bytes) ≡ true
  no_letter = rw (more, isnt) (ap (λ word. if is_spelled word [] then is_there (commands_of (drop (1 + position_or_len ends_word bytes) (b ∷ bytes))) else true) (take_one (position_or_len ends_word bytes) b bytes))

  behind_letter : (scan : CommandScan) → holds_behind scan (b ∷ bytes) ≡ holds_behind (scan_spelled scan b) bytes
  behind_letter Cut = word_there b bytes more isnt ∙ letter_next 116 (codes "hen") T refl refl
  behind_letter T = letter_next 104 (codes "en") Th refl refl
  behind_letter Th = letter_next 101 (codes "n") The refl refl
  behind_letter The = letter_next 110 [] Then refl refl
  behind_letter Then = no_letter
  behind_letter Command = refl

one_more : (scan : CommandScan) (b : ℕ) (bytes : List ℕ) → holds_behind scan (b ∷ bytes) ≡ holds_behind (scan_with scan b) bytes
one_more scan b bytes = elim (cases_Bool (ends_word b)) [
  | inl ends ↦ behind_end scan b bytes ends ∙ sym (ap (λ (is : Bool). holds_behind (if is then scan_ended scan else scan_spelled scan b) bytes) ends)
  | inr goes_on ↦
      let parts = or_parts (is_blank b) (is_full_stop b) goes_on in
      behind_letter b bytes parts.1 parts.0 scan ∙ sym (ap (λ (is : Bool). holds_behind (if is then scan_ended scan else scan_spelled scan b) bytes) goes_on)
]

no_more : (scan : CommandScan) → holds_command scan ≡ holds_behind scan []
unfolding commands_of
no_more Cut = refl
no_more T = refl
no_more Th = refl
no_more The = refl
no_more Then = refl
no_more Command = refl

scan_from : (scan : CommandScan) (bytes : List ℕ) → holds_command (fold scan_with scan bytes) ≡ holds_behind scan bytes
scan_from scan [] = no_more scan
scan_from scan (b ∷ bytes) = scan_from (scan_with scan b) bytes ∙ sym (one_more scan b bytes)

pub scan_tells : (bytes : List ℕ) → holds_command (fold scan_with Cut bytes) ≡ is_there (commands_of bytes)
scan_tells bytes = scan_from Cut bytes

-- ---- the parts of a line

parted_blank : (long : Bool) (commands : List (List (List ℕ))) → is_there commands ≡ false → Blank ≡ parted long commands
parted_blank long [] none = refl
parted_blank long (command ∷ commands) none = absurd cc

pub blank_so : (line : List ℕ) → is_there (commands_of line) ≡ false → Blank ≡ parts_of line
blank_so line none = parted_blank (is_too_long line) (commands_of line) none

parted_overlong : (long : Bool) (commands : List (List (List ℕ))) → long ≡ true → is_there commands ≡ true → Overlong ≡ parted long commands
parted_overlong true [] long some = absurd cc
parted_overlong true (command ∷ commands) long some = refl
parted_overlong false commands long some = absurd cc

pub overlong_so : (line : List ℕ) → is_too_long line ≡ true → is_there (commands_of line) ≡ true → Overlong ≡ parts_of line
overlong_so line long some = parted_overlong (is_too_long line) (commands_of line) long some
