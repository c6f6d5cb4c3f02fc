-- White space in texts.
use Rattle.std.specs.Prelude.{◌≡◌, ◌≢◌, ℕ, Bool, not, true, false, ◌==◌, if◌then◌else◌, List, [], ◌∷◌, ◌++◌}
use Rattle.std.specs.List.{list_all}
use Rattle.i7_lexer.specs.Bytes.{is_blank, newlines}
use Rattle.i7_lexer.specs.Lexemes.{begins_with}

-- what a run of white space is in a text: one line break is a space, more are a paragraph break
unfoldable pub folded_run : List ℕ → List ℕ
folded_run run = if newlines run == 0 then run else (if newlines run == 1 then 32 ∷ [] else 10 ∷ 10 ∷ [])

-- a text as it is written and as it is read: bytes, and runs of white space that are as long as
-- they can be
pub data IsFolded : List ℕ → List ℕ → Type 0 where
  nothing : IsFolded [] []
  byte : {b : ℕ} {bytes text : List ℕ} → is_blank b ≡ false → IsFolded bytes text → IsFolded (b ∷ bytes) (b ∷ text)
  white : {blanks bytes text : List ℕ} → blanks ≢ [] → list_all is_blank blanks ≡ true → begins_with is_blank bytes ≡ false → IsFolded bytes text
      → IsFolded (blanks ++ bytes) (folded_run blanks ++ text)

abbrev pub is_unblank : ℕ → Bool
is_unblank b = not (is_blank b)

-- the text behind a run of white space that may go on
abbrev pub folded_behind : List ℕ → List ℕ → List ℕ
folded_behind run [] = folded_run run
folded_behind run (b ∷ bytes) = if is_blank b then folded_behind (run ++ b ∷ []) bytes else folded_run run ++ b ∷ folded_behind [] bytes

-- a text with each run of white space folded
abbrev pub folded : List ℕ → List ℕ
folded bytes = folded_behind [] bytes
