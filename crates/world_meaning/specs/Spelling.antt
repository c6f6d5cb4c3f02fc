-- Words are compared without the case of ASCII letters.
use Rattle.std.specs.Prelude.{ℕ, Bool, ◌||◌, ◌==◌, List, codes}
use Rattle.std.specs.Char.{to_ascii_lowercase}
use Rattle.std.specs.List.{list_all}
use Rattle.std.specs.Str.{str_eq_ignore_ascii_case, str_to_ascii_lowercase}

abbrev pub is_spelled : List ℕ → List ℕ → Bool
is_spelled word spelling = str_eq_ignore_ascii_case word spelling

-- one of the words that may stand before a noun
unfoldable pub is_article : List ℕ → Bool
is_article word = is_spelled word (codes "a") || is_spelled word (codes "an") || is_spelled word (codes "the") || is_spelled word (codes "some")

-- the text in small ASCII letters
abbrev pub lowered : List ℕ → List ℕ
lowered text = str_to_ascii_lowercase text

-- no capital letter
abbrev pub is_small_byte : ℕ → Bool
is_small_byte byte = to_ascii_lowercase byte == byte

abbrev pub is_small : List ℕ → Bool
is_small text = list_all is_small_byte text
