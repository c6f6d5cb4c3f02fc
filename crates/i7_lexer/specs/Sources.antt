-- A source's bytes: what is dropped before it is read, and what no source may hold.
use Rattle.std.specs.Prelude.{◌≡◌, ◌≢◌, ◌⊎◌, ℕ, ◌+◌, ◌<◌, ◌≤◌, Bool, false, ◌==◌, ◌||◌, ◌&&◌, not, nat_le, nat_lt, if◌then◌else◌, List, [], ◌∷◌, ◌++◌, encode_utf8, take, drop, length}
use Rattle.std.specs.Str.Lossy.{utf8_valid_len}
use Rattle.i7_lexer.specs.Bytes.{newlines}

-- the bytes without a byte order mark at their front
abbrev pub without_mark : List ℕ → List ℕ
without_mark (a ∷ b ∷ c ∷ rest) = if a == 0xEF && b == 0xBB && c == 0xBF then rest else a ∷ b ∷ c ∷ rest
without_mark bytes = bytes

abbrev pub is_unreturned : ℕ → Bool
is_unreturned b = not (b == 13)

abbrev pub starts_with_feed : List ℕ → Bool
starts_with_feed [] = false
starts_with_feed (b ∷ bytes) = b == 10

-- the bytes without each return that stands right before a line feed
abbrev pub without_returns : List ℕ → List ℕ
without_returns [] = []
without_returns (b ∷ bytes) = if b == 13 && starts_with_feed bytes then without_returns bytes else b ∷ without_returns bytes

-- what is read of a source
unfoldable pub text_of : List ℕ → List ℕ
text_of source = without_returns (without_mark source)

-- a control character of ASCII other than a tab and a line feed
unfoldable pub is_control : ℕ → Bool
is_control b = (nat_lt b 32 && not (b == 9) && not (b == 10)) || b == 127

-- the bytes of a control character past ASCII, U+0080 to U+009F
unfoldable pub is_late_control : ℕ → ℕ → Bool
is_late_control a b = a == 194 && nat_le 128 b && nat_lt b 160

-- a control character that no source may hold begins these bytes
abbrev pub starts_with_control : List ℕ → Bool
starts_with_control [] = false
starts_with_control (a ∷ []) = is_control a
starts_with_control (a ∷ b ∷ rest) = is_control a || is_late_control a b

-- a control character, U+0000 to U+001F or U+007F to U+009F, other than a tab and a line feed
abbrev pub IsForbidden : ℕ → Type 0
IsForbidden c = ((c < 32) ⊎ ((127 ≤ c) × (c < 160))) × (c ≢ 9) × (c ≢ 10)

-- the bytes begin with a control character that no source may hold
pub record BeginsWithControl (bytes : List ℕ) : Type 0 where
  pub control : ℕ
  pub forbidden : IsForbidden control
  pub rest : List ℕ
  pub spells : bytes ≡ encode_utf8 control ++ rest

-- no character of a source stands there: the bytes are UTF-8 up to there and no further, or a
-- control character stands there
abbrev pub IsBad : List ℕ → ℕ → Type 0
IsBad bytes place = (place ≡ utf8_valid_len bytes) ⊎ BeginsWithControl (drop place bytes)

-- the first place where no character of a source stands
pub record IsFirstBad (bytes : List ℕ) (place : ℕ) : Type 0 where
  pub within : place < length bytes
  pub bad : IsBad bytes place
  pub first : (k : ℕ) → k < place → IsBad bytes k → ⊥

-- characters of a source stand everywhere
abbrev pub IsText : List ℕ → Type 0
IsText bytes = (k : ℕ) → k < length bytes → IsBad bytes k → ⊥

-- how many bytes stand before the first control character
abbrev pub plain_len : List ℕ → ℕ
plain_len [] = 0
plain_len (b ∷ bytes) = if starts_with_control (b ∷ bytes) then 0 else 1 + plain_len bytes

-- the line of the byte at a place, counted from 1
unfoldable pub line_at : List ℕ → ℕ → ℕ
line_at bytes place = 1 + newlines (take place bytes)
