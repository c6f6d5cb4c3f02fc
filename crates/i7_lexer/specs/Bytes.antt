-- The classes of a source's bytes.
use Rattle.std.specs.Prelude.{ℕ, Bool, ◌==◌, ◌||◌, nat_le, if◌then◌else◌, List, count_by}
use Rattle.std.specs.Char.{is_ascii_alphanumeric}
use Rattle.i7_lexer.specs.declared.byte_class.ByteClass.{ByteClass}
use Rattle.i7_lexer.specs.declared.byte_class.ByteClass.TheVariants.{Letter, Blank, Quote, Bracket, Other}

-- a byte of a word: an ASCII letter or digit, an apostrophe, a hyphen, a byte past ASCII
unfoldable pub is_letter : ℕ → Bool
is_letter b = is_ascii_alphanumeric b || b == 39 || b == 45 || nat_le 128 b

-- a space, a tab or a line feed
unfoldable pub is_blank : ℕ → Bool
is_blank b = b == 32 || b == 9 || b == 10

-- what a byte begins outside texts and comments
unfoldable pub class_of : ℕ → ByteClass
class_of b = if is_letter b then Letter else (if is_blank b then Blank else (if b == 34 then Quote else (if b == 91 then Bracket else Other)))

-- how many line feeds the bytes hold
unfoldable pub newlines : List ℕ → ℕ
newlines bytes = count_by (λ b. b == 10) bytes
