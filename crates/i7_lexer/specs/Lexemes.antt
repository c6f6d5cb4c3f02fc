-- What a source is made of.
use Rattle.std.specs.Prelude.{◌≡◌, ◌≢◌, ◌⊎◌, ℕ, Bool, true, false, not, ◌==◌, List, [], ◌∷◌, ◌++◌}
use Rattle.std.specs.List.{list_all}
use Rattle.i7_lexer.specs.declared.byte_class.ByteClass.TheVariants.{Other}
use Rattle.i7_lexer.specs.declared.lexeme.Lexeme.{Lexeme}
use Rattle.i7_lexer.specs.declared.lexeme.Lexeme.TheVariants.{Kept, Space, Comment}
use Rattle.i7_lexer.specs.declared.lexeme.Piece.TheVariants.{Word, Text, Mark}
use Rattle.i7_lexer.specs.Bytes.{is_letter, is_blank, class_of}

-- the bytes that a lexeme is written with
abbrev pub spelled : Lexeme → List ℕ
spelled (Kept (Word bytes)) = bytes
spelled (Kept (Text bytes)) = 34 ∷ bytes ++ 34 ∷ []
spelled (Kept (Mark b)) = b ∷ []
spelled (Space bytes) = bytes
spelled (Comment bytes) = 91 ∷ bytes ++ 93 ∷ []

-- the inside of a comment: comments nest, and quotes count for nothing
pub data IsInside : List ℕ → Type 0 where
  nothing : IsInside []
  byte : {b : ℕ} {bytes : List ℕ} → b ≢ 91 → b ≢ 93 → IsInside bytes → IsInside (b ∷ bytes)
  nested : {inner bytes : List ℕ} → IsInside inner → IsInside bytes → IsInside (91 ∷ inner ++ 93 ∷ bytes)

-- the bytes that a lexeme may hold
abbrev pub IsLexeme : Lexeme → Type 0
IsLexeme (Kept (Word bytes)) = (bytes ≢ []) × (list_all is_letter bytes ≡ true)
IsLexeme (Kept (Text bytes)) = list_all (λ b. not (b == 34)) bytes ≡ true
IsLexeme (Kept (Mark b)) = class_of b ≡ Other
IsLexeme (Space bytes) = (bytes ≢ []) × (list_all is_blank bytes ≡ true)
IsLexeme (Comment bytes) = IsInside bytes

abbrev pub begins_with : (ℕ → Bool) → List ℕ → Bool
begins_with p [] = false
begins_with p (b ∷ bytes) = p b

-- words and white space are as long as they can be
abbrev pub StopsAt : Lexeme → List ℕ → Type 0
StopsAt (Kept (Word _)) rest = begins_with is_letter rest ≡ false
StopsAt (Kept (Text _)) rest = Unit {0}
StopsAt (Kept (Mark _)) rest = Unit {0}
StopsAt (Space _) rest = begins_with is_blank rest ≡ false
StopsAt (Comment _) rest = Unit {0}

-- the bytes begin with this lexeme, and the rest stands behind it
pub record IsNext (l : Lexeme) (bytes rest : List ℕ) : Type 0 where
  pub spells : bytes ≡ spelled l ++ rest
  pub is_lexeme : IsLexeme l
  pub stops : StopsAt l rest

-- the bytes are these lexemes, and then the rest
abbrev pub IsCut : List Lexeme → List ℕ → List ℕ → Type 0
IsCut [] bytes rest = bytes ≡ rest
IsCut (l ∷ ls) bytes rest = (after : List ℕ) × (IsNext l bytes after × IsCut ls after rest)

-- the bytes begin with a text or a comment that has no end
abbrev pub IsUnclosed : List ℕ → Type 0
IsUnclosed [] = ⊥
IsUnclosed (b ∷ bytes) = ((b ≡ 34) × (list_all (λ c. not (c == 34)) bytes ≡ true)) ⊎ ((b ≡ 91) × ((inner rest : List ℕ) → IsInside inner → bytes ≡ inner ++ 93 ∷ rest → ⊥))
