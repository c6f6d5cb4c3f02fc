-- A text that is cut, lexeme by lexeme.
use Rattle.std.proofs.Common.{◌≡◌, ℕ, ◌+◌, ◌<◌, ◌≤◌, List, [], ◌∷◌, ◌++◌, length, Some, None, refl, sym, ap, ◌∙◌, length-append, arith}
use Rattle.i7_lexer.specs.declared.cursor.Cursor.{Cursor}
use Rattle.i7_lexer.specs.declared.lexeme.Lexeme.{Lexeme}
use Rattle.i7_lexer.specs.declared.lexeme.Lexeme.TheVariants.{Kept, Space, Comment}
use Rattle.i7_lexer.specs.declared.lexeme.Piece.TheVariants.{Word, Text, Mark}
use Rattle.std.proofs.lemmas.List.Sums.{count_by-le-length}
use Rattle.i7_lexer.specs.Bytes.{newlines}
use Rattle.i7_lexer.specs.Lexemes.{IsNext, IsCut, spelled}
use Rattle.i7_lexer.specs.Places.{at_front, after, after_all, breaks_of}
use Rattle.i7_lexer.specs.Scans.{next_of}
use Rattle.i7_lexer.specs.Cuts.{IsUnclosedIn}
use Rattle.i7_lexer.proofs.Scanning.{next_is, unclosed_is}

pub newlines-le-length : (bytes : List ℕ) → newlines bytes ≤ length bytes
unfolding newlines
newlines-le-length bytes = count_by-le-length _ bytes

-- a lexeme holds no more line breaks than bytes
pub breaks_of-le : (l : Lexeme) → breaks_of l ≤ length (spelled l)
breaks_of-le (Kept (Word bytes)) = omega arith
breaks_of-le (Kept (Text bytes)) = omega (arith, newlines-le-length bytes, length-append bytes (34 ∷ []))
breaks_of-le (Kept (Mark b)) = omega arith
breaks_of-le (Space bytes) = newlines-le-length bytes
breaks_of-le (Comment bytes) = omega (arith, newlines-le-length bytes, length-append bytes (93 ∷ []))

-- a lexeme has at least one byte
pub next-shorter : (l : Lexeme) (bytes rest : List ℕ) → IsNext l bytes rest → length rest < length bytes
next-shorter (Kept (Word [])) bytes rest next = absurd (next.is_lexeme.0 refl)
next-shorter (Kept (Word (b ∷ word))) bytes rest next = omega (arith, ap length next.spells, length-append (b ∷ word) rest)
next-shorter (Kept (Text inner)) bytes rest next = omega (arith, ap length next.spells, length-append (34 ∷ inner ++ 34 ∷ []) rest)
next-shorter (Kept (Mark b)) bytes rest next = omega (arith, ap length next.spells)
next-shorter (Space []) bytes rest next = absurd (next.is_lexeme.0 refl)
next-shorter (Space (b ∷ space)) bytes rest next = omega (arith, ap length next.spells, length-append (b ∷ space) rest)
next-shorter (Comment inner) bytes rest next = omega (arith, ap length next.spells, length-append (91 ∷ inner ++ 93 ∷ []) rest)

pub record SoFar (text rest : List ℕ) (at : Cursor) : Type 0 where
  pub lexemes : List Lexeme
  pub cut : IsCut lexemes text rest
  pub at_is : at ≡ after_all at_front lexemes

pub cut-push : (ls : List Lexeme) (l : Lexeme) (text rest behind : List ℕ) → IsCut ls text rest → IsNext l rest behind → IsCut (ls ++ l ∷ []) text behind
cut-push [] l text rest behind cut next = (behind, (rw cut next, refl))
cut-push (k ∷ ls) l text rest behind (middle, (first, more)) next = (middle, (first, cut-push ls l middle rest behind more next))

pub after_all-push : (ls : List Lexeme) (l : Lexeme) (at : Cursor) → after_all at (ls ++ l ∷ []) ≡ after (after_all at ls) l
after_all-push [] l at = refl
after_all-push (k ∷ ls) l at = after_all-push ls l (after at k)

-- one more lexeme
abbrev pub so_far-push : (text rest behind : List ℕ) (at at' : Cursor) (l : Lexeme) → SoFar text rest at → next_of rest ≡ Some (l, behind) → at' ≡ after at l → SoFar text behind at'
so_far-push text rest behind at at' l before found at_is = record {
  lexemes = before.lexemes ++ l ∷ [];
  cut = cut-push before.lexemes l text rest behind before.cut (next_is rest l behind found);
  at_is = at_is ∙ (ap (λ t. after t l) before.at_is ∙ sym (after_all-push before.lexemes l at_front));
}

-- a line's number is at most the number of bytes before it, and one
line-bound : (ls : List Lexeme) (at : Cursor) (text rest : List ℕ) → IsCut ls text rest → (after_all at ls).line + length rest ≤ at.line + length text
line-bound [] at text rest cut = omega (arith, ap length cut)
line-bound (l ∷ ls) at text rest (middle, (first, more)) =
    omega (arith, line-bound ls (after at l) middle rest more, breaks_of-le l, ap length first.spells, length-append (spelled l) middle)

pub so_far-bound : (text rest : List ℕ) (at : Cursor) → SoFar text rest at → at.line + length rest ≤ 1 + length text
so_far-bound text rest at before = rw before.at_is (line-bound before.lexemes at_front text rest before.cut)

-- the lexeme that is read lies within the rest
pub next-within : (rest : List ℕ) (l : Lexeme) (behind : List ℕ) → next_of rest ≡ Some (l, behind) → (length (spelled l) + length behind ≡ length rest) × (breaks_of l ≤ length (spelled l)) × (length behind < length rest)
next-within rest l behind found =
    let next = next_is rest l behind found in
    (sym (ap length next.spells ∙ length-append (spelled l) behind), breaks_of-le l, next-shorter l rest behind next)

pub so_far-unclosed : (text rest : List ℕ) (at : Cursor) → SoFar text rest at → 0 < length rest → next_of rest ≡ None → IsUnclosedIn text at.line
so_far-unclosed text [] at before h none = absurd (omega arith)
so_far-unclosed text (b ∷ bytes) at before h none = record {
  lexemes = before.lexemes;
  rest = b ∷ bytes;
  cut = before.cut;
  unclosed = unclosed_is b bytes none;
  line_is = ap (λ t. t.line) before.at_is;
}
