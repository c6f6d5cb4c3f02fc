-- Lines are counted by line feeds.
use Rattle.std.proofs.Common.{◌≡◌, ◌≢◌, ℕ, ◌+◌, true, false, eqb, List, [], ◌∷◌, ◌++◌, refl, sym, ap, ◌∙◌, arith}
use Rattle.std.specs.List.{list_all}
use Rattle.std.proofs.lemmas.Bool.{eqb-true, false_from_ne_true}
use Rattle.std.proofs.lemmas.List.Sums.{sum_by-cons}
use Rattle.i7_lexer.specs.declared.cursor.Cursor.{Cursor}
use Rattle.i7_lexer.specs.declared.byte_class.ByteClass.TheVariants.{Blank}
use Rattle.i7_lexer.specs.declared.lexeme.Lexeme.{Lexeme}
use Rattle.i7_lexer.specs.declared.lexeme.Lexeme.TheVariants.{Kept, Space, Comment}
use Rattle.i7_lexer.specs.declared.lexeme.Piece.TheVariants.{Word, Text, Mark}
use Rattle.i7_lexer.specs.Bytes.{is_letter, is_blank, class_of, newlines}
use Rattle.i7_lexer.specs.Lexemes.{IsLexeme, IsCut, spelled}
use Rattle.i7_lexer.specs.Places.{at_front, after, after_all, breaks_of}
use Rattle.i7_lexer.proofs.Folding.{newlines-append, newlines-nil}
use Rattle.i7_lexer.proofs.Runs.{and_left, and_right}

newlines-other : (b : ℕ) (bytes : List ℕ) → b ≢ 10 → newlines (b ∷ bytes) ≡ newlines bytes
unfolding newlines
newlines-other b bytes other = let no : eqb b 10 ≡ false = false_from_ne_true (eqb b 10) (λ e. other (eqb-true b 10 e)) in sum_by-cons _ b bytes ∙ rw no (omega arith)

feed_no_letter : is_letter 10 ≡ false
unfolding is_letter
feed_no_letter = refl

feed_is_blank : class_of 10 ≡ Blank
unfolding class_of is_letter is_blank
feed_is_blank = refl

word-newlines : (word : List ℕ) → list_all is_letter word ≡ true → newlines word ≡ 0
unfolding newlines
word-newlines [] all = refl
word-newlines (b ∷ word) all =
    newlines-other b word (λ e. let yes_letter : is_letter b ≡ true = and_left (is_letter b) (list_all is_letter word) all in let no : is_letter b ≡ false = ap is_letter e ∙ feed_no_letter in cc) ∙ word-newlines word (and_right (is_letter b) (list_all is_letter word) all)

-- a lexeme's line breaks are those of its spelling
breaks_of-is : (l : Lexeme) → IsLexeme l → breaks_of l ≡ newlines (spelled l)
breaks_of-is (Kept (Word word)) is = sym (word-newlines word is.1)
breaks_of-is (Kept (Text inner)) is =
    let first = newlines-other 34 (inner ++ 34 ∷ []) (λ e. absurd (omega arith)) in
    let last = newlines-other 34 [] (λ e. absurd (omega arith)) in
    omega (arith, first, last, newlines-append inner (34 ∷ []), newlines-nil)
breaks_of-is (Kept (Mark b)) is =
    let other = newlines-other b [] (λ e. let no : class_of b ≡ Blank = ap class_of e ∙ feed_is_blank in cc) in
    omega (arith, other, newlines-nil)
breaks_of-is (Space bytes) is = refl
breaks_of-is (Comment inner) is =
    let first = newlines-other 91 (inner ++ 93 ∷ []) (λ e. absurd (omega arith)) in
    let last = newlines-other 93 [] (λ e. absurd (omega arith)) in
    omega (arith, first, last, newlines-append inner (93 ∷ []), newlines-nil)

lines-sum : (ls : List Lexeme) (at : Cursor) (text rest : List ℕ) → IsCut ls text rest → (after_all at ls).line + newlines rest ≡ at.line + newlines text
lines-sum [] at text rest cut = ap (λ t. at.line + newlines t) (sym cut)
lines-sum (l ∷ ls) at text rest (middle, (first, more)) =
    omega (arith, lines-sum ls (after at l) middle rest more, breaks_of-is l first.is_lexeme, ap newlines first.spells, newlines-append (spelled l) middle)

-- behind some lexemes the line is one more than the line feeds in front
pub lines-counted : (ls : List Lexeme) (text front rest : List ℕ) → IsCut ls text rest → text ≡ front ++ rest → (after_all at_front ls).line ≡ 1 + newlines front
lines-counted ls text front rest cut parts =
    omega (arith, lines-sum ls at_front text rest cut, ap newlines parts, newlines-append front rest)
