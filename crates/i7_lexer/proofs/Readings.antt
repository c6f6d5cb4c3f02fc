-- A text is made of lexemes in one way.
use Rattle.std.proofs.Common.{◌≡◌, ℕ, true, false, List, [], ◌∷◌, ◌++◌, length, Option, Some, None, refl, sym, ap, ◌∙◌, subst, append_assoc, inl, inr, arith}
use Rattle.std.specs.List.{list_all}
use Rattle.std.proofs.lemmas.List.{take_at, drop_at}
use Rattle.i7_lexer.specs.declared.byte_class.ByteClass.TheVariants.{Letter, Blank}
use Rattle.i7_lexer.specs.declared.lexeme.Lexeme.{Lexeme}
use Rattle.i7_lexer.specs.declared.lexeme.Lexeme.TheVariants.{Kept, Space, Comment}
use Rattle.i7_lexer.specs.declared.lexeme.Piece.TheVariants.{Word, Text, Mark}
use Rattle.i7_lexer.specs.Bytes.{is_letter, is_blank, class_of}
use Rattle.i7_lexer.specs.Lexemes.{IsNext, IsCut, IsUnclosed, IsInside, begins_with}
use Rattle.i7_lexer.specs.Scans.{next_of, word_of, space_of, text_from, comment_from}
use Rattle.i7_lexer.proofs.Runs.{prefix_len_at, and_left}
use Rattle.i7_lexer.proofs.Classes.{class-letter, class-blank, class_34, class_91}
use Rattle.i7_lexer.proofs.Quotes.{front_of_is, no_quote, behind_quote_at, behind_quote_none}
use Rattle.i7_lexer.proofs.Comments.{closing_at, closing_none}
use Rattle.i7_lexer.proofs.Cutting.{next-shorter}

word_of_at : (word rest : List ℕ) → list_all is_letter word ≡ true → begins_with is_letter rest ≡ false → word_of (word ++ rest) ≡ (Kept (Word word), rest)
unfolding word_of
word_of_at word rest all stops =
    rw (prefix_len_at is_letter word rest all stops, take_at word rest (length word) refl, drop_at word rest (length word) refl) refl

space_of_at : (space rest : List ℕ) → list_all is_blank space ≡ true → begins_with is_blank rest ≡ false → space_of (space ++ rest) ≡ (Space space, rest)
unfolding space_of
space_of_at space rest all stops =
    rw (prefix_len_at is_blank space rest all stops, take_at space rest (length space) refl, drop_at space rest (length space) refl) refl

text_from_at : (inner rest : List ℕ) → no_quote inner ≡ true → text_from ((inner ++ 34 ∷ []) ++ rest) ≡ Some (Kept (Text inner), rest)
unfolding text_from
text_from_at inner rest inside =
    rw (append_assoc inner (34 ∷ []) rest, behind_quote_at inner rest inside) (ap (λ t. Some (Kept (Text t), rest)) (front_of_is inner 34 rest))

comment_from_at : (inner rest : List ℕ) → IsInside inner → comment_from ((inner ++ 93 ∷ []) ++ rest) ≡ Some (Comment inner, rest)
unfolding comment_from
comment_from_at inner rest inside =
    rw (append_assoc inner (93 ∷ []) rest, closing_at inner rest inside) (ap (λ t. Some (Comment t, rest)) (front_of_is inner 93 rest))

-- the first lexeme is what is read
pub next_from : (l : Lexeme) (bytes rest : List ℕ) → IsNext l bytes rest → next_of bytes ≡ Some (l, rest)
next_from (Kept (Word [])) bytes rest next = absurd (next.is_lexeme.0 refl)
next_from (Kept (Word (b ∷ word))) bytes rest next =
    let first : class_of b ≡ Letter = class-letter b (and_left (is_letter b) (list_all is_letter word) next.is_lexeme.1) in
    rw (next.spells, first) (ap Some (word_of_at (b ∷ word) rest next.is_lexeme.1 next.stops))
next_from (Kept (Text inner)) bytes rest next = rw (next.spells, class_34) (text_from_at inner rest next.is_lexeme)
next_from (Kept (Mark b)) bytes rest next = rw (next.spells, next.is_lexeme) refl
next_from (Space []) bytes rest next = absurd (next.is_lexeme.0 refl)
next_from (Space (b ∷ space)) bytes rest next =
    let first : class_of b ≡ Blank = class-blank b (and_left (is_blank b) (list_all is_blank space) next.is_lexeme.1) in
    rw (next.spells, first) (ap Some (space_of_at (b ∷ space) rest next.is_lexeme.1 next.stops))
next_from (Comment inner) bytes rest next = rw (next.spells, class_91) (comment_from_at inner rest next.is_lexeme)

none_from : (b : ℕ) (bytes : List ℕ) → IsUnclosed (b ∷ bytes) → next_of (b ∷ bytes) ≡ None
unfolding text_from comment_from
none_from b bytes (inl (is_quote, inside)) = rw (is_quote, class_34, behind_quote_none bytes inside) refl
none_from b bytes (inr (is_bracket, never)) = rw (is_bracket, class_91, closing_none bytes never) refl

-- what is unclosed begins with no lexeme
pub unclosed-next : (l : Lexeme) (bytes rest : List ℕ) → IsNext l bytes rest → IsUnclosed bytes → ⊥
unclosed-next l [] rest next unclosed = unclosed
unclosed-next l (b ∷ bytes) rest next unclosed = let some = next_from l (b ∷ bytes) rest next in let none = none_from b bytes unclosed in cc

record AreSame (l k : Lexeme) (rest rest' : List ℕ) : Type 0 where
  pub lexeme : l ≡ k
  pub behind : rest ≡ rest'

pair-same : (l k : Lexeme) (rest rest' : List ℕ) → ◌≡◌ {A = Option (Lexeme × List ℕ)} (Some (l, rest)) (Some (k, rest')) → AreSame l k rest rest'
pair-same l k rest rest' e =
    let both : ◌≡◌ {A = Lexeme × List ℕ} (l, rest) (k, rest') = cc in
    record { lexeme = ap (λ p. p.0) both; behind = ap (λ p. p.1) both }

next-same : (l k : Lexeme) (bytes rest rest' : List ℕ) → IsNext l bytes rest → IsNext k bytes rest' → AreSame l k rest rest'
next-same l k bytes rest rest' first second =
    let a = next_from l bytes rest first in
    let b = next_from k bytes rest' second in
    pair-same l k rest rest' (sym a ∙ b)

-- two ways to cut a text to its end are one
pub cut-same : (ls ks : List Lexeme) (bytes : List ℕ) → IsCut ls bytes [] → IsCut ks bytes [] → ls ≡ ks
cut-same [] [] bytes a b = refl
cut-same [] (k ∷ ks) bytes a (behind, (next, more)) = absurd (omega (arith, ap length a, next-shorter k bytes behind next))
cut-same (l ∷ ls) [] bytes (behind, (next, more)) b = absurd (omega (arith, ap length b, next-shorter l bytes behind next))
cut-same (l ∷ ls) (k ∷ ks) bytes (behind, (next, more)) (behind', (next', more')) =
    let same = next-same l k bytes behind behind' next next' in
    let P : List ℕ → Type 0 = λ t. IsCut ls t [] in
    let later : ls ≡ ks = cut-same ls ks behind' (subst P same.behind more) more' in
    let first : l ≡ k = same.lexeme in
    cc

-- a text that can be cut to its end is unclosed nowhere
pub cut-closed : (ls ks : List Lexeme) (bytes rest : List ℕ) → IsCut ls bytes [] → IsCut ks bytes rest → IsUnclosed rest → ⊥
cut-closed [] [] bytes rest a b unclosed = let P : List ℕ → Type 0 = λ t. IsUnclosed t in subst P (sym b ∙ a) unclosed
cut-closed [] (k ∷ ks) bytes rest a (behind, (next, more)) unclosed = absurd (omega (arith, ap length a, next-shorter k bytes behind next))
cut-closed (l ∷ ls) [] bytes rest (behind, (next, more)) b unclosed = let P : List ℕ → Type 0 = λ t. IsUnclosed t in unclosed-next l bytes behind next (subst P (sym b) unclosed)
cut-closed (l ∷ ls) (k ∷ ks) bytes rest (behind, (next, more)) (behind', (next', more')) unclosed =
    let same = next-same l k bytes behind behind' next next' in
    let P : List ℕ → Type 0 = λ t. IsCut ls t [] in
    cut-closed ls ks behind' rest (subst P same.behind more) more' unclosed

-- two ways to cut a text to where it is unclosed are one
pub unclosed-same : (ls ks : List Lexeme) (bytes rest rest' : List ℕ) → IsCut ls bytes rest → IsUnclosed rest → IsCut ks bytes rest' → IsUnclosed rest' → ls ≡ ks
unclosed-same [] [] bytes rest rest' a u b v = refl
unclosed-same [] (k ∷ ks) bytes rest rest' a u (behind, (next, more)) v = let P : List ℕ → Type 0 = λ t. IsUnclosed t in absurd (unclosed-next k bytes behind next (subst P (sym a) u))
unclosed-same (l ∷ ls) [] bytes rest rest' (behind, (next, more)) u b v = let P : List ℕ → Type 0 = λ t. IsUnclosed t in absurd (unclosed-next l bytes behind next (subst P (sym b) v))
unclosed-same (l ∷ ls) (k ∷ ks) bytes rest rest' (behind, (next, more)) u (behind', (next', more')) v =
    let same = next-same l k bytes behind behind' next next' in
    let P : List ℕ → Type 0 = λ t. IsCut ls t rest in
    let later : ls ≡ ks = unclosed-same ls ks behind' rest rest' (subst P same.behind more) u more' v in
    let first : l ≡ k = same.lexeme in
    cc
