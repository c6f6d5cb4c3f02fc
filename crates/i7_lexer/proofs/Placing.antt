-- The lexemes of bytes, one by one.
use Rattle.std.proofs.Common.{◌≡◌, ℕ, ◌<◌, ◌≤◌, ◌==◌, zero, suc, true, List, [], ◌∷◌, ◌++◌, false, length, Option, Some, None, refl, ap, ◌∙◌, arith}
use Rattle.std.proofs.lemmas.Bool.{eqb-true}
use Rattle.i7_lexer.specs.declared.cursor.Cursor.{Cursor}
use Rattle.i7_lexer.specs.declared.lexeme.Lexeme.{Lexeme}
use Rattle.i7_lexer.specs.declared.lexeme.Lexeme.TheVariants.{Kept, Space, Comment}
use Rattle.i7_lexer.specs.declared.lexeme.Piece.{Piece}
use Rattle.i7_lexer.specs.Cuts.{IsPlaced}
use Rattle.i7_lexer.specs.Lexemes.{IsCut}
use Rattle.i7_lexer.specs.Lexing.{lexemes_with, lexemes_within, placed_in}
use Rattle.i7_lexer.specs.Places.{at_front, after, after_all, placed_from}
use Rattle.i7_lexer.specs.Scans.{next_of}
use Rattle.i7_lexer.proofs.Cutting.{SoFar, so_far-push, next-within}
use Rattle.i7_lexer.proofs.Depths.{Told, nothing_indented, told-push, told-all}
use Rattle.std.specs.Prelude.{MatchOption}
use Rattle.std.proofs.lemmas.List.{append-nil}
use Rattle.i7_lexer.specs.declared.indents.Depth.{Depth}
use Rattle.i7_lexer.specs.Indents.{AreIndented, IsTooDeep, deep_with, line_with}
use Rattle.i7_lexer.proofs.Readings.{next_from}

-- so many lexemes as there are bytes are all
enough_with : (n m : ℕ) (bytes : List ℕ) (found : Option (Lexeme × List ℕ)) → next_of bytes ≡ found → ((behind : List ℕ) → length behind < length bytes → lexemes_within n behind ≡ lexemes_within m behind) → lexemes_with (lexemes_within n) found ≡ lexemes_with (lexemes_within m) found
enough_with n m bytes None e more = refl
enough_with n m bytes (Some (l, behind)) e more = ap (λ t. l ∷ t) (more behind (next-within bytes l behind e).2)

enough : (n m : ℕ) (bytes : List ℕ) → length bytes ≤ n → length bytes ≤ m → lexemes_within n bytes ≡ lexemes_within m bytes
enough zero zero bytes short short' = refl
enough zero (suc m) [] short short' = refl
enough zero (suc m) (b ∷ bytes) short short' = absurd (omega arith)
enough (suc n) zero [] short short' = refl
enough (suc n) zero (b ∷ bytes) short short' = absurd (omega arith)
enough (suc n) (suc m) bytes short short' = enough_with n m bytes (next_of bytes) refl (λ behind less. enough n m behind (omega (arith, less)) (omega (arith, less)))

-- the first lexeme, and those of the bytes behind it
lexemes-next : (bytes : List ℕ) (l : Lexeme) (behind : List ℕ) → next_of bytes ≡ Some (l, behind) → lexemes_within (length bytes) bytes ≡ l ∷ lexemes_within (length behind) behind
lexemes-next [] l behind found = cc
lexemes-next (b ∷ bytes) l behind found =
    let within = next-within (b ∷ bytes) l behind found in
    ap (lexemes_with (lexemes_within (length bytes))) found ∙ ap (λ t. l ∷ t) (enough (length bytes) (length behind) behind (omega (arith, within.2)) (omega arith))

-- where the lexeme is kept, it is the first
pub placed-kept : (at : Cursor) (bytes : List ℕ) (l : Lexeme) (piece : Piece) (behind : List ℕ) → next_of bytes ≡ Some (l, behind) → l ≡ Kept piece → placed_in at bytes ≡ record { piece = piece; at = at } ∷ placed_in (after at l) behind
placed-kept at bytes l piece behind found is_kept =
    ap (placed_from at) (lexemes-next bytes l behind found) ∙ rw is_kept refl

-- where it isn't, those behind it are all
pub placed-passed : (at : Cursor) (bytes : List ℕ) (l : Lexeme) (behind : List ℕ) → next_of bytes ≡ Some (l, behind) → ((piece : Piece) → l ≡ Kept piece → ⊥) → placed_in at bytes ≡ placed_in (after at l) behind
placed-passed at bytes (Kept piece) behind found never = absurd (never piece refl)
placed-passed at bytes (Space space) behind found never = ap (placed_from at) (lexemes-next bytes (Space space) behind found)
placed-passed at bytes (Comment inner) behind found never = ap (placed_from at) (lexemes-next bytes (Comment inner) behind found)

-- the lexemes that a text is cut into are those that are read
cut-lexemes : (ls : List Lexeme) (bytes : List ℕ) → IsCut ls bytes [] → lexemes_within (length bytes) bytes ≡ ls
cut-lexemes [] bytes cut = rw cut refl
cut-lexemes (l ∷ ls) bytes (behind, (next, more)) =
    lexemes-next bytes l behind (next_from l bytes behind next) ∙ ap (λ t. l ∷ t) (cut-lexemes ls behind more)

placed-push : (ls : List Lexeme) (l : Lexeme) (at : Cursor) → placed_from at (ls ++ l ∷ []) ≡ placed_from at ls ++ placed_from (after_all at ls) (l ∷ [])
placed-push [] l at = refl
placed-push (Kept piece ∷ ls) l at = ap (λ t. record { piece = piece; at = at } ∷ t) (placed-push ls l (after at (Kept piece)))
placed-push (Space bytes ∷ ls) l at = placed-push ls l (after at (Space bytes))
placed-push (Comment bytes ∷ ls) l at = placed-push ls l (after at (Comment bytes))

-- a text so far, and what the depth of its tokens tells
pub record Surveyed (text rest : List ℕ) (at : Cursor) (depth : Depth) : Type 0 where
  pub so_far : SoFar text rest at
  pub told : Told (placed_from at_front so_far.lexemes) depth.before depth.deep

pub surveyed-start : (text : List ℕ) → Surveyed text text at_front (record { before = record { indent = 0; colon = false }; deep = None })
surveyed-start text = record { so_far = record { lexemes = []; cut = refl; at_is = refl }; told = (refl, nothing_indented) }

-- one more lexeme that is kept
pub surveyed-kept : (text rest behind : List ℕ) (at at' : Cursor) (depth depth' : Depth) (l : Lexeme) (piece : Piece) → Surveyed text rest at depth → next_of rest ≡ Some (l, behind) → at' ≡ after at l → l ≡ Kept piece → depth' ≡ record { before = line_with depth.before (record { piece = piece; at = at }); deep = deep_with depth.deep depth.before (record { piece = piece; at = at }) } → Surveyed text behind at' depth'
surveyed-kept text rest behind at at' depth depth' l piece before found at_is is_kept depth_is =
    let ls = before.so_far.lexemes in
    let more : placed_from at_front (ls ++ l ∷ []) ≡ placed_from at_front ls ++ record { piece = piece; at = at } ∷ [] = placed-push ls l at_front ∙ rw (← before.so_far.at_is, is_kept) refl in
    record {
      so_far = so_far-push text rest behind at at' l before.so_far found at_is;
      told = rw (more, depth_is) (told-push (placed_from at_front ls) depth.before depth.deep (record { piece = piece; at = at }) before.told);
    }

-- one more lexeme that isn't
pub surveyed-passed : (text rest behind : List ℕ) (at at' : Cursor) (depth : Depth) (l : Lexeme) → Surveyed text rest at depth → next_of rest ≡ Some (l, behind) → at' ≡ after at l → ((piece : Piece) → l ≡ Kept piece → ⊥) → Surveyed text behind at' depth
surveyed-passed text rest behind at at' depth (Kept piece) before found at_is never = absurd (never piece refl)
surveyed-passed text rest behind at at' depth (Space bytes) before found at_is never = record {
  so_far = so_far-push text rest behind at at' (Space bytes) before.so_far found at_is;
  told = rw (placed-push before.so_far.lexemes (Space bytes) at_front, append-nil (placed_from at_front before.so_far.lexemes)) before.told;
}
surveyed-passed text rest behind at at' depth (Comment bytes) before found at_is never = record {
  so_far = so_far-push text rest behind at at' (Comment bytes) before.so_far found at_is;
  told = rw (placed-push before.so_far.lexemes (Comment bytes) at_front, append-nil (placed_from at_front before.so_far.lexemes)) before.told;
}

-- the whole text
pub record HasSurvey (text : List ℕ) (deep : Option ℕ) : Type 0 where
  pub placed : IsPlaced text (placed_in at_front text)
  pub depth : MatchOption deep (AreIndented (placed_in at_front text)) (IsTooDeep (placed_in at_front text))

pub surveyed-all : (text rest : List ℕ) (at : Cursor) (depth : Depth) → Surveyed text rest at depth → length rest == 0 ≡ true → HasSurvey text depth.deep
surveyed-all text [] at depth before h =
    let same = cut-lexemes before.so_far.lexemes text before.so_far.cut in
    record {
      placed = record { lexemes = before.so_far.lexemes; cut = before.so_far.cut; placed_is = ap (placed_from at_front) same };
      depth = rw same (told-all (placed_from at_front before.so_far.lexemes) depth.before depth.deep before.told);
    }
surveyed-all text (b ∷ rest) at depth before h = absurd (omega (arith, eqb-true (length (b ∷ rest)) 0 h))
