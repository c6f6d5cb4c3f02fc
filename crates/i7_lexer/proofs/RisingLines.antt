-- The lines of a source's tokens rise.
use Rattle.std.proofs.Common.{ℕ, zero, suc, List, [], ◌∷◌, sym, subst, arith}
use Rattle.std.specs.Prelude.{map}
use Rattle.i7_lexer.specs.Cuts.{IsPlaced}
use Rattle.i7_lexer.specs.Places.{after, at_front, placed_from}
use Rattle.i7_lexer.specs.Readings.{HasTokens}
use Rattle.i7_lexer.specs.Rising.{LinesRise}
use Rattle.i7_lexer.proofs.Rising.{RiseFrom, lines_rise, lower}
use Rattle.i7_lexer.specs.Tokens.{joined_len, tokens_behind}
use Rattle.i7_lexer.specs.declared.cursor.Cursor.{Cursor}
use Rattle.i7_lexer.specs.declared.lexeme.Lexeme.{Lexeme}
use Rattle.i7_lexer.specs.declared.lexeme.Lexeme.TheVariants.{Kept, Space, Comment}
use Rattle.i7_lexer.specs.declared.placed.Placed.{Placed}
use Rattle.i7_lexer.specs.declared.token.Token.{Token}

-- ---- tokens

abbrev placed_line : Placed → ℕ
placed_line p = p.at.line

abbrev token_line : Token → ℕ
token_line t = t.line

abbrev moved : Placed → Lexeme → Placed
moved p l = record p { at = after p.at l }

placed_rise : (at : Cursor) (ls : List Lexeme) → RiseFrom at.line (map placed_line (placed_from at ls))
placed_rise at [] = tt
placed_rise at (Kept piece ∷ ls) = (omega arith, lower at.line (after at (Kept piece)).line _ (omega arith) (placed_rise (after at (Kept piece)) ls))
placed_rise at (Space bytes ∷ ls) = lower at.line (after at (Space bytes)).line _ (omega arith) (placed_rise (after at (Space bytes)) ls)
placed_rise at (Comment bytes ∷ ls) = lower at.line (after at (Comment bytes)).line _ (omega arith) (placed_rise (after at (Comment bytes)) ls)

tokens_rise : (least skipped : ℕ) (placed : List Placed) → RiseFrom least (map placed_line placed) → RiseFrom least (map token_line (tokens_behind skipped placed))
tokens_rise least skipped [] r = tt
tokens_rise least zero (first ∷ rest) r = (r.0, tokens_rise first.at.line (joined_len first rest) rest r.1)
tokens_rise least (suc skipped) (first ∷ rest) r = tokens_rise least skipped rest (lower least first.at.line (map placed_line rest) r.0 r.1)

source_rises : (source : List ℕ) (tokens : List Token) → HasTokens source tokens → RiseFrom 0 (map token_line tokens)
source_rises source tokens h =
    let parts : IsPlaced _ h.placed = h.parts in
    let placed : RiseFrom 0 (map placed_line h.placed) = subst (λ (ps : List Placed). RiseFrom 0 (map placed_line ps)) (sym parts.placed_is) (lower 0 1 _ (omega arith) (placed_rise at_front parts.lexemes)) in
    subst (λ (ts : List Token). RiseFrom 0 (map token_line ts)) (sym h.tokens_are) (tokens_rise 0 0 h.placed placed)

pub token_lines_rise : (source : List ℕ) (tokens : List Token) → HasTokens source tokens → LinesRise (λ t. t.line) tokens
token_lines_rise source tokens has = lines_rise token_line tokens (source_rises source tokens has)
