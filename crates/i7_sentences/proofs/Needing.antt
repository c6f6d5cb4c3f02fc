-- Where a word or mark isn't there that all variants of a form need, none of them fits.
use Rattle.std.proofs.Common.{◌≡◌, ◌∙◌, Bool, true, List, [], ◌∷◌, refl}
use Rattle.std.specs.Prelude.{not, Option, Some, None}
use Rattle.std.specs.List.{list_all, list_any}
use Rattle.std.proofs.lemmas.Bool.{and_parts, eqb-true, false≢true}
use Rattle.i7_lexer.specs.declared.token.Token.{Token}
use Rattle.i7_sentences.specs.Forms.{Variant}
use Rattle.i7_sentences.specs.Matching.{best_fit}
use Rattle.i7_sentences.specs.Needed.{is_at, is_lacking, needs}
use Rattle.i7_sentences.specs.Signs.{is_marked, is_unmarked, place_of, table_of}
use Rattle.i7_sentences.specs.declared.keyword.Keyword.{Keyword}
use Rattle.i7_sentences.specs.declared.form.Piece.{Piece}
use Rattle.i7_sentences.specs.declared.form.Piece.TheVariants.{Word, Letter}
use Rattle.i7_sentences.proofs.Choosing.{passed_best}
use Rattle.i7_sentences.proofs.Marking.{or_either, unmarked_fits}

unmarked_at : (table : List Bool) (keyword : Keyword) → not (is_marked table keyword) ≡ true → (piece : Piece) → is_at (place_of keyword) piece ≡ true → is_unmarked table piece ≡ true
unmarked_at table keyword lacks (Letter class) is = absurd (false≢true is)
unmarked_at table keyword lacks (Word word) is = rw (eqb-true (place_of word) (place_of keyword) is) lacks

unmarked_any : (table : List Bool) (keyword : Keyword) → not (is_marked table keyword) ≡ true → (pieces : List Piece) → list_any (is_at (place_of keyword)) pieces ≡ true → list_any (is_unmarked table) pieces ≡ true
unmarked_any table keyword lacks [] is = is
unmarked_any table keyword lacks (piece ∷ pieces) is =
    or_either (is_at (place_of keyword) piece) (list_any (is_at (place_of keyword)) pieces) (is_unmarked table piece) (list_any (is_unmarked table) pieces)
    (unmarked_at table keyword lacks piece) (unmarked_any table keyword lacks pieces) is

none_fits : (table : List Bool) (tokens : List Token) (keyword : Keyword) → table ≡ table_of tokens → not (is_marked table keyword) ≡ true → (variants : List Variant) → list_all (needs (Some keyword)) variants ≡ true → best_fit variants tokens ≡ None
none_fits table tokens keyword same lacks [] all = refl
none_fits table tokens keyword same lacks (variant ∷ variants) all =
    let parts = and_parts (needs (Some keyword) variant) (list_all (needs (Some keyword)) variants) all in
    passed_best variant variants tokens (unmarked_fits variant.pieces tokens table same (unmarked_any table keyword lacks variant.pieces parts.0))
    ∙ none_fits table tokens keyword same lacks variants parts.1

pub lacking_best : (table : List Bool) (tokens : List Token) (word : Option Keyword) (variants : List Variant) → table ≡ table_of tokens → is_lacking table word ≡ true → list_all (needs word) variants ≡ true → best_fit variants tokens ≡ None
lacking_best table tokens None variants same lacks all = absurd (false≢true lacks)
lacking_best table tokens (Some keyword) variants same lacks all = none_fits table tokens keyword same lacks variants all
