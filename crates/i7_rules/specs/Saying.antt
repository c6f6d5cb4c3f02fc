-- What `say` says: a text that ends a sentence is followed by a line break (*Writing with Inform*, 5.6).
use Rattle.std.specs.Prelude.{ℕ, ◌==◌, Bool, false, true, ◌&&◌, ◌||◌, List, [], ◌∷◌}
use Rattle.i7_sentences.specs.Cuts.{is_final}
use Rattle.i7_sentences.specs.declared.text_piece.TextPiece.{TextPiece}
use Rattle.i7_sentences.specs.declared.text_piece.TextPiece.TheVariants.{Printed}
use Rattle.play_meaning.specs.Trees as tree

-- nothing, or a quote alone, which is how a single quote at a word's edge is printed
abbrev pub is_end : List ℕ → Bool
is_end [] = true
is_end (byte ∷ []) = byte == 34
is_end _ = false

-- a final mark stands at the end, or in front of a quote that does
abbrev pub closes : List ℕ → Bool
closes [] = false
closes (byte ∷ bytes) = (is_final byte && is_end bytes) || closes bytes

abbrev pub prints_close : TextPiece → Bool
prints_close (Printed bytes) = closes bytes
prints_close _ = false

-- the last of a piece and those behind it is printed, and closes
abbrev pub ends_behind : TextPiece → List TextPiece → Bool
ends_behind piece [] = prints_close piece
ends_behind piece (next ∷ pieces) = ends_behind next pieces

abbrev pub ends_sentence : List TextPiece → Bool
ends_sentence [] = false
ends_sentence (piece ∷ pieces) = ends_behind piece pieces

abbrev pub with_break : tree.Text → tree.Text
with_break tree.Silence = tree.Bytes (10 ∷ []) tree.Silence
with_break (tree.Bytes bytes more) = tree.Bytes bytes (with_break more)
with_break (tree.Figure number more) = tree.Figure number (with_break more)
with_break (tree.Name naming o more) = tree.Name naming o (with_break more)
with_break (tree.Listing naming description more) = tree.Listing naming description (with_break more)
with_break (tree.DescriptionOf o more) = tree.DescriptionOf o (with_break more)
with_break (tree.ValueName q o more) = tree.ValueName q o (with_break more)
with_break (tree.IfSaid c a b more) = tree.IfSaid c a b (with_break more)

abbrev pub closed : Bool → tree.Text → tree.Text
closed false text = text
closed true text = with_break text

-- `say` with a text, which ends a sentence or doesn't
abbrev pub saying : Bool → tree.Text → tree.Phrase
saying is_sentence text = tree.Say (closed is_sentence text)
