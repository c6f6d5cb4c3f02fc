-- What is read of a text piece by piece is what the pieces mean.
use Rattle.std.proofs.Common.{◌≡◌, List, [], ◌∷◌, map, refl, ap, ◌∙◌}
use Rattle.play_meaning.specs.Meant.{parts_meant, piece_meant, pieces_meant, said_meant}
use Rattle.play_meaning.specs.Trees as tree
use Rattle.play_meaning.specs.declared.tree.said.Piece.{Piece as KeptPiece}
use Rattle.play_meaning.specs.declared.tree.said.Piece.TheVariants as piece
use Rattle.play_meaning.specs.declared.tree.said.Said.{Said as KeptPart}
use Rattle.play_meaning.specs.declared.tree.said.Said.TheVariants as part
use Rattle.i7_phrases.specs.Drafts.{part_of, part_then, parts_then, run_then}
use Rattle.i7_phrases.specs.SubstitutionForms.{piece_of}
use Rattle.i7_phrases.specs.Texts.{said_then}

piece_meant_is : (p : KeptPiece) (more : tree.Text) → piece_meant p more ≡ said_then (piece_of p) more
piece_meant_is (piece.Bytes bytes) more = refl
piece_meant_is (piece.Figure number) more = refl
piece_meant_is (piece.Name naming o) more = refl
piece_meant_is (piece.Listing naming description) more = refl
piece_meant_is (piece.DescriptionOf o) more = refl
piece_meant_is (piece.ValueName q o) more = refl

pieces_meant_are : (ps : List KeptPiece) → pieces_meant ps ≡ run_then (map piece_of ps) tree.Silence
pieces_meant_are [] = refl
pieces_meant_are (p ∷ ps) = piece_meant_is p (pieces_meant ps) ∙ ap (said_then (piece_of p)) (pieces_meant_are ps)

said_meant_is : (p : KeptPart) (more : tree.Text) → said_meant p more ≡ part_then (part_of p) more
said_meant_is (part.Plain p) more = piece_meant_is p more
said_meant_is (part.If c pieces others) more = rw (pieces_meant_are pieces.items, pieces_meant_are others.items) refl

pub parts_meant_are : (ps : List KeptPart) → parts_meant ps ≡ parts_then (map part_of ps) tree.Silence
parts_meant_are [] = refl
parts_meant_are (p ∷ ps) = said_meant_is p (parts_meant ps) ∙ ap (part_then (part_of p)) (parts_meant_are ps)
