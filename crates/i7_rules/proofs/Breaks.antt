-- A text with a line break behind its parts.
use Rattle.std.proofs.Common.{◌≡◌, List, refl, ap, sym, ◌∙◌}
use Rattle.std.specs.Prelude.{[], ◌∷◌, ◌++◌}
use Rattle.play_meaning.specs.Meant.{parts_meant, piece_meant, said_meant}
use Rattle.play_meaning.specs.Trees as tree
use Rattle.play_meaning.specs.declared.tree.said.Piece.{Piece}
use Rattle.play_meaning.specs.declared.tree.said.Piece.TheVariants as piece
use Rattle.play_meaning.specs.declared.tree.said.Said.{Said}
use Rattle.play_meaning.specs.declared.tree.said.Said.TheVariants as said
use Rattle.i7_rules.specs.Saying.{with_break}

abbrev pub break_of : List Said
break_of = said.Plain (piece.Bytes (10 ∷ [])) ∷ []

broken_behind_piece : (p : Piece) (more : tree.Text) → with_break (piece_meant p more) ≡ piece_meant p (with_break more)
broken_behind_piece (piece.Bytes bytes) more = refl
broken_behind_piece (piece.Figure number) more = refl
broken_behind_piece (piece.Name naming o) more = refl
broken_behind_piece (piece.Listing naming description) more = refl
broken_behind_piece (piece.DescriptionOf o) more = refl
broken_behind_piece (piece.ValueName q o) more = refl

broken_behind : (part : Said) (more : tree.Text) → with_break (said_meant part more) ≡ said_meant part (with_break more)
broken_behind (said.Plain p) more = broken_behind_piece p more
broken_behind (said.If c pieces others) more = refl

pub broken : (parts : List Said) → parts_meant (parts ++ break_of) ≡ with_break (parts_meant parts)
broken [] = refl
broken (part ∷ parts) = ap (said_meant part) (broken parts) ∙ sym (broken_behind part (parts_meant parts))
