-- The strings that texts and rules say, as the compiler goes over them.
use Rattle.std.specs.Prelude.{ℕ, List, [], ◌∷◌, ◌++◌}
use Rattle.std.specs.List.{flat_map}
use Rattle.play_meaning.specs.Meant.{body_meant}
use Rattle.play_meaning.specs.Translation.{strings_of_body}
use Rattle.play_meaning.specs.declared.tree.phrase.Branch.{Branch}
use Rattle.play_meaning.specs.declared.tree.rule.MeantRule.{MeantRule}
use Rattle.play_meaning.specs.declared.tree.said.Piece.{Piece}
use Rattle.play_meaning.specs.declared.tree.said.Piece.TheVariants.{Bytes}
use Rattle.play_meaning.specs.declared.tree.said.Said.{Said}
use Rattle.play_meaning.specs.declared.tree.said.Said.TheVariants.{If, Plain}
use Rattle.play_meaning.specs.declared.tree.said.Text.{Text}

abbrev pub piece_strings : Piece → List (List ℕ)
piece_strings (Bytes bytes) = bytes ∷ []
piece_strings _ = []

abbrev pub part_strings : Said → List (List ℕ)
part_strings (Plain piece) = piece_strings piece
part_strings (If condition pieces others) = flat_map piece_strings pieces.items ++ flat_map piece_strings others.items

abbrev pub text_strings : Text → List (List ℕ)
text_strings text = flat_map part_strings text.parts.items

-- what is done where a branch's condition holds
abbrev pub branch_strings : Branch → List (List ℕ)
branch_strings branch = strings_of_body (body_meant branch.phrases.items)

abbrev pub rule_strings : MeantRule → List (List ℕ)
rule_strings rule = strings_of_body (body_meant rule.body.items)
