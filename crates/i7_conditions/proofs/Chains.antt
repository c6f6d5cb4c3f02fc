-- Numbers that are joined one by one are joined to the right.
use Rattle.std.proofs.Common.{◌≡◌, List, [], ◌∷◌, refl, ap}
use Rattle.play_meaning.specs.Meant.{by_operator, joined_meant, term_meant}
use Rattle.play_meaning.specs.declared.tree.number.Joined.{Joined}
use Rattle.play_meaning.specs.declared.tree.number.Term.{Term}
use Rattle.i7_conditions.specs.Joining.{chain, joints_of}

pub joined_chain : (first : Term) (rest : List Joined) → joined_meant first rest ≡ chain (term_meant first) (joints_of rest)
joined_chain first [] = refl
joined_chain first (joined ∷ rest) = ap (by_operator joined.operator (term_meant first)) (joined_chain joined.term rest)
