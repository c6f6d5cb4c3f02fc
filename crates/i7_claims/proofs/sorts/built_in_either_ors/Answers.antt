use Rattle.i7_claims.specs.Sorts.{built_in_either_ors}
use Rattle.i7_claims.proofs.sorts.built_in_either_ors.Goals as goal

pub returns : goal.returns
unfolding built_in_either_ors
returns c = rw c.new-names.ensures at c.in_ok-mention_properties.ensures
