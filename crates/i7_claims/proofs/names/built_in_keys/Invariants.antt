use Rattle.std.proofs.Common.{◌≡◌, length}
use Rattle.std.specs.Prelude.{fold}
use Rattle.world_meaning.specs.Directions.{direction_name}
use Rattle.object_words.specs.Mentions.{mention}
use Rattle.i7_claims.specs.Statements.{built_in_keys}
use Rattle.i7_claims.proofs.names.built_in_keys.Given as goal

-- the directions that are left
abbrev pub invariant-loop-rest : goal.invariant-loop-rest
invariant-loop-rest l = fold (λ seen direction. mention seen (direction_name direction)) l.keys l.rest ≡ built_in_keys

abbrev pub decreases-loop-rest : goal.decreases-loop-rest
decreases-loop-rest l = length l.rest
