-- Those so far, and those of what is left.
use Rattle.std.proofs.Common.{◌≡◌, ◌++◌, length, map}
use Rattle.play_meaning.specs.Meant.{adjective_meant}
use Rattle.story_format.specs.RuleMaking.{side_of}
use Rattle.story_format.proofs.rule_making.sides_of.Given as goal

abbrev pub invariant-loop-rest : goal.invariant-loop-rest
invariant-loop-rest l = l.sides.items ++ map side_of (map adjective_meant l.rest) ≡ map side_of (map adjective_meant l.adjectives)

abbrev pub decreases-loop-rest : goal.decreases-loop-rest
decreases-loop-rest l = length l.rest
