use Rattle.std.proofs.Common.{◌≡◌, ◌++◌, length}
use Rattle.story_format.specs.RuleChecks.{codes_in_scenes}
use Rattle.story_format.proofs.rule_codes.add_scene_codes.Given as goal

abbrev pub invariant-loop-rest : goal.invariant-loop-rest
invariant-loop-rest l = l.numbers.items ++ codes_in_scenes l.rest ≡ l.initial.numbers.items ++ codes_in_scenes l.scenes

abbrev pub decreases-loop-rest : goal.decreases-loop-rest
decreases-loop-rest l = length l.rest
