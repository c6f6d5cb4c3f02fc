use Rattle.std.proofs.Common.{◌≡◌, ◌++◌, length}
use Rattle.story_format.specs.RuleChecks.{uses_in_scenes}
use Rattle.story_format.proofs.rule_codes.add_scene_uses.Given as goal

abbrev pub invariant-loop-rest : goal.invariant-loop-rest
invariant-loop-rest l = l.uses.items ++ uses_in_scenes l.rest ≡ l.initial.uses.items ++ uses_in_scenes l.scenes

abbrev pub decreases-loop-rest : goal.decreases-loop-rest
decreases-loop-rest l = length l.rest
