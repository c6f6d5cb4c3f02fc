use Rattle.std.proofs.Common.{◌≡◌, length}
use Rattle.story_format.specs.RuleChecks.{begin_with_actions}
use Rattle.story_format.proofs.rule_checks.begin_with_actions.Given as goal

abbrev pub invariant-loop-others : goal.invariant-loop-others
invariant-loop-others l = begin_with_actions l.actions l.others ≡ begin_with_actions l.initial.actions l.initial.others

abbrev pub decreases-loop-others : goal.decreases-loop-others
decreases-loop-others l = length l.others
