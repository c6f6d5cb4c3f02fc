use Rattle.std.proofs.Common.{◌≡◌, ◌++◌, length}
use Rattle.std.specs.List.{flat_map}
use Rattle.story_format.specs.RuleChecks.{strings_in_line}
use Rattle.story_format.proofs.checks.add_line_strings.Given as goal

abbrev pub invariant-loop-rest : goal.invariant-loop-rest
invariant-loop-rest l = l.numbers.items ++ flat_map strings_in_line l.rest ≡ l.initial.numbers.items ++ flat_map strings_in_line l.lines

abbrev pub decreases-loop-rest : goal.decreases-loop-rest
decreases-loop-rest l = length l.rest
