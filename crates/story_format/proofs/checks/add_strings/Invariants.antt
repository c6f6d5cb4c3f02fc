use Rattle.std.proofs.Common.{◌≡◌, ◌++◌, length, not}
use Rattle.std.specs.Prelude.{filter}
use Rattle.story_format.specs.RuleChecks.{is_slot_number}
use Rattle.story_format.proofs.checks.add_strings.Given as goal

abbrev pub invariant-loop-rest : goal.invariant-loop-rest
invariant-loop-rest l = l.numbers.items ++ filter (λ n. not (is_slot_number n)) l.rest ≡ l.initial.numbers.items ++ filter (λ n. not (is_slot_number n)) l.tokens

abbrev pub decreases-loop-rest : goal.decreases-loop-rest
decreases-loop-rest l = length l.rest
