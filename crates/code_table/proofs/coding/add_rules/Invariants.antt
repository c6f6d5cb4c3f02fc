use Rattle.std.proofs.Common.{length}
use Rattle.object_words.specs.Mentions.{number_in}
use Rattle.std.specs.Prelude.{map}
use Rattle.play_meaning.specs.Patterns.{rule_meant}
use Rattle.code_table.specs.Origins.{origins_of_rule}
use Rattle.code_table.proofs.Stopped.{IsOnWay}
use Rattle.code_table.proofs.coding.add_rules.Given as goal

abbrev pub invariant-loop-rest : goal.invariant-loop-rest
invariant-loop-rest l = IsOnWay origins_of_rule l.counts (number_in l.strings) l.heads (map rule_meant l.fn.rules) l.fn.out.codes.items l.fn.out.tests.items l.out.codes.items l.out.tests.items (map rule_meant l.rest)

abbrev pub decreases-loop-rest : goal.decreases-loop-rest
decreases-loop-rest l = length l.rest
