use Rattle.std.proofs.Common.{length}
use Rattle.std.specs.Prelude.{map}
use Rattle.object_words.specs.Mentions.{number_in}
use Rattle.play_meaning.specs.Patterns.{rule_meant}
use Rattle.code_table.specs.Origins.{origins_of_rule}
use Rattle.code_table.specs.Emitted.{IsToldLong}
use Rattle.story_file.proofs.LongLines.{IsOnWay}
use Rattle.story_file.proofs.long_ones.rules_long.Given as goal

abbrev pub invariant-loop-rest : goal.invariant-loop-rest
invariant-loop-rest l = IsOnWay (IsToldLong l.counts (number_in l.strings)) (map (λ rule. origins_of_rule (rule_meant rule)) l.rules) (map (λ rule. origins_of_rule (rule_meant rule)) l.rest) l.longs.items

abbrev pub decreases-loop-rest : goal.decreases-loop-rest
decreases-loop-rest l = length l.rest
