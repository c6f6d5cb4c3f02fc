-- The rest of the class is left, and no rule before it admits what is asked.
use Rattle.std.proofs.Common.{length}
use Rattle.rule_index.specs.Buckets.{rule_admits}
use Rattle.rule_index.specs.Classes.{rule_suits}
use Rattle.rule_index.proofs.WalkLemmas.{IsLeft}
use Rattle.rule_index.proofs.walks.first_of_class.Given as goal

abbrev pub invariant-loop-place : goal.invariant-loop-place
invariant-loop-place l = IsLeft (rule_suits l.story l.asked.action) (rule_admits l.story l.asked.action l.asked.noun l.asked.room) l.listed l.from l.rest

abbrev pub decreases-loop-place : goal.decreases-loop-place
decreases-loop-place l = length l.rest
