use Rattle.std.proofs.Common.{◌≡◌, length}
use Rattle.std.specs.Prelude.{fold, map}
use Rattle.object_words.specs.Mentions.{mention}
use Rattle.i7_rules.proofs.rule_names.mention_all.Given as goal

abbrev pub invariant-loop-rest : goal.invariant-loop-rest
invariant-loop-rest l = fold mention l.names (map (λ name. name.now) l.rest) ≡ fold mention l.initial.names (map (λ name. name.now) l.more)

abbrev pub decreases-loop-rest : goal.decreases-loop-rest
decreases-loop-rest l = length l.rest
