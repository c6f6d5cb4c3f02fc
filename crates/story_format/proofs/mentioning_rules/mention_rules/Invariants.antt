use Rattle.std.proofs.Common.{◌≡◌, length}
use Rattle.std.specs.Prelude.{fold}
use Rattle.std.specs.List.{flat_map}
use Rattle.object_words.specs.Mentions.{mention}
use Rattle.story_format.specs.Mentioning.{rule_strings}
use Rattle.story_format.proofs.mentioning_rules.mention_rules.Given as goal

abbrev pub invariant-loop-rest : goal.invariant-loop-rest
invariant-loop-rest l = fold mention l.strings (flat_map rule_strings l.rest) ≡ fold mention l.initial.strings (flat_map rule_strings l.rules)

abbrev pub decreases-loop-rest : goal.decreases-loop-rest
decreases-loop-rest l = length l.rest
