use Rattle.std.proofs.Common.{◌≡◌, length}
use Rattle.std.specs.Prelude.{fold, map}
use Rattle.object_words.specs.Mentions.{mention}
use Rattle.i7_resolution.specs.SourceActions.{key_of_action}
use Rattle.i7_resolution.proofs.source_actions.mention_names.Given as goal

abbrev pub invariant-loop-rest : goal.invariant-loop-rest
invariant-loop-rest l = fold mention l.names (map key_of_action l.rest) ≡ fold mention l.initial.names (map key_of_action l.actions)

abbrev pub decreases-loop-rest : goal.decreases-loop-rest
decreases-loop-rest l = length l.rest
