use Rattle.std.proofs.Common.{refl}
use Rattle.play_meaning.specs.StandardActions.{standard_needs}
use Rattle.i7_actions.specs.Actions.{standard_actions}
use Rattle.i7_actions.proofs.action.nouns_are_those_needed.Goals as goal

pub returns : goal.returns
unfolding standard_actions standard_needs
returns c = refl
