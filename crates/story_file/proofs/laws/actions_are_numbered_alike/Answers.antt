use Rattle.std.proofs.Common.{refl}
use Rattle.i7_actions.specs.Actions.{standard_actions}
use Rattle.story_file.specs.ActionNumbers.{names_in_play}
use Rattle.story_file.proofs.NounsAgree.{nouns_agree}
use Rattle.story_file.proofs.laws.actions_are_numbered_alike.Goals as goal

pub returns-clause-names : goal.returns-clause-names
unfolding standard_actions names_in_play
returns-clause-names c = refl

pub returns-clause-nouns : goal.returns-clause-nouns
returns-clause-nouns c = nouns_agree
