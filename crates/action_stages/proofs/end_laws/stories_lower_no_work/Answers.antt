use Rattle.play_meaning.specs.CodedStories.{game_of_codes}
use Rattle.action_stages.proofs.Lowering.{acts_lower, body_lowers, consults_lower, inner_lowers, stories_lower}
use Rattle.action_stages.proofs.end_laws.stories_lower_no_work.Goals as goal

pub returns-clause-inner : goal.returns-clause-inner
returns-clause-inner c k depth sound = inner_lowers (game_of_codes k) (stories_lower k sound) depth

pub returns-clause-bodies : goal.returns-clause-bodies
returns-clause-bodies c k sound = stories_lower k sound

pub returns-clause-codes : goal.returns-clause-codes
returns-clause-codes c z codes t inner n now p sound lowers within = body_lowers codes t inner lowers now p within n z sound

pub returns-clause-actions : goal.returns-clause-actions
returns-clause-actions c g inner now p bodies lowers within = acts_lower g bodies inner lowers now p within

pub returns-clause-rulebooks : goal.returns-clause-rulebooks
returns-clause-rulebooks c g inner book now p bodies lowers within = consults_lower g bodies inner lowers book now p within
