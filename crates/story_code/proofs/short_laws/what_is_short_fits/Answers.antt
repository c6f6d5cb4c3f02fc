use Rattle.story_code.proofs.ShortWholes.{bodies_fit, conditions_fit, descriptions_fit}
use Rattle.story_code.proofs.short_laws.what_is_short_fits.Goals as goal

pub returns-clause-bodies : goal.returns-clause-bodies
returns-clause-bodies c = bodies_fit

pub returns-clause-conditions : goal.returns-clause-conditions
returns-clause-conditions c = conditions_fit

pub returns-clause-descriptions : goal.returns-clause-descriptions
returns-clause-descriptions c = descriptions_fit
