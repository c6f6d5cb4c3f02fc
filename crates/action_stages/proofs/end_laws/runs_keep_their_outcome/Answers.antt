use Rattle.action_stages.proofs.Ending.{longer, outcome_behind, outcome_is, outcome_of_start, outcome_within}
use Rattle.action_stages.proofs.end_laws.runs_keep_their_outcome.Goals as goal

pub returns-clause-starts : goal.returns-clause-starts
returns-clause-starts c z code sound f p lowers within = outcome_of_start z code sound f lowers p within

pub returns-clause-enough : goal.returns-clause-enough
returns-clause-enough c z code sound f n s lowers within stands short = outcome_within z code sound f lowers n s stands within short

pub returns-clause-goes_on : goal.returns-clause-goes_on
returns-clause-goes_on c z code sound f s t lowers within stands on = outcome_behind z code sound f lowers s t stands within on

pub returns-clause-ends : goal.returns-clause-ends
returns-clause-ends c z code sound f s came stands is over = outcome_is z code sound f s came stands is over

pub returns-clause-longer : goal.returns-clause-longer
returns-clause-longer c = longer
