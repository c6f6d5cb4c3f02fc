use Rattle.action_stages.proofs.Ending.{start_within, works}
use Rattle.action_stages.proofs.Falling.{falls}
use Rattle.action_stages.proofs.end_laws.each_step_is_nearer_the_end.Goals as goal

pub returns-clause-falls : goal.returns-clause-falls
returns-clause-falls c z role code sound f s t stands on grows within = (falls z role code sound f s t stands.place on grows within).1

pub returns-clause-works : goal.returns-clause-works
returns-clause-works c f code s t lowers within on = works f code s t lowers within on

pub returns-clause-starts : goal.returns-clause-starts
returns-clause-starts c z code sound loops p = start_within z code sound loops p
