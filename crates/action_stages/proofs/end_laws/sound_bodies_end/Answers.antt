use Rattle.action_stages.proofs.Ending.{body_ends, ends_within}
use Rattle.action_stages.proofs.end_laws.sound_bodies_end.Goals as goal

pub returns-clause-begun : goal.returns-clause-begun
returns-clause-begun c z code sound f p lowers within = body_ends z code sound f lowers p within

pub returns-clause-anywhere : goal.returns-clause-anywhere
returns-clause-anywhere c z code sound f n s lowers within stands short = ends_within z code sound f lowers n s stands within short
