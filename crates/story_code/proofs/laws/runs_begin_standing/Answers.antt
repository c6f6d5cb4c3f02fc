use Rattle.story_code.proofs.Answered.{begins_outside, behind_any_work, body_begins}
use Rattle.story_code.proofs.laws.runs_begin_standing.Goals as goal

pub returns-clause-reads : goal.returns-clause-reads
returns-clause-reads c = begins_outside

pub returns-clause-does : goal.returns-clause-does
returns-clause-does c = body_begins

pub returns-clause-work : goal.returns-clause-work
returns-clause-work c = behind_any_work
