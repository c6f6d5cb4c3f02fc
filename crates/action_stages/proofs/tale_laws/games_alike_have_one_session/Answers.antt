use Rattle.action_stages.proofs.AlikeSessions.{one_opening, one_session}
use Rattle.action_stages.proofs.tale_laws.games_alike_have_one_session.Goals as goal

pub returns : goal.returns
returns c = record { openings = λ g h alike. one_opening g h alike; answers = λ g h alike refusals s lines. one_session g h alike refusals s lines }
