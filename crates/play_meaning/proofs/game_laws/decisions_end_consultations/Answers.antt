use Rattle.play_meaning.proofs.Consultations.{decision_ends}
use Rattle.play_meaning.proofs.game_laws.decisions_end_consultations.Goals as goal

pub returns : goal.returns
returns c = decision_ends
