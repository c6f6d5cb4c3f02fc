use Rattle.play_meaning.proofs.Translated.{body_among}
use Rattle.play_meaning.proofs.code_laws.bodies_run_among_codes.Goals as goal

pub returns : goal.returns
returns c = body_among
