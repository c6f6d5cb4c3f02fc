use Rattle.story_code.proofs.Exact.{one_code}
use Rattle.story_code.proofs.laws.one_code.Goals as goal

pub returns : goal.returns
returns c = one_code
