use Rattle.story_format.proofs.FaultLemmas.{same_fault}
use Rattle.story_format.proofs.laws.one_fault.Goals as goal

pub returns : goal.returns
returns c = λ bytes fault other h k f g. same_fault bytes fault other h k f g
