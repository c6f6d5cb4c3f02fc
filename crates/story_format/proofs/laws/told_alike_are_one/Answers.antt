use Rattle.story_format.proofs.ToldStories.{told_alike}
use Rattle.story_format.proofs.laws.told_alike_are_one.Goals as goal

pub returns : goal.returns
returns c = λ story other one two alike. told_alike story other one two alike
