use Rattle.story_file.proofs.RuleLines.{rules_at}
use Rattle.story_file.proofs.laws.rules_stand_at_their_lines.Goals as goal

pub returns : goal.returns
returns c = rules_at
