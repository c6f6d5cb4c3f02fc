use Rattle.story_file.proofs.ObjectNames.{objects_by_name}
use Rattle.story_file.proofs.laws.objects_are_numbered_by_name.Goals as goal

pub returns : goal.returns
returns c = objects_by_name
