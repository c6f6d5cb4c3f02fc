use Rattle.story_file.proofs.OneRefusal.{refused_once}
use Rattle.story_file.proofs.laws.one_refusal.Goals as goal

pub returns : goal.returns
returns c = refused_once c.one_text_is_meant.ensures c.one_resolution.ensures
