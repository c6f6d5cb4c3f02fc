use Rattle.i7_resolution.proofs.OneScene.{scenes_once}
use Rattle.i7_resolution.proofs.laws.one_list_of_scenes.Goals as goal

pub returns : goal.returns
returns c = scenes_once c.one_condition_is_meant.ensures
