use Rattle.i7_resolution.proofs.OneResolution.{resolved_once}
use Rattle.i7_resolution.proofs.laws.one_resolution.Goals as goal

pub returns : goal.returns
returns c = resolved_once c.one_list_of_rules.ensures c.one_list_of_texts.ensures c.one_list_of_scenes.ensures c.one_grammar.ensures
