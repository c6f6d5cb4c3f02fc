use Rattle.scenes.proofs.Scenes.{code_there}
use Rattle.scenes.proofs.passing.holds_if_some.Goals as goal

pub holds-requires-clause-test : goal.holds-requires-clause-test
holds-requires-clause-test g c = c.requires.test c.args.code (code_there c.args.code c.if-code-eq-NONE.false)
