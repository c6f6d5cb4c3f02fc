use Rattle.i7_rules.specs.Knowns.{known_of}
use Rattle.i7_rules.proofs.Headed.{scene_numbered}
use Rattle.i7_rules.proofs.head.book_of_scene.Goals as goal

pub returns : goal.returns
returns c = scene_numbered (known_of c.args.known.now) c.args.first c.args.words.now c.in_ok-scene.scene c.numbered.result c.in_ok-scene.ensures c.numbered.ensures
