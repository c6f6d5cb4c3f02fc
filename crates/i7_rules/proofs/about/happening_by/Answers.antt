use Rattle.i7_rules.specs.Knowns.{known_of}
use Rattle.i7_rules.proofs.Subjects.{no_scene, some_scene}
use Rattle.i7_rules.proofs.about.happening_by.Goals as goal

pub returns-in-None : goal.returns-in-None
returns-in-None c = no_scene (known_of c.args.known.now) c.args.words.now c.in_ok-scene_of.field-0 c.in-None.is c.in_ok-scene_of.ensures

pub returns-in-Some : goal.returns-in-Some
returns-in-Some c = some_scene (known_of c.args.known.now) c.args.words.now c.in_ok-scene_of.field-0 c.in-Some.scene c.in-Some.is c.in_ok-scene_of.ensures
