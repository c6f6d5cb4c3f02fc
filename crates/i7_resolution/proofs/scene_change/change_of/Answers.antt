use Rattle.i7_conditions.specs.Conjoining.{found_condition}
use Rattle.i7_rules.specs.Knowns.{known_of}
use Rattle.i7_resolution.specs.SceneChanges.{found_told}
use Rattle.i7_resolution.proofs.ReadScenes.{named}
use Rattle.i7_resolution.proofs.scene_change.change_of.Goals as goal

pub returns-in_ok-condition-in-Some : goal.returns-in_ok-condition-in-Some
returns-in_ok-condition-in-Some c =
    named (known_of c.args.known.now) c.args.said.now c.as_slice.result.now c.as_slice-in-Some.result.now c.in_ok-scene_of.field-0 c.in-Some.scene (found_condition c.in_ok-condition-in-Some.condition)
    (found_told c.told_of.result) c.as_slice.ensures c.as_slice-in-Some.ensures c.in_ok-scene_of.ensures c.in-Some.is c.in_ok-condition-in-Some.ensures c.told_of.ensures
