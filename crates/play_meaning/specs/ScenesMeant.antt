-- What scenes are, as their words say it: on what conditions they begin and end.
use Rattle.std.specs.Option.{option_map}
use Rattle.play_meaning.specs.Meant.{condition_meant}
use Rattle.play_meaning.specs.Scripts.{Scene}
use Rattle.play_meaning.specs.declared.tree.scene.MeantScene.{MeantScene}

abbrev pub scene_meant : MeantScene → Scene
scene_meant scene = record { recurs = scene.recurs; begins = option_map condition_meant scene.begins; ends = option_map condition_meant scene.ends }
