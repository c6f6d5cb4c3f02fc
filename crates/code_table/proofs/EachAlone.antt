-- Several are too long where one is, and short where all are.
use Rattle.std.proofs.Common.{◌≡◌, sym, ℕ, Bool, true, false, List, [], ◌∷◌, ◌++◌}
use Rattle.std.specs.Option.{option_map}
use Rattle.std.specs.Prelude.{map}
use Rattle.std.proofs.lemmas.List.{map-append}
use Rattle.play_meaning.specs.Meant.{condition_meant}
use Rattle.play_meaning.specs.ScenesMeant.{scene_meant}
use Rattle.play_meaning.specs.TranslatedScripts.{in_list}
use Rattle.play_meaning.specs.declared.operand.Counts.{Counts}
use Rattle.play_meaning.specs.declared.tree.scene.MeantScene.{MeantScene}
use Rattle.code_table.specs.Emitted.{AllShort, IsToldLong}
use Rattle.code_table.specs.Origins.{Asks, Origin, origins_of_scene}

module _ (z : Counts) (string : List ℕ → ℕ) where
  first_short : (origins others : List Origin) → AllShort z string (origins ++ others) → AllShort z string origins
  first_short [] others all = tt
  first_short (origin ∷ origins) others all = (all.0, first_short origins others all.1)

  others_short : (origins others : List Origin) → AllShort z string (origins ++ others) → AllShort z string others
  others_short [] others all = all
  others_short (origin ∷ origins) others all = others_short origins others all.1

  both_short : (origins others : List Origin) → AllShort z string origins → AllShort z string others → AllShort z string (origins ++ others)
  both_short [] others short also = also
  both_short (origin ∷ origins) others short also = (short.0, both_short origins others short.1 also)

  pub first_long : (origins others : List Origin) (long : Bool) → IsToldLong z string origins long → long ≡ true → AllShort z string (origins ++ others) → ⊥
  first_long origins others true told is all = told (first_short origins others all)
  first_long origins others false told is all = absurd cc

  pub second_told : (origins others : List Origin) (long told : Bool) → IsToldLong z string origins long → long ≡ false → IsToldLong z string others told → IsToldLong z string (origins ++ others) told
  second_told origins others true told long is second = absurd cc
  second_told origins others false true short is second = λ all. second (others_short origins others all)
  second_told origins others false false short is second = both_short origins others short second

-- what the code of a condition is of, if there is one: that on which a scene begins stands in front of that on which it ends
pub scene_parts : (scene : MeantScene) → map Asks (in_list (option_map condition_meant scene.begins)) ++ map Asks (in_list (option_map condition_meant scene.ends)) ≡ origins_of_scene (scene_meant scene)
scene_parts scene = sym (map-append Asks (in_list (option_map condition_meant scene.begins)) (in_list (option_map condition_meant scene.ends)))
