-- What a sentence says of a scene, once names are known: `Storm begins when the score is at least 1` (*Writing with Inform*, 10.3).
use Rattle.std.specs.Prelude.{ℕ, Bool, []}
use Rattle.i7_sentences.specs.declared.scene_change.SceneChange.{SceneChange}
use Rattle.play_meaning.specs.Meant.{condition_meant}
use Rattle.play_meaning.specs.Trees.{Condition}
use Rattle.i7_conditions.specs.Clauses.{asks_over}
use Rattle.i7_conditions.specs.Conditions.{IsCondition}
use Rattle.i7_conditions.specs.Readings.{one}
use Rattle.i7_conditions.specs.declared.found.Found.{Found}
use Rattle.i7_rules.specs.Abouts.{IsScene}
use Rattle.i7_rules.specs.Knowns.{Known, scope_among}
use Rattle.i7_resolution.specs.declared.scene_change.SceneTold.{SceneTold}

-- a scene, and a condition
pub record Told : Type 0 where
  pub scene : ℕ
  pub condition : Condition

-- a sentence tells of the scene that its words name what those behind `when` ask; no repeat stands around them
pub record Tells (k : Known) (said : SceneChange) (told : Told) : Type 0 where
  pub scene : IsScene k said.scene told.scene
  pub condition : IsCondition (scope_among k []) said.condition told.condition

-- the condition holds more than the language allows
abbrev pub told_is_over : Told → Bool
told_is_over told = asks_over told.condition

abbrev pub told_of : ℕ → Condition → Told
told_of scene condition = record { scene = scene; condition = condition }

-- ---- as it is kept

abbrev pub told_meant : SceneTold → Told
told_meant told = told_of told.scene (condition_meant told.condition)

abbrev pub found_told : Found SceneTold → Found Told
found_told = one told_meant
