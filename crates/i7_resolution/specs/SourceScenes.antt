-- When the scenes of a source begin and end (*Writing with Inform*, 10.3), or why the source is refused for that.
use Rattle.std.specs.Prelude.{◌≡◌, ◌⊎◌, ℕ, Bool, true, List, [], ◌∷◌, Option, None, Some, map, reverse}
use Rattle.std.specs.List.{AllZip, enumerate_from}
use Rattle.world_meaning.specs.declared.fault.Fault.{Fault}
use Rattle.world_meaning.specs.declared.fault.FaultCode.{FaultCode}
use Rattle.world_meaning.specs.declared.fault.FaultCode.TheVariants.{TooMany, Twice, UnknownName}
use Rattle.i7_sentences.specs.Lowest.{IsLowest, IsNowhere}
use Rattle.i7_sentences.specs.declared.scene_change.SceneEdge.{SceneEdge}
use Rattle.i7_sentences.specs.declared.scene_change.SceneEdge.TheVariants.{Begins, Ends}
use Rattle.i7_sentences.specs.declared.sentence.Sentence.{Sentence}
use Rattle.play_meaning.specs.ScenesMeant.{scene_meant}
use Rattle.play_meaning.specs.Scripts.{Scene}
use Rattle.play_meaning.specs.Trees.{Condition}
use Rattle.i7_rules.specs.Abouts.{IsScene}
use Rattle.i7_rules.specs.Knowns.{Known}
use Rattle.i7_resolution.specs.SceneChangeList.{ChangeAt, Placed, changes_in, placed}
use Rattle.i7_resolution.specs.SceneChanges.{Tells, Told, told_is_over, told_of}
use Rattle.i7_resolution.specs.declared.source_scenes.ScenesFound.{ScenesFound}
use Rattle.i7_resolution.specs.declared.source_scenes.ScenesFound.TheVariants as found

-- the sentence says when this scene begins, or when it ends
abbrev pub IsOf : Known → ℕ → SceneEdge → ChangeAt → Type 0
IsOf k scene edge c = (c.said.edge ≡ edge) × IsScene k c.said.scene scene

-- that is when this condition holds
abbrev pub IsOn : Known → ℕ → SceneEdge → Condition → ChangeAt → Type 0
IsOn k scene edge condition c = (c.said.edge ≡ edge) × Tells k c.said (told_of scene condition)

-- one of these is so
abbrev pub OneOf : {X : Type 0} → (X → Type 0) → List X → Type 0
OneOf Is [] = ⊥
OneOf Is (x ∷ xs) = Is x ⊎ OneOf Is xs

-- ---- what is wrong with a sentence among those before it, and at which line that is told

-- one before it says of its scene too when that begins, or ends
pub record IsTwice (k : Known) (p : Placed) (line : ℕ) : Type 0 where
  pub scene : ℕ
  pub edge : SceneEdge
  pub is_of : IsOf k scene edge p.change
  pub one_before : OneOf (IsOf k scene edge) p.before
  pub line_is : line ≡ p.change.line

-- its words name no scene, or the names allow no reading of its condition
pub record IsUnknown (k : Known) (c : ChangeAt) (line : ℕ) : Type 0 where
  pub untold : (told : Told) → Tells k c.said told → ⊥
  pub line_is : line ≡ c.line

-- its condition holds more than the language allows
pub record IsOver (k : Known) (c : ChangeAt) (line : ℕ) : Type 0 where
  pub told : Told
  pub tells : Tells k c.said told
  pub over : told_is_over told ≡ true
  pub line_is : line ≡ c.line

-- they are refused with that code at that line, and with no code before it
abbrev pub Stands : Known → FaultCode → ℕ → List ChangeAt → Type 0
Stands k Twice line changes = IsLowest (IsTwice k) (placed changes) line
Stands k UnknownName line changes = IsNowhere (IsTwice k) (placed changes) × IsLowest (IsUnknown k) changes line
Stands k TooMany line changes = IsNowhere (IsTwice k) (placed changes) × IsNowhere (IsUnknown k) changes × IsLowest (IsOver k) changes line
Stands k _ line changes = ⊥

-- ---- what is told of the scenes

-- the condition on which a scene begins, or ends, if one of the sentences tells it
abbrev pub IsEdge : Known → List ChangeAt → ℕ → SceneEdge → Option Condition → Type 0
IsEdge k changes scene edge None = OneOf (IsOf k scene edge) changes → ⊥
IsEdge k changes scene edge (Some condition) = OneOf (IsOn k scene edge condition) changes

-- a scene by its number, with whether it may happen again
pub record IsTold (k : Known) (changes : List ChangeAt) (declared : ℕ × Bool) (scene : Scene) : Type 0 where
  pub recurs : scene.recurs ≡ declared.1
  pub begins : IsEdge k changes declared.0 Begins scene.begins
  pub ends : IsEdge k changes declared.0 Ends scene.ends

-- these scenes, of each of which it is declared whether it may happen again
abbrev pub AreScenes : Known → List ChangeAt → List Bool → List Scene → Type 0
AreScenes k changes recurring scenes = AllZip (IsTold k changes) (enumerate_from 0 recurring) scenes

-- nothing refuses these sentences, which come with the last first, and so much is told of each scene
pub record AreTold (k : Known) (recurring : List Bool) (changes : List ChangeAt) (scenes : List Scene) : Type 0 where
  pub apart : IsNowhere (IsTwice k) (placed changes)
  pub known : IsNowhere (IsUnknown k) changes
  pub within : IsNowhere (IsOver k) changes
  pub each : AreScenes k changes recurring scenes

abbrev pub AreFound : Known → List Bool → List ChangeAt → ScenesFound → Type 0
AreFound k recurring changes (found.Says scenes) = AreTold k recurring changes (map scene_meant scenes.items)
AreFound k recurring changes (found.Refused fault) = Stands k fault.code fault.line changes

-- what is told of the scenes, of each of which it is declared whether it may happen again
abbrev pub IsScenesFound : Known → List Bool → List Sentence → ScenesFound → Type 0
IsScenesFound k recurring sentences = AreFound k recurring (reverse (changes_in sentences))

-- ---- however that is kept

pub data ScenesMeant : Type 0 where
  All : List Scene → ScenesMeant
  Refused : Fault → ScenesMeant

abbrev pub scenes_meant : ScenesFound → ScenesMeant
scenes_meant (found.Says scenes) = All (map scene_meant scenes.items)
scenes_meant (found.Refused fault) = Refused fault
