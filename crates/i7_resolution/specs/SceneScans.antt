-- The sentences that say when scenes begin and end as they are looked through from the first to the last.
use Rattle.std.specs.Prelude.{◌≡◌, ℕ, ◌+◌, ◌*◌, Bool, List, [], ◌∷◌, ◌++◌, Option, Some, None, if◌then◌else◌, map, option_map, slice_get, slice_set}
use Rattle.world_meaning.specs.declared.fault.FaultCode.{FaultCode}
use Rattle.world_meaning.specs.declared.fault.FaultCode.TheVariants.{TooMany, Twice, UnknownName}
use Rattle.world_meaning.specs.Declarations.{is_among}
use Rattle.play_meaning.specs.ScenesMeant.{scene_meant}
use Rattle.play_meaning.specs.declared.tree.condition.Condition.{Condition}
use Rattle.play_meaning.specs.declared.tree.scene.MeantScene.{MeantScene}
use Rattle.i7_conditions.specs.Clauses.{scene_named}
use Rattle.i7_conditions.specs.declared.found.Found.{Found}
use Rattle.i7_conditions.specs.declared.found.Found.TheVariants as read
use Rattle.i7_rules.specs.Knowns.{Known, scope_among}
use Rattle.i7_rules.specs.RuleScans.{IsLow}
use Rattle.i7_sentences.specs.Lowest.{lower_of}
use Rattle.i7_sentences.specs.declared.scene_change.SceneEdge.{SceneEdge}
use Rattle.i7_sentences.specs.declared.scene_change.SceneEdge.TheVariants.{Begins, Ends}
use Rattle.i7_resolution.specs.SceneChangeList.{ChangeAt}
use Rattle.i7_resolution.specs.SourceScenes.{AreScenes, IsOver, IsUnknown}
use Rattle.i7_resolution.specs.declared.scene_change.SceneTold.{SceneTold}
use Rattle.i7_resolution.specs.declared.source_scenes.ScenesFound.{ScenesFound}
use Rattle.i7_resolution.specs.declared.source_scenes.ScenesFound.TheVariants as whole
use Rattle.i7_resolution.specs.declared.source_scenes.SoFar.{SoFar}

-- ---- that a sentence before says the same of its scene

-- the begin and the end of each scene by a number of its own
abbrev pub edge_number : SceneEdge → ℕ → ℕ
edge_number Begins scene = 2 * scene
edge_number Ends scene = 2 * scene + 1

-- that of which a sentence tells, if its words name a scene
abbrev pub edge_of : Known → ChangeAt → Option ℕ
edge_of k c = option_map (edge_number c.said.edge) (scene_named (scope_among k []) c.said.scene)

abbrev pub mention_edge : List ℕ → Option ℕ → List ℕ
mention_edge seen None = seen
mention_edge seen (Some edge) = if is_among edge seen then seen else seen ++ edge ∷ []

abbrev pub twice_at : List ℕ → ℕ → Option ℕ → Option ℕ
twice_at seen line None = None
twice_at seen line (Some edge) = if is_among edge seen then Some line else None

-- ---- what is found of each

-- it begins, or ends, on this condition
abbrev pub edged : SceneEdge → Condition → MeantScene → MeantScene
edged Begins condition scene = record scene { begins = Some condition }
edged Ends condition scene = record scene { ends = Some condition }

abbrev pub with_edge_at : List MeantScene → ℕ → SceneEdge → Condition → Option MeantScene → List MeantScene
with_edge_at scenes n edge condition None = scenes
with_edge_at scenes n edge condition (Some scene) = slice_set scenes n (edged edge condition scene)

-- the scene of this number, if it is there
abbrev pub with_edge : List MeantScene → ℕ → SceneEdge → Condition → List MeantScene
with_edge scenes n edge condition = with_edge_at scenes n edge condition (slice_get scenes n)

-- it neither begins nor ends
abbrev pub untold : Bool → MeantScene
untold recurs = record { recurs = recurs; begins = None; ends = None }

-- what is told of the scenes so far, and the lowest lines of what is wrong
pub record State : Type 0 where
  pub scenes : List MeantScene
  pub unknown : Option ℕ
  pub too_many : Option ℕ

abbrev pub state_of : SoFar → State
state_of so_far = record { scenes = so_far.scenes.items; unknown = so_far.unknown; too_many = so_far.too_many }

-- with a sentence that is found to tell so much
abbrev pub with_found : State → ChangeAt → Found SceneTold → State
with_found state c (read.Read told) = record state { scenes = with_edge state.scenes told.scene c.said.edge told.condition }
with_found state c read.TooMany = record state { too_many = lower_of state.too_many (Some c.line) }
with_found state c read.Unread = record state { unknown = lower_of state.unknown (Some c.line) }

-- what is found of these sentences, the last first
pub record IsSoFar (k : Known) (recurring : List Bool) (changes : List ChangeAt) (state : State) : Type 0 where
  pub unknown : IsLow (IsUnknown k) changes state.unknown
  pub too_many : IsLow (IsOver k) changes state.too_many
  pub told : state.unknown ≡ None → state.too_many ≡ None → AreScenes k changes recurring (map scene_meant state.scenes)

-- ---- what is told of all

abbrev pub refused_or : FaultCode → Option ℕ → ScenesFound → ScenesFound
refused_or code None next = next
refused_or code (Some line) next = whole.Refused (record { code = code; line = line })

-- by the lowest line of a sentence whose like stands before it, and by what else is found
abbrev pub so_far_told : Option ℕ → SoFar → ScenesFound
so_far_told twice so_far = refused_or Twice twice (refused_or UnknownName so_far.unknown (refused_or TooMany so_far.too_many (whole.Says so_far.scenes)))
