-- What a pass asks of a scene by its entry in a story's tables, and what its turn comes to.
use Rattle.std.specs.Prelude.{◌≡◌, ℕ, Bool, false, not, ◌||◌, ◌==◌, Option, None, Some, Ok, slice_get, if◌then◌else◌}
use Rattle.play_meaning.specs.Attempts.{Attempt, next}
use Rattle.play_meaning.specs.CodedStories.{answer_or}
use Rattle.play_meaning.specs.Games.{Game}
use Rattle.play_meaning.specs.Progress.{Progress}
use Rattle.play_meaning.specs.Turns.{beginning_of, ending_of, no_action}
use Rattle.play_meaning.specs.Worlds.{World, scene_of}
use Rattle.story_format.specs.Carrying.{code_if_some}
use Rattle.story_format.specs.Codes.{IsTestOf, codes_told}
use Rattle.story_format.specs.declared.rule_tables.SceneEntry.{SceneEntry}
use Rattle.story_format.specs.declared.tables.Tables.{Tables}
use Rattle.world_store.specs.StorySettings.{setting_of}

-- where a code is named it is a test of the story
abbrev pub IsTestIfSome : Tables → Option ℕ → Type 0
IsTestIfSome t code = (n : ℕ) → code ≡ Some n → IsTestOf t n

-- a scene of the story has this entry, and what begins and ends it are tests
pub record IsSceneOf (t : Tables) (scene : ℕ) (entry : SceneEntry) : Type 0 where
  pub there : slice_get t.rules.scenes scene ≡ Some entry
  pub begins : IsTestIfSome t (code_if_some entry.begins)
  pub ends : IsTestIfSome t (code_if_some entry.ends)

-- what the test of a scene answers; where there is none it is false
abbrev pub answer_of : Tables → ℕ → World → Attempt Bool
answer_of t code w = answer_or false (codes_told t) (setting_of t) no_action w (code_if_some code)

abbrev pub ends_now : Tables → ℕ → SceneEntry → World → Attempt Bool
ends_now t scene entry w = if (scene_of w scene).happens then answer_of t entry.ends w else Ok false

abbrev pub begins_now : Tables → ℕ → SceneEntry → World → Attempt Bool
begins_now t scene entry w = if (scene_of w scene).happens then Ok false else answer_of t entry.begins w

-- it recurs, or never began
abbrev pub may_begin : ℕ → SceneEntry → World → Bool
may_begin scene entry w = (entry.recurring == 1) || not (scene_of w scene).has_begun

-- a scene's turn in a pass; where it isn't there nothing happens
abbrev pub in_turn : Game → ℕ → Option SceneEntry → Progress → Attempt Progress
in_turn g scene None p = Ok p
in_turn g scene (Some entry) p = next (ending_of g scene p) (beginning_of g (entry.recurring == 1) scene)
