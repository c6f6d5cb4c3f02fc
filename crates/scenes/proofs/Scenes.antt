-- A scene's steps are read off its entry, and what is left of a pass is the turn of the next scene and what is left behind it.
use Rattle.std.proofs.Common.{◌≡◌, ◌∙◌, ap, sym, refl, subst, ℕ, zero, suc, ◌+◌, ◌≤◌, eqb, add-one, Bool, true, false, List, [], ◌∷◌, drop, length, map, Option, None, Some, Ok, Err, inl, inr, arith}
use Rattle.std.specs.Prelude.{◌==◌, option_map, slice_get, if◌then◌else◌}
use Rattle.std.proofs.lemmas.Bool.{cases_Bool, eqb-true}
use Rattle.std.proofs.lemmas.List.{drop_all, length-map}
use Rattle.std.proofs.lemmas.Option.{slice_get-map}
use Rattle.world_meaning.specs.declared.session.Abandon.{Abandon}
use Rattle.play_meaning.specs.Attempts.{Attempt, next}
use Rattle.play_meaning.specs.CodedStories.{CodedScene, answer_or, begins_by, ends_by, game_of_codes}
use Rattle.play_meaning.specs.Games.{Game}
use Rattle.play_meaning.specs.Progress.{Progress}
use Rattle.play_meaning.specs.Turns.{beginning_of, begins_book, begins_now as begins_and_may, ending_of, ends_book, in_order, no_action, pass, scene_steps, set_and_follow}
use Rattle.play_meaning.specs.Worlds.{World, scene_of}
use Rattle.play_meaning.specs.declared.scene.SceneNow.{SceneNow}
use Rattle.story_format.specs.Carrying.{code_if_some}
use Rattle.story_format.specs.Codes.{codes_told}
use Rattle.story_format.specs.declared.rule_tables.SceneEntry.{SceneEntry}
use Rattle.story_format.specs.declared.tables.Tables.{Tables}
use Rattle.world_store.specs.StorySettings.{setting_of}
use Rattle.world_store.specs.StoryPlay.{coded_story, game_in_play, scene_told}
use Rattle.scenes.specs.Passes.{IsSceneOf, IsTestIfSome, answer_of, begins_now, ends_now, in_turn, may_begin}

abbrev ended : SceneNow
ended = record { happens = false; has_begun = true }

abbrev happening : SceneNow
happening = record { happens = true; has_begun = true }

-- a number that isn't the one for none names a code
pub code_there : (code : ℕ) → (code ≡ 65535 → ⊥) → code_if_some code ≡ Some code
code_there code other =
    elim (cases_Bool (eqb code 65535)) [
      | inl is ↦ absurd (other (eqb-true code 65535 is))
      | inr isnt ↦ rw isnt refl
    ]

-- ---- a scene by its entry

scene_there : (t : Tables) (scene : ℕ) (entry : SceneEntry) → IsSceneOf t scene entry → slice_get (map scene_told t.rules.scenes) scene ≡ Some (scene_told entry)
scene_there t scene entry is = slice_get-map scene_told t.rules.scenes scene ∙ ap (option_map scene_told) is.there

-- as the tables say that are the story's
pub scene_so : (s t : Tables) (n scene : ℕ) (entry : SceneEntry) → s ≡ t → n ≡ scene → Some entry ≡ slice_get s.rules.scenes n → IsTestIfSome s (code_if_some entry.begins)
    → IsTestIfSome s (code_if_some entry.ends) → IsSceneOf t scene entry
scene_so s t n scene entry same number there begins ends = record {
  there = ap (λ (n : ℕ). slice_get t.rules.scenes n) (sym number) ∙ ap (λ (t : Tables). slice_get t.rules.scenes n) (sym same) ∙ sym there;
  begins = subst (λ t. IsTestIfSome t (code_if_some entry.begins)) same begins;
  ends = subst (λ t. IsTestIfSome t (code_if_some entry.ends)) same ends;
}

module _ (t : Tables) (scene : ℕ) (entry : SceneEntry) (is : IsSceneOf t scene entry) (p : Progress) where
  abbrev g : Game
  g = game_in_play t

  ends_by_entry : (w : World) → g.ends scene w ≡ answer_of t entry.ends w
  unfolding game_of_codes coded_story
  ends_by_entry w = ap (λ (s : Option CodedScene). answer_or false (codes_told t) (setting_of t) no_action w (ends_by s)) (scene_there t scene entry is)

  begins_by_entry : (w : World) → g.begins scene w ≡ answer_of t entry.begins w
  unfolding game_of_codes coded_story
  begins_by_entry w = ap (λ (s : Option CodedScene). answer_or false (codes_told t) (setting_of t) no_action w (begins_by s)) (scene_there t scene entry is)

  -- ---- its end

  ends_so : Bool → Attempt Progress
  ends_so ends = set_and_follow ends g scene ended (ends_book scene) p

  ending_is : ending_of g scene p ≡ next (ends_now t scene entry p.world) ends_so
  unfolding ending_of ends_so
  ending_is = ap (λ attempt. next (if (scene_of p.world scene).happens then attempt else Ok false) (λ ends. set_and_follow ends g scene ended (ends_book scene) p)) (ends_by_entry p.world)

  pub not_ended : ends_now t scene entry p.world ≡ Ok false → ending_of g scene p ≡ Ok p
  unfolding ends_so
  not_ended ends = ending_is ∙ ap (λ attempt. next attempt ends_so) ends

  pub has_ended : (s : Tables) (q : Progress) (book : ℕ) → ends_now t scene entry p.world ≡ Ok true → s ≡ t → q ≡ p → book ≡ ends_book scene
      → set_and_follow true (game_in_play s) scene ended book q ≡ ending_of g scene p
  unfolding ends_so
  has_ended s q book ends same stays is_book =
      (λ i. set_and_follow true (game_in_play (same i)) scene ended (is_book i) (stays i)) ∙ sym (ending_is ∙ ap (λ attempt. next attempt ends_so) ends)

  pub ending_breaks : (reason : Abandon) → ends_now t scene entry p.world ≡ Err reason → ending_of g scene p ≡ Err reason
  ending_breaks reason ends = ending_is ∙ ap (λ attempt. next attempt ends_so) ends

  -- ---- its beginning

  begins_so : Bool → Attempt Progress
  begins_so begins = set_and_follow (begins_and_may begins (may_begin scene entry p.world)) g scene happening (begins_book scene) p

  beginning_is : beginning_of g (entry.recurring == 1) scene p ≡ next (begins_now t scene entry p.world) begins_so
  unfolding beginning_of begins_so
  beginning_is =
      ap (λ attempt. next (if (scene_of p.world scene).happens then Ok false else attempt)
      (λ begins. set_and_follow (begins_and_may begins (may_begin scene entry p.world)) g scene happening (begins_book scene) p)) (begins_by_entry p.world)

  pub not_begun : begins_now t scene entry p.world ≡ Ok false → beginning_of g (entry.recurring == 1) scene p ≡ Ok p
  unfolding begins_so
  not_begun begins = beginning_is ∙ ap (λ attempt. next attempt begins_so) begins

  pub not_again : begins_now t scene entry p.world ≡ Ok true → may_begin scene entry p.world ≡ false → beginning_of g (entry.recurring == 1) scene p ≡ Ok p
  unfolding begins_so
  not_again begins may =
      beginning_is ∙ ap (λ attempt. next attempt begins_so) begins ∙ ap (λ may. set_and_follow (begins_and_may true may) g scene happening (begins_book scene) p) may

  pub has_begun : (attempt : Attempt Progress) → begins_now t scene entry p.world ≡ Ok true → may_begin scene entry p.world ≡ true
      → set_and_follow true g scene happening (begins_book scene) p ≡ attempt → beginning_of g (entry.recurring == 1) scene p ≡ attempt
  unfolding begins_so
  has_begun attempt begins may comes =
      beginning_is ∙ ap (λ attempt. next attempt begins_so) begins ∙ ap (λ may. set_and_follow (begins_and_may true may) g scene happening (begins_book scene) p) may ∙ comes

  pub beginning_breaks : (reason : Abandon) → begins_now t scene entry p.world ≡ Err reason → beginning_of g (entry.recurring == 1) scene p ≡ Err reason
  beginning_breaks reason begins = beginning_is ∙ ap (λ attempt. next attempt begins_so) begins

-- ---- a scene's turn

pub turn_of_none : (g : Game) (scene : ℕ) (found : Option SceneEntry) (p : Progress) → found ≡ None → in_turn g scene found p ≡ Ok p
turn_of_none g scene found p none = ap (λ found. in_turn g scene found p) none

module _ (g : Game) (scene : ℕ) (entry : SceneEntry) (found : Option SceneEntry) (there : found ≡ Some entry) (p : Progress) where
  pub both : (q : Progress) (attempt : Attempt Progress) → ending_of g scene p ≡ Ok q → beginning_of g (entry.recurring == 1) scene q ≡ attempt → in_turn g scene found p ≡ attempt
  both q attempt ends begins = ap (λ found. in_turn g scene found p) there ∙ ap (λ attempt. next attempt (beginning_of g (entry.recurring == 1) scene)) ends ∙ begins

  pub first_breaks : (reason : Abandon) → ending_of g scene p ≡ Err reason → in_turn g scene found p ≡ Err reason
  first_breaks reason ends = ap (λ found. in_turn g scene found p) there ∙ ap (λ attempt. next attempt (beginning_of g (entry.recurring == 1) scene)) ends

-- ---- a pass

-- of each scene whether it recurs
abbrev pub recurring : List SceneEntry → List Bool
recurring scenes = map (λ (scene : SceneEntry). scene.recurring == 1) scenes

told_alike : (scenes : List SceneEntry) → map (λ (scene : CodedScene). scene.recurs) (map scene_told scenes) ≡ recurring scenes
told_alike [] = refl
told_alike (scene ∷ scenes) = ap (λ told. (scene.recurring == 1) ∷ told) (told_alike scenes)

scenes_are : (t : Tables) → (game_in_play t).scenes ≡ recurring t.rules.scenes
unfolding game_of_codes coded_story
scenes_are t = told_alike t.rules.scenes

next_next : {A B C : Type 0} (attempt : Attempt A) (f : A → Attempt B) (h : B → Attempt C) → next attempt (λ a. next (f a) h) ≡ next (next attempt f) h
next_next (Ok a) f h = refl
next_next (Err reason) f h = refl

module _ (g : Game) where
  -- the steps of scenes from a place on, the first of which has this number
  abbrev pub steps_of : ℕ → ℕ → List SceneEntry → Progress → Attempt Progress
  steps_of scene place scenes = in_order (scene_steps g scene (drop place (recurring scenes)))

  steps_from : (scene place : ℕ) (scenes : List SceneEntry) (p : Progress)
      → steps_of scene place scenes p ≡ next (in_turn g scene (slice_get scenes place) p) (steps_of (scene + 1) (suc place) scenes)
  steps_from scene zero [] p = refl
  steps_from scene (suc place) [] p = refl
  steps_from scene zero (entry ∷ scenes) p = next_next (ending_of g scene p) (beginning_of g (entry.recurring == 1) scene) (steps_of (scene + 1) 0 scenes)
  steps_from scene (suc place) (entry ∷ scenes) p = steps_from scene place scenes p

  steps_past : (scene place : ℕ) (scenes : List SceneEntry) (p : Progress) → length scenes ≤ place → steps_of scene place scenes p ≡ Ok p
  steps_past scene place scenes p past =
      ap (λ left. in_order (scene_steps g scene left) p) (drop_all place (recurring scenes) (omega (arith, past, length-map scenes (λ (scene : SceneEntry). scene.recurring == 1))))

-- what is left of a pass where scenes up to this one had their turn
abbrev pub left_of : Tables → ℕ → Progress → Attempt Progress
left_of t scene = steps_of (game_in_play t) scene scene t.rules.scenes

pub pass_begins : (t : Tables) (p : Progress) → left_of t 0 p ≡ pass (game_in_play t) p
unfolding pass
pass_begins t p = ap (λ scenes. in_order (scene_steps (game_in_play t) 0 scenes) p) (sym (scenes_are t))

module _ (t : Tables) (scene : ℕ) (p : Progress) (whole : Attempt Progress) (left : left_of t scene p ≡ whole) where
  abbrev turn : Attempt Progress
  turn = in_turn (game_in_play t) scene (slice_get t.rules.scenes scene) p

  abbrev behind : Progress → Attempt Progress
  behind = left_of t (scene + 1)

  whole_is : whole ≡ next turn behind
  whole_is =
      sym left ∙ steps_from (game_in_play t) scene scene t.rules.scenes p
      ∙ ap (λ place. next turn (steps_of (game_in_play t) (scene + 1) place t.rules.scenes)) (sym (add-one scene))

  pub pass_goes : (q : Progress) → turn ≡ Ok q → behind q ≡ whole
  pass_goes q comes = ap (λ attempt. next attempt behind) (sym comes) ∙ sym whole_is

  pub pass_breaks : (reason : Abandon) → turn ≡ Err reason → whole ≡ Err reason
  pass_breaks reason comes = whole_is ∙ ap (λ attempt. next attempt behind) comes

  pub pass_ends : length t.rules.scenes ≤ scene → whole ≡ Ok p
  pass_ends past = sym left ∙ steps_past (game_in_play t) scene scene t.rules.scenes p past

pub ruleset beginning_rules = (not_begun, not_again, has_begun, beginning_breaks)

pub ruleset turn_rules = (turn_of_none, both, first_breaks)

pub ruleset pass_rules = (pass_begins, pass_goes, pass_breaks, pass_ends)
