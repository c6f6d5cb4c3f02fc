-- A change that was written in the log and made.
use Rattle.std.proofs.Common.{◌≡◌, ◌∙◌, sym, ap, refl, subst, ℕ, ◌+◌, Bool, true, ℤ, List, [], ◌∷◌, ◌++◌}
use Rattle.std.specs.Prelude.{◌<◌, Option, Some, slice_index_or, slice_set}
use Rattle.play_meaning.specs.Turns.{most_turns}
use Rattle.play_meaning.specs.Values.{is_value}
use Rattle.play_meaning.specs.Worlds.{World, end_with, is_true_of, next_turn, number_of, place_of, scene_of, set_flag, set_number, set_place, set_scene, set_value, set_variable, value_of, variable_of}
use Rattle.play_meaning.specs.declared.scene.SceneNow.{SceneNow}
use Rattle.story_format.specs.declared.tables.Tables.{Tables}
use Rattle.world_meaning.specs.declared.place.Place.{Place}
use Rattle.world_store.specs.Pasts.{past_of, story_world, undone}
use Rattle.world_store.specs.StorySettings.{setting_of}
use Rattle.world_store.specs.StoryWorlds.{AreKept, IsKept, IsStoryWorld, StoryWorld}
use Rattle.world_store.specs.declared.remembering.Was.{Was}
use Rattle.world_store.specs.declared.remembering.Was.TheVariants.{Flag, Number, Valued, Variable, Scene, Placed, Turns, Ended}
use Rattle.world_store.proofs.Keeping.{ending_kept, flag_kept, number_kept, scene_kept, turn_kept, value_kept, variable_kept}
use Rattle.world_store.proofs.Pasts.{flag_back, kept_more, number_back, past_but_last, place_back, scene_back, value_back, variable_back}

-- what is kept behind it, and what is seen: the world that it made, and the one before it behind the others
pub record IsLogged (t : Tables) (log : List Was) (v : World) (s : StoryWorld) (made : World) : Type 0 where
  pub kept : IsStoryWorld (story_world t v log)
  pub seen : story_world t v log ≡ record s { world = made; past = s.past ++ s.world ∷ [] }

abbrev story : Tables → World → List World → StoryWorld
story t w past = record { tables = t; world = w; past = past }

pub logged : (t : Tables) (log new : List Was) (was : Was) (w v : World) (s : StoryWorld) (made : World) → story_world t w log ≡ s → IsStoryWorld (story_world t w log) → IsKept t v
    → v ≡ made → new ≡ log ++ was ∷ [] → undone was v ≡ w → IsLogged t new v s made
logged t log new was w v s made same is kept there written back =
    let before : past_of new v ≡ past_of log w ++ w ∷ [] = past_but_last new log was v w written (sym back) in
    record {
      kept = record { now = kept; before = subst (AreKept t) (sym before) (kept_more t (past_of log w) w is.before is.now) };
      seen = ap (λ (ws : List World). story t v ws) before ∙ ap (λ (x : StoryWorld). record x { world = v; past = x.past ++ x.world ∷ [] }) same
          ∙ ap (λ (u : World). record s { world = u; past = s.past ++ s.world ∷ [] }) there;
    }

module _ (t : Tables) (log new : List Was) (w : World) (s : StoryWorld) (same : story_world t w log ≡ s) (is : IsStoryWorld (story_world t w log)) where
  world_same : w ≡ s.world
  world_same = ap (λ (x : StoryWorld). x.world) same

  pub flag_logged : (property o : ℕ) (value was : Bool) (flags : List (List Bool)) → was ≡ is_true_of s.world property o
      → flags ≡ slice_set w.flags property (slice_set (slice_index_or w.flags property []) o value) → new ≡ log ++ Flag property o was ∷ []
      → IsLogged t new (record w { flags = flags }) s (set_flag property o value s.world)
  unfolding set_flag
  flag_logged property o value was flags read set written =
      let v : World = record w { flags = flags } in
      let made : v ≡ set_flag property o value w = ap (λ fs. record w { flags = fs }) set in
      logged t log new (Flag property o was) w v s (set_flag property o value s.world) same is (subst (IsKept t) (sym made) (flag_kept t w property o value is.now))
      (made ∙ ap (set_flag property o value) world_same) written
      (ap (λ b. set_flag property o b v) (read ∙ ap (λ x. is_true_of x property o) (sym world_same)) ∙ ap (set_flag property o (is_true_of w property o)) made
      ∙ flag_back w property o value)

  pub number_logged : (property o : ℕ) (value stored was : ℤ) (numbers : List (List ℤ)) → stored ≡ value → was ≡ number_of s.world property o
      → numbers ≡ slice_set w.numbers property (slice_set (slice_index_or w.numbers property []) o stored) → new ≡ log ++ Number property o was ∷ []
      → IsLogged t new (record w { numbers = numbers }) s (set_number property o value s.world)
  unfolding set_number
  number_logged property o value stored was numbers same_value read set written =
      let v : World = record w { numbers = numbers } in
      let made : v ≡ set_number property o value w = ap (λ ns. record w { numbers = ns }) set ∙ ap (λ n. set_number property o n w) same_value in
      logged t log new (Number property o was) w v s (set_number property o value s.world) same is (subst (IsKept t) (sym made) (number_kept t w property o value is.now))
      (made ∙ ap (set_number property o value) world_same) written
      (ap (λ n. set_number property o n v) (read ∙ ap (λ x. number_of x property o) (sym world_same)) ∙ ap (set_number property o (number_of w property o)) made
      ∙ number_back w property o value)

  pub value_logged : (kind o value was : ℕ) (values : List (List ℕ)) → is_value (setting_of s.tables) kind value ≡ true → was ≡ value_of s.world kind o
      → values ≡ slice_set w.values kind (slice_set (slice_index_or w.values kind []) o value) → new ≡ log ++ Valued kind o was ∷ []
      → IsLogged t new (record w { values = values }) s (set_value kind o value s.world)
  unfolding set_value
  value_logged kind o value was values fits read set written =
      let v : World = record w { values = values } in
      let its : is_value (setting_of t) kind value ≡ true = subst (λ (u : Tables). is_value (setting_of u) kind value ≡ true) (sym (ap (λ (x : StoryWorld). x.tables) same)) fits in
      let made : v ≡ set_value kind o value w = ap (λ vs. record w { values = vs }) set in
      logged t log new (Valued kind o was) w v s (set_value kind o value s.world) same is (subst (IsKept t) (sym made) (value_kept t w kind o value its is.now))
      (made ∙ ap (set_value kind o value) world_same) written
      (ap (λ n. set_value kind o n v) (read ∙ ap (λ x. value_of x kind o) (sym world_same)) ∙ ap (set_value kind o (value_of w kind o)) made
      ∙ value_back w kind o value)

  pub variable_logged : (variable at : ℕ) (value stored was : ℤ) (variables : List ℤ) → at ≡ variable → stored ≡ value → was ≡ variable_of s.world variable → variables ≡ slice_set w.variables at stored
      → new ≡ log ++ Variable variable was ∷ [] → IsLogged t new (record w { variables = variables }) s (set_variable variable value s.world)
  variable_logged variable at value stored was variables place same_value read set written =
      let v : World = record w { variables = variables } in
      let made : v ≡ set_variable variable value w = ap (λ vs. record w { variables = vs }) set ∙ ap (λ n. set_variable n stored w) place ∙ ap (λ n. set_variable variable n w) same_value in
      logged t log new (Variable variable was) w v s (set_variable variable value s.world) same is (subst (IsKept t) (sym made) (variable_kept t w variable value is.now))
      (made ∙ ap (set_variable variable value) world_same) written
      (ap (λ n. set_variable variable n v) (read ∙ ap (λ x. variable_of x variable) (sym world_same)) ∙ ap (set_variable variable (variable_of w variable)) made
      ∙ variable_back w variable value)

  pub scene_logged : (scene at : ℕ) (now was : SceneNow) (scenes : List SceneNow) → at ≡ scene → was ≡ scene_of s.world scene → scenes ≡ slice_set w.scenes at now
      → new ≡ log ++ Scene scene was ∷ [] → IsLogged t new (record w { scenes = scenes }) s (set_scene scene now s.world)
  scene_logged scene at now was scenes place read set written =
      let v : World = record w { scenes = scenes } in
      let made : v ≡ set_scene scene now w = ap (λ ss. record w { scenes = ss }) set ∙ ap (λ n. set_scene n now w) place in
      logged t log new (Scene scene was) w v s (set_scene scene now s.world) same is (subst (IsKept t) (sym made) (scene_kept t w scene now is.now))
      (made ∙ ap (set_scene scene now) world_same) written
      (ap (λ n. set_scene scene n v) (read ∙ ap (λ x. scene_of x scene) (sym world_same)) ∙ ap (set_scene scene (scene_of w scene)) made ∙ scene_back w scene now)

  pub place_logged : (o : ℕ) (place was : Option Place) (places : List (Option Place)) → was ≡ place_of s.world o → places ≡ slice_set w.places o place
      → new ≡ log ++ Placed o was ∷ [] → IsKept t (set_place o place w) → IsLogged t new (record w { places = places }) s (set_place o place s.world)
  place_logged o place was places read set written kept =
      let v : World = record w { places = places } in
      let made : v ≡ set_place o place w = ap (λ ps. record w { places = ps }) set in
      logged t log new (Placed o was) w v s (set_place o place s.world) same is (subst (IsKept t) (sym made) kept)
      (made ∙ ap (set_place o place) world_same) written
      (ap (λ n. set_place o n v) (read ∙ ap (λ x. place_of x o) (sym world_same)) ∙ ap (set_place o (place_of w o)) made ∙ place_back w o place)

  pub turn_logged : new ≡ log ++ Turns w.turns ∷ [] → s.world.turns < most_turns → IsLogged t new (record w { turns = w.turns + 1 }) s (next_turn s.world)
  turn_logged written fewer =
      logged t log new (Turns w.turns) w (next_turn w) s (next_turn s.world) same is (turn_kept t w (subst (λ (x : World). x.turns < most_turns) (sym world_same) fewer) is.now)
      (ap next_turn world_same) written refl

  pub ending_logged : (text : List ℕ) (was ended : Option (List ℕ)) → was ≡ w.ended → ended ≡ Some text → new ≡ log ++ Ended was ∷ []
      → IsLogged t new (record w { ended = ended }) s (end_with text s.world)
  ending_logged text was ended read set written =
      let v : World = record w { ended = ended } in
      logged t log new (Ended was) w v s (end_with text s.world) same is (ending_kept t w ended is.now) (ap (λ e. record w { ended = e }) set ∙ ap (end_with text) world_same) written
      (ap (λ e. record w { ended = e }) read)
