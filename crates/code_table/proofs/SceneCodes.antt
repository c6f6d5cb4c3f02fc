-- The codes of the conditions on which scenes begin and end, and why they end early.
use Rattle.std.proofs.Common.{◌≡◌, sym, subst, ℕ, ◌+◌, List, [], ◌++◌, length, append-nil, Option, Some, None}
use Rattle.std.specs.Option.{option_map}
use Rattle.std.specs.Prelude.{map}
use Rattle.std.proofs.lemmas.List.{map-append}
use Rattle.play_meaning.specs.Meant.{condition_meant}
use Rattle.play_meaning.specs.ScenesMeant.{scene_meant}
use Rattle.play_meaning.specs.TranslatedScripts.{in_list}
use Rattle.play_meaning.specs.declared.operand.Counts.{Counts}
use Rattle.play_meaning.specs.declared.tree.condition.Condition.{Condition}
use Rattle.play_meaning.specs.declared.tree.scene.MeantScene.{MeantScene}
use Rattle.code_table.specs.Coding.{AddAll, Adds, AreCoded, HasNoCode, StopIn}
use Rattle.code_table.specs.Origins.{Asks, Origin, origins_of_scene}
use Rattle.code_table.specs.declared.fault.TableFault.{TableFault}
use Rattle.code_table.proofs.Coded.{adds_both, adds_one}
use Rattle.code_table.proofs.Stopped.{stops_behind, stops_first, stops_in_front}

-- what the code of a condition is of, if there is one
abbrev pub asked : Option Condition → List Origin
asked o = map Asks (in_list (option_map condition_meant o))

module _ (z : Counts) (string : List ℕ → ℕ) (heads : ℕ) where
  -- ---- a condition, if there is one

  pub asked_added : (o : Option Condition) (condition : Condition) (codes tests more_codes more_tests : List (List ℕ)) → o ≡ Some condition → Adds z string heads (Asks (condition_meant condition)) codes tests more_codes more_tests
      → AddAll z string heads (asked o) codes tests more_codes more_tests
  asked_added o condition codes tests more_codes more_tests is adds =
      subst (λ l. AddAll z string heads (asked l) codes tests more_codes more_tests) (sym is) (adds_one z string heads (Asks (condition_meant condition)) codes tests more_codes more_tests adds)

  pub none_added : (o : Option Condition) (codes tests : List (List ℕ)) → o ≡ None → AddAll z string heads (asked o) codes tests codes tests
  none_added o codes tests is before coded =
      subst (λ l. AreCoded z string heads (before ++ asked l) codes tests) (sym is) (subst (λ l. AreCoded z string heads l codes tests) (sym (append-nil before)) coded)

  pub asked_stops : (o : Option Condition) (condition : Condition) (codes tests : List (List ℕ)) (fault : TableFault) → o ≡ Some condition → HasNoCode z string (heads + length tests) (Asks (condition_meant condition)) fault
      → StopIn z string heads (asked o) codes tests fault
  asked_stops o condition codes tests fault is none =
      subst (λ l. StopIn z string heads (asked l) codes tests fault) (sym is) (stops_first z string heads [] (Asks (condition_meant condition)) codes tests fault none)

  -- ---- that on which it begins, and behind it that on which it ends

  module _ (scene : MeantScene) (codes tests : List (List ℕ)) where
    both_asked : asked scene.begins ++ asked scene.ends ≡ origins_of_scene (scene_meant scene)
    both_asked = sym (map-append Asks (in_list (option_map condition_meant scene.begins)) (in_list (option_map condition_meant scene.ends)))

    pub scene_added : (codes_now tests_now more_codes more_tests : List (List ℕ)) → AddAll z string heads (asked scene.begins) codes tests codes_now tests_now
        → AddAll z string heads (asked scene.ends) codes_now tests_now more_codes more_tests → AddAll z string heads (origins_of_scene (scene_meant scene)) codes tests more_codes more_tests
    scene_added codes_now tests_now more_codes more_tests begins ends =
        subst (λ l. AddAll z string heads l codes tests more_codes more_tests) both_asked (adds_both z string heads (asked scene.begins) (asked scene.ends) codes tests codes_now tests_now more_codes more_tests begins ends)

    -- the first has no code
    pub begins_stops : (fault : TableFault) → StopIn z string heads (asked scene.begins) codes tests fault → StopIn z string heads (origins_of_scene (scene_meant scene)) codes tests fault
    begins_stops fault stop = subst (λ l. StopIn z string heads l codes tests fault) both_asked (stops_in_front z string heads (asked scene.begins) (asked scene.ends) codes tests fault stop)

    -- it has one, and the second hasn't
    pub ends_stops : (codes_now tests_now : List (List ℕ)) (fault : TableFault) → AddAll z string heads (asked scene.begins) codes tests codes_now tests_now
        → StopIn z string heads (asked scene.ends) codes_now tests_now fault → StopIn z string heads (origins_of_scene (scene_meant scene)) codes tests fault
    ends_stops codes_now tests_now fault begins stop =
        subst (λ l. StopIn z string heads l codes tests fault) both_asked (stops_behind z string heads (asked scene.begins) (asked scene.ends) codes tests codes_now tests_now fault begins stop)
