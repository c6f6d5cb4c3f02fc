-- The codes of a story that was loaded answer its rules' conditions, do what its rules do, and answer when its scenes begin and end.
use Rattle.std.proofs.Common.{◌≡◌, ◌∙◌, ap, sym, refl, ℕ, zero, suc, ◌+◌, true, eqb, List, [], ◌∷◌, ◌++◌, length, Option, Some, None, inl, inr, arith}
use Rattle.std.specs.Prelude.{replicate, slice_get}
use Rattle.std.specs.List.{flat_map}
use Rattle.std.proofs.lemmas.Bool.{eqb-true, cases_Bool, and_parts}
use Rattle.world_meaning.proofs.Options.{get_front}
use Rattle.play_meaning.specs.declared.operand.Use.{Use}
use Rattle.play_meaning.specs.declared.operand.Use.TheVariants.{Body, Describing, Test}
use Rattle.code_table.proofs.Together.{head_there}
use Rattle.story_code.specs.Runs.{IsBody, IsTestAt}
use Rattle.story_code.specs.Soundness.{Judged}
use Rattle.story_format.specs.Carrying.{code_if_some}
use Rattle.story_format.specs.Checks.{codes_named}
use Rattle.story_format.specs.Codes.{IsTestOf, counts_of, uses_of}
use Rattle.story_format.specs.Facts.{body_in, body_of_rule, code_in_body, condition_in, condition_of_rule}
use Rattle.story_format.specs.Loaded.{IsLoaded}
use Rattle.story_format.specs.RuleChecks.{code_if, code_of_body, codes_in_rule, codes_in_rules, codes_in_scene, codes_in_scenes, codes_in_tables, test_if, use_in_body, uses_in_rule, uses_in_rules, uses_in_scene, uses_in_scenes, uses_in_tables}
use Rattle.story_format.specs.Soundness.{are_in_turn}
use Rattle.story_format.specs.Spells.{IsStory}
use Rattle.story_format.specs.declared.rule_entry.RuleBody.{RuleBody}
use Rattle.story_format.specs.declared.rule_entry.RuleBody.TheVariants.{Code, Standard, Unknown}
use Rattle.story_format.specs.declared.rule_entry.RuleEntry.{RuleEntry}
use Rattle.story_format.specs.declared.rule_tables.SceneEntry.{SceneEntry}
use Rattle.story_format.specs.declared.tables.Tables.{Tables}
use Rattle.story_format.proofs.RuleLemmas.{length_replicated, rule_counted, scene_counted, tests_counted, uses_counted}
use Rattle.story_format.proofs.Turns.{turn_parted}
use Rattle.story_format.proofs.StoryLemmas.{behind_there}

-- a code that is named, behind so many, has this use
record IsUsed (next : ℕ) (uses : List Use) (n : ℕ) (role : Use) : Type 0 where
  place : ℕ
  number : n ≡ next + place
  used : slice_get uses place ≡ Some role

later : (next count : ℕ) (front back : List Use) (n : ℕ) (role : Use) → length front ≡ count → IsUsed (next + count) back n role → IsUsed next (front ++ back) n role
later next count front back n role long is = record { place = length front + is.place; number = omega (arith, is.number, long); used = behind_there front back is.place role is.used }

sooner : (next : ℕ) (front back : List Use) (n : ℕ) (role : Use) → IsUsed next front n role → IsUsed next (front ++ back) n role
sooner next front back n role is = record { place = is.place; number = is.number; used = get_front front back is.place role is.used }

-- a code that is named alone, as a test
test_used : (next m n : ℕ) → are_in_turn next (code_if m) ≡ true → code_if_some m ≡ Some n → IsUsed next (test_if m) n (Test 0)
unfolding are_in_turn
test_used next m n turn is =
    elim (cases_Bool (eqb m 65535)) [
      | inl none ↦ let wrong : None ≡ Some n = rw none at is in absurd cc
      | inr some ↦
          let same : Some m ≡ Some n = rw some at is in
          let one : m ≡ n = cc in
          let named : are_in_turn next (m ∷ []) ≡ true = rw some at turn in
          let here : m ≡ next = eqb-true m next (and_parts (eqb m next) true named).0 in
          record { place = 0; number = omega (arith, one, here); used = rw some refl }
    ]

-- ---- in one rule

condition_used : (next : ℕ) (r : RuleEntry) (n : ℕ) → are_in_turn next (codes_in_rule r) ≡ true → condition_in (Some r) ≡ Some n → IsUsed next (uses_in_rule r) n (Test 0)
condition_used next r n turn is =
    sooner next (test_if r.condition) (use_in_body r.body) n (Test 0) (test_used next r.condition n (turn_parted (code_if r.condition) (code_of_body r.body) next turn).0 is)

body_alone : (next : ℕ) (b : RuleBody) (n : ℕ) → are_in_turn next (code_of_body b) ≡ true → code_in_body b ≡ Some n → IsUsed next (use_in_body b) n Body
unfolding are_in_turn
body_alone next (Code m) n turn is =
    let one : m ≡ n = cc in
    let here : m ≡ next = eqb-true m next (and_parts (eqb m next) true turn).0 in
    record { place = 0; number = omega (arith, one, here); used = refl }
body_alone next (Standard m) n turn is = absurd cc
body_alone next (Unknown m) n turn is = absurd cc

body_used : (next : ℕ) (r : RuleEntry) (n : ℕ) → are_in_turn next (codes_in_rule r) ≡ true → code_in_body r.body ≡ Some n → IsUsed next (uses_in_rule r) n Body
body_used next r n turn is =
    let t = turn_parted (code_if r.condition) (code_of_body r.body) next turn in
    later next (length (code_if r.condition)) (test_if r.condition) (use_in_body r.body) n Body (tests_counted r.condition) (body_alone (next + length (code_if r.condition)) r.body n t.1 is)

-- ---- in one scene

abbrev begins_in : Option SceneEntry → Option ℕ
begins_in None = None
begins_in (Some scene) = code_if_some scene.begins

abbrev ends_in : Option SceneEntry → Option ℕ
ends_in None = None
ends_in (Some scene) = code_if_some scene.ends

begins_used : (next : ℕ) (scene : SceneEntry) (n : ℕ) → are_in_turn next (codes_in_scene scene) ≡ true → begins_in (Some scene) ≡ Some n → IsUsed next (uses_in_scene scene) n (Test 0)
begins_used next scene n turn is =
    sooner next (test_if scene.begins) (test_if scene.ends) n (Test 0) (test_used next scene.begins n (turn_parted (code_if scene.begins) (code_if scene.ends) next turn).0 is)

ends_used : (next : ℕ) (scene : SceneEntry) (n : ℕ) → are_in_turn next (codes_in_scene scene) ≡ true → ends_in (Some scene) ≡ Some n → IsUsed next (uses_in_scene scene) n (Test 0)
ends_used next scene n turn is =
    let t = turn_parted (code_if scene.begins) (code_if scene.ends) next turn in
    later next (length (code_if scene.begins)) (test_if scene.begins) (test_if scene.ends) n (Test 0) (tests_counted scene.begins) (test_used (next + length (code_if scene.begins)) scene.ends n t.1 is)

-- ---- among all rules, or all scenes

module _ {X : Type 0} (codes : X → List ℕ) (uses : X → List Use) (counted : (x : X) → length (uses x) ≡ length (codes x)) (chosen : Option X → Option ℕ) (role : Use) (none : chosen None ≡ None)
    (one : (next : ℕ) (x : X) (n : ℕ) → are_in_turn next (codes x) ≡ true → chosen (Some x) ≡ Some n → IsUsed next (uses x) n role) where
  all_used : (next : ℕ) (xs : List X) (place n : ℕ) → are_in_turn next (flat_map codes xs) ≡ true → chosen (slice_get xs place) ≡ Some n → IsUsed next (flat_map uses xs) n role
  all_used next [] place n turn is = let wrong : None ≡ Some n = sym none ∙ is in absurd cc
  all_used next (x ∷ xs) zero n turn is = sooner next (uses x) (flat_map uses xs) n role (one next x n (turn_parted (codes x) (flat_map codes xs) next turn).0 is)
  all_used next (x ∷ xs) (suc place) n turn is =
      later next (length (codes x)) (uses x) (flat_map uses xs) n role (counted x)
      (all_used (next + length (codes x)) xs place n (turn_parted (codes x) (flat_map codes xs) next turn).1 is)

-- ---- in a story

module _ (t : Tables) (judged : List Judged) (loaded : IsLoaded t judged) where
  abbrev described : ℕ
  described = length (codes_named t.objects)

  -- the codes that rules name are in turn, and behind them those that scenes name
  behind : (are_in_turn (0 + described) (codes_in_rules t.rules.rules) ≡ true) × (are_in_turn (0 + described + length (codes_in_rules t.rules.rules)) (codes_in_scenes t.rules.scenes) ≡ true)
  behind = turn_parted (codes_in_rules t.rules.rules) (codes_in_scenes t.rules.scenes) (0 + described) (turn_parted (codes_named t.objects) (codes_in_tables t.rules) 0 loaded.story.sound.in_turn).1

  there : (n : ℕ) (role : Use) → IsUsed (0 + described) (uses_in_tables t.rules) n role → (j : Judged) × ((slice_get judged n ≡ Some j) × (j.sizes.role ≡ role))
  there n role used =
      let front = replicate described Describing in
      let place : n ≡ length front + used.place = omega (arith, used.number, length_replicated Describing described) in
      head_there (counts_of t) (uses_of t) t.codes judged loaded.codes n role (ap (slice_get (uses_of t)) place ∙ behind_there front (uses_in_tables t.rules) used.place role used.used)

  of_rule : (n : ℕ) (role : Use) → IsUsed (0 + described) (uses_in_rules t.rules.rules) n role → (j : Judged) × ((slice_get judged n ≡ Some j) × (j.sizes.role ≡ role))
  of_rule n role used = there n role (sooner (0 + described) (uses_in_rules t.rules.rules) (uses_in_scenes t.rules.scenes) n role used)

  pub loaded_asked : (r n : ℕ) → condition_of_rule t r ≡ Some n → IsTestAt judged n 0
  loaded_asked r n is = of_rule n (Test 0) (all_used codes_in_rule uses_in_rule rule_counted condition_in (Test 0) refl condition_used (0 + described) t.rules.rules r n behind.0 is)

  pub loaded_done : (r n : ℕ) → body_of_rule t r ≡ Some n → IsBody judged n
  loaded_done r n is = of_rule n Body (all_used codes_in_rule uses_in_rule rule_counted body_in Body refl body_used (0 + described) t.rules.rules r n behind.0 is)

  of_scene : (n : ℕ) → IsUsed (0 + described + length (codes_in_rules t.rules.rules)) (uses_in_scenes t.rules.scenes) n (Test 0) → IsTestAt judged n 0
  of_scene n used =
      there n (Test 0) (later (0 + described) (length (codes_in_rules t.rules.rules)) (uses_in_rules t.rules.rules) (uses_in_scenes t.rules.scenes) n (Test 0) (uses_counted t.rules.rules) used)

  begun_by : (s n : ℕ) → begins_in (slice_get t.rules.scenes s) ≡ Some n → IsTestAt judged n 0
  begun_by s n is = of_scene n (all_used codes_in_scene uses_in_scene scene_counted begins_in (Test 0) refl begins_used (0 + described + length (codes_in_rules t.rules.rules)) t.rules.scenes s n behind.1 is)

  ended_by : (s n : ℕ) → ends_in (slice_get t.rules.scenes s) ≡ Some n → IsTestAt judged n 0
  ended_by s n is = of_scene n (all_used codes_in_scene uses_in_scene scene_counted ends_in (Test 0) refl ends_used (0 + described + length (codes_in_rules t.rules.rules)) t.rules.scenes s n behind.1 is)

module _ (t : Tables) (story : IsStory t) (s : ℕ) (entry : SceneEntry) (is : slice_get t.rules.scenes s ≡ Some entry) (n : ℕ) where
  pub scene_begins : code_if_some entry.begins ≡ Some n → IsTestOf t n
  scene_begins named judged codes = begun_by t judged (record { story = story; codes = codes }) s n (ap begins_in is ∙ named)

  pub scene_ends : code_if_some entry.ends ≡ Some n → IsTestOf t n
  scene_ends named judged codes = ended_by t judged (record { story = story; codes = codes }) s n (ap ends_in is ∙ named)
