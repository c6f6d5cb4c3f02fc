-- The scenes of a tale: their codes are named in turn, each a test, and their entries are a story's.
use Rattle.std.proofs.Common.{◌≡◌, ◌∙◌, ap, sym, refl, ℕ, suc, ◌+◌, ◌≤◌, Bool, true, false, eqb, leb, ltb, List, [], ◌∷◌, ◌++◌, length, map, Option, Some, None, length-append, arith}
use Rattle.std.specs.Prelude.{min}
use Rattle.std.specs.List.{flat_map, list_all}
use Rattle.std.proofs.lemmas.Bool.{lt-ltb, ne_eqb, eq-eqb, or_right, and_from}
use Rattle.std.proofs.lemmas.List.{map-append}
use Rattle.play_meaning.specs.Scripts.{Scene}
use Rattle.play_meaning.specs.TranslatedScripts.{in_list}
use Rattle.play_meaning.specs.Trees.{Condition}
use Rattle.play_meaning.specs.declared.operand.Counts.{Counts}
use Rattle.code_table.specs.Origins.{Asks, Origin, origins_of_scene, use_for}
use Rattle.story_format.specs.Layout.{scene_layout}
use Rattle.story_format.specs.RuleChecks.{code_if, codes_in_scene, codes_in_scenes, is_number_or_none, is_right_scene, test_if, uses_in_scene, uses_in_scenes}
use Rattle.story_format.specs.RuleMaking.{condition_count, condition_number, mark_if, scene_count, scene_entries, scene_entry}
use Rattle.story_format.specs.Soundness.{are_in_turn}
use Rattle.story_format.proofs.Turns.{turn_joined}

abbrev pub origins_in_scenes : List Scene → List Origin
origins_in_scenes scenes = flat_map origins_of_scene scenes

-- ---- the number of a condition's code

pub condition_right : (next count : ℕ) (c : Option Condition) → next + condition_count c ≤ count → count ≤ 65535 → is_number_or_none 65535 count (condition_number next c) ≡ true
condition_right next count None le few = refl
condition_right next count (Some condition) le few =
    let first : min next 65535 ≡ next = omega (arith, le, few) in
    let there : ltb next count ≡ true = lt-ltb _ _ (omega (arith, le)) in
    rw first (or_right (eqb next 65535) (ltb next count) there)

pub condition_fits : (next : ℕ) (c : Option Condition) → ltb (condition_number next c) 65536 ≡ true
condition_fits next None = refl
condition_fits next (Some condition) = lt-ltb _ _ (omega arith)

abbrev codes_by : ℕ → Option Condition → List ℕ
codes_by next None = []
codes_by next (Some condition) = next ∷ []

code_is : (next : ℕ) (c : Option Condition) → next + condition_count c ≤ 65535 → code_if (condition_number next c) ≡ codes_by next c
code_is next None le = refl
code_is next (Some condition) le =
    let first : min next 65535 ≡ next = omega (arith, le) in
    let told : eqb next 65535 ≡ false = ne_eqb _ _ (λ k. omega (arith, k, le)) in
    rw (first, told) refl

by_turn : (next : ℕ) (c : Option Condition) → are_in_turn next (codes_by next c) ≡ true
unfolding are_in_turn
by_turn next None = refl
by_turn next (Some condition) = rw (eq-eqb next next refl) refl

by_count : (next : ℕ) (c : Option Condition) → length (codes_by next c) ≡ condition_count c
by_count next None = refl
by_count next (Some condition) = refl

-- it is a test's
test_is : (next : ℕ) (c : Option Condition) → next + condition_count c ≤ 65535 → test_if (condition_number next c) ≡ map use_for (map Asks (in_list c))
test_is next None le = refl
test_is next (Some condition) le =
    let first : min next 65535 ≡ next = omega (arith, le) in
    let told : eqb next 65535 ≡ false = ne_eqb _ _ (λ k. omega (arith, k, le)) in
    rw (first, told) refl

-- ---- one scene

pub asked_count : (c : Option Condition) → length (map Asks (in_list c)) ≡ condition_count c
asked_count None = refl
asked_count (Some condition) = refl

pub asked_parts : (scene : Scene) → origins_of_scene scene ≡ map Asks (in_list scene.begins) ++ map Asks (in_list scene.ends)
asked_parts scene = map-append Asks (in_list scene.begins) (in_list scene.ends)

pub scene_asked : (scene : Scene) → length (origins_of_scene scene) ≡ scene_count scene
scene_asked scene =
    ap length (asked_parts scene) ∙ length-append (map Asks (in_list scene.begins)) (map Asks (in_list scene.ends)) ∙ (λ i. asked_count scene.begins i + asked_count scene.ends i)

pub scenes_counted : (scene : Scene) (scenes : List Scene) → length (origins_in_scenes (scene ∷ scenes)) ≡ scene_count scene + length (origins_in_scenes scenes)
scenes_counted scene scenes = length-append (origins_of_scene scene) (origins_in_scenes scenes) ∙ ap (λ n. n + length (origins_in_scenes scenes)) (scene_asked scene)

module _ (next : ℕ) (scene : Scene) (le : next + scene_count scene ≤ 65535) where
  abbrev later : ℕ
  later = next + condition_count scene.begins

  scene_codes : codes_in_scene (scene_entry next scene) ≡ codes_by next scene.begins ++ codes_by later scene.ends
  scene_codes = λ i. code_is next scene.begins (omega (arith, le)) i ++ code_is later scene.ends (omega (arith, le)) i

  scene_turn : are_in_turn next (codes_in_scene (scene_entry next scene)) ≡ true
  scene_turn =
      let there : next + length (codes_by next scene.begins) ≡ later = omega (arith, by_count next scene.begins) in
      ap (are_in_turn next) scene_codes
      ∙ turn_joined (codes_by next scene.begins) (codes_by later scene.ends) next (by_turn next scene.begins) (ap (λ n. are_in_turn n (codes_by later scene.ends)) there ∙ by_turn later scene.ends)

  scene_long : length (codes_in_scene (scene_entry next scene)) ≡ scene_count scene
  scene_long = ap length scene_codes ∙ length-append (codes_by next scene.begins) (codes_by later scene.ends) ∙ (λ i. by_count next scene.begins i + by_count later scene.ends i)

  scene_used : uses_in_scene (scene_entry next scene) ≡ map use_for (origins_of_scene scene)
  scene_used =
      (λ i. test_is next scene.begins (omega (arith, le)) i ++ test_is later scene.ends (omega (arith, le)) i)
      ∙ sym (map-append use_for (map Asks (in_list scene.begins)) (map Asks (in_list scene.ends))) ∙ ap (map use_for) (sym (asked_parts scene))

-- ---- all scenes

pub scenes_in_turn : (scenes : List Scene) (next : ℕ) → next + length (origins_in_scenes scenes) ≤ 65535 → are_in_turn next (codes_in_scenes (scene_entries next scenes)) ≡ true
unfolding scene_entries are_in_turn
scenes_in_turn [] next le = refl
scenes_in_turn (scene ∷ scenes) next le =
    let more = scenes_counted scene scenes in
    let own : next + scene_count scene ≤ 65535 = omega (arith, le, more) in
    let others = codes_in_scenes (scene_entries (next + scene_count scene) scenes) in
    turn_joined (codes_in_scene (scene_entry next scene)) others next (scene_turn next scene own)
    (ap (λ n. are_in_turn (next + n) others) (scene_long next scene own) ∙ scenes_in_turn scenes (next + scene_count scene) (omega (arith, le, more)))

pub scenes_used : (scenes : List Scene) (next : ℕ) → next + length (origins_in_scenes scenes) ≤ 65535 → uses_in_scenes (scene_entries next scenes) ≡ map use_for (origins_in_scenes scenes)
unfolding scene_entries
scenes_used [] next le = refl
scenes_used (scene ∷ scenes) next le =
    let more = scenes_counted scene scenes in
    (λ i. scene_used next scene (omega (arith, le, more)) i ++ scenes_used scenes (next + scene_count scene) (omega (arith, le, more)) i)
    ∙ sym (map-append use_for (origins_of_scene scene) (origins_in_scenes scenes))

pub length_scenes : (scenes : List Scene) (next : ℕ) → length (scene_entries next scenes) ≡ length scenes
unfolding scene_entries
length_scenes [] next = refl
length_scenes (scene ∷ scenes) next = ap suc (length_scenes scenes (next + scene_count scene))

-- ---- their entries

mark_right : (recurs : Bool) → leb (mark_if 1 recurs) 1 ≡ true
mark_right true = refl
mark_right false = refl

scene_right : (z : Counts) (next : ℕ) (scene : Scene) → next + scene_count scene ≤ z.codes → z.codes ≤ 65535 → is_right_scene z (scene_entry next scene) ≡ true
unfolding is_right_scene
scene_right z next scene le few =
    rw (
      mark_right scene.recurs,
      condition_right next z.codes scene.begins (omega (arith, le)) few,
      condition_right (next + condition_count scene.begins) z.codes scene.ends (omega (arith, le)) few,
    ) refl

pub each_scene_right : (z : Counts) (scenes : List Scene) (next : ℕ) → next + length (origins_in_scenes scenes) ≤ z.codes → z.codes ≤ 65535 → list_all (is_right_scene z) (scene_entries next scenes) ≡ true
unfolding scene_entries
each_scene_right z [] next le few = refl
each_scene_right z (scene ∷ scenes) next le few =
    let more = scenes_counted scene scenes in
    and_from (is_right_scene z (scene_entry next scene)) (list_all (is_right_scene z) (scene_entries (next + scene_count scene) scenes))
    (scene_right z next scene (omega (arith, le, more)) few) (each_scene_right z scenes (next + scene_count scene) (omega (arith, le, more)) few)

mark_fits : (recurs : Bool) → ltb (mark_if 1 recurs) 256 ≡ true
mark_fits true = refl
mark_fits false = refl

scene_fits : (next : ℕ) (scene : Scene) → scene_layout.format.fits (scene_entry next scene) ≡ true
unfolding scene_layout
scene_fits next scene = rw (mark_fits scene.recurs, condition_fits next scene.begins, condition_fits (next + condition_count scene.begins) scene.ends) refl

pub scenes_fit : (scenes : List Scene) (next : ℕ) → list_all scene_layout.format.fits (scene_entries next scenes) ≡ true
unfolding scene_entries
scenes_fit [] next = refl
scenes_fit (scene ∷ scenes) next =
    and_from (scene_layout.format.fits (scene_entry next scene)) (list_all scene_layout.format.fits (scene_entries (next + scene_count scene) scenes))
    (scene_fits next scene) (scenes_fit scenes (next + scene_count scene))
