-- The bytes of codes that are put together one by one.
use Rattle.std.proofs.Common.{◌≡◌, ◌∙◌, ap, sym, subst, refl, ℕ, suc, ◌+◌, ◌≤◌, ◌<◌, true, List, [], ◌∷◌, ◌++◌, length, drop, take, append_assoc, append-nil, arith, length-append}
use Rattle.std.specs.List.{AllByRecursion, flat_map}
use Rattle.std.specs.Prelude.{map}
use Rattle.play_meaning.specs.Meant.{text_meant}
use Rattle.play_meaning.specs.Patterns.{rule_meant}
use Rattle.play_meaning.specs.ScenesMeant.{scene_meant}
use Rattle.play_meaning.specs.declared.instruction.Instruction.{Instruction}
use Rattle.play_meaning.specs.declared.operand.Counts.{Counts}
use Rattle.play_meaning.specs.declared.tree.rule.MeantRule.{MeantRule}
use Rattle.play_meaning.specs.declared.tree.said.Text.{Text as MeantText}
use Rattle.play_meaning.specs.declared.tree.scene.MeantScene.{MeantScene}
use Rattle.story_code.specs.Emits.{AreEmitted, AreSpelled}
use Rattle.story_code.specs.Emitting.{can_say_all}
use Rattle.story_code.specs.SoundlyEmitted.{AreSoundAnywhere, among}
use Rattle.code_table.specs.Coding.{AddAll, Adds, AreCoded, IsCoded}
use Rattle.code_table.specs.Emitted.{AllFit, CanBeSaid, codes_of_origins, origins_emitted, origins_from}
use Rattle.code_table.specs.Origins.{Describes, Fits, Origin, origins_meant, origins_of_rule, origins_of_scene, part_of, use_for}

pub spelled_long : (bytes : List (List ℕ)) (codes : List (List Instruction)) → AreSpelled bytes codes → length bytes ≡ length codes
spelled_long [] [] spelled = refl
spelled_long [] (code ∷ codes) spelled = absurd spelled
spelled_long (b ∷ bytes) [] spelled = absurd spelled
spelled_long (b ∷ bytes) (code ∷ codes) spelled = ap suc (spelled_long bytes codes spelled.1)

pub codes_long : (string : List ℕ → ℕ) (first : ℕ) (origins : List Origin) → length (map (λ e. e.code) (origins_from string first origins)) ≡ length origins
codes_long string first [] = refl
codes_long string first (origin ∷ origins) = ap suc (codes_long string (first + length (part_of string origin first 0).tests) origins)

module _ (z : Counts) (string : List ℕ → ℕ) where
  -- ---- what is told of origins that are coded

  pub coded_long : (first : ℕ) (origins : List Origin) (codes tests : List (List ℕ)) → AreCoded z string first origins codes tests → length codes ≡ length origins
  coded_long first [] codes tests coded = ap length coded.0
  coded_long first (origin ∷ origins) codes tests coded = ap length coded.1.1.1.1.1.0 ∙ ap suc (coded_long (first + length coded.1.0) origins coded.1.1.1.0 coded.1.1.1.1.0 coded.1.1.1.1.1.1.1)

  pub coded_tests : (first : ℕ) (origins : List Origin) (codes tests : List (List ℕ)) → AreCoded z string first origins codes tests → length tests ≡ length (flat_map (λ e. e.tests) (origins_from string first origins))
  coded_tests first [] codes tests coded = ap length coded.1
  coded_tests first (origin ∷ origins) codes tests coded =
      let own = coded.1.0 in
      let later = coded.1.1.1.1.0 in
      let e = part_of string origin first 0 in
      let as_many : length own ≡ length e.tests = spelled_long own e.tests coded.1.1.0.emitted.spelled.1 in
      let number : first + length own ≡ first + length e.tests = ap (λ k. first + k) as_many in
      let rest = coded_tests (first + length own) origins coded.1.1.1.0 later coded.1.1.1.1.1.1.1 ∙ ap (λ n. length (flat_map (λ e. e.tests) (origins_from string n origins))) number in
      omega (arith, ap length coded.1.1.1.1.1.1.0, length-append own later, as_many, rest, length-append e.tests (flat_map (λ e. e.tests) (origins_from string (first + length e.tests) origins)))

  pub all_fit : (first : ℕ) (origins : List Origin) (codes tests : List (List ℕ)) → AreCoded z string first origins codes tests → AllFit z string origins
  all_fit first [] codes tests coded = tt
  all_fit first (origin ∷ origins) codes tests coded = (coded.1.1.0.fits, all_fit (first + length coded.1.0) origins coded.1.1.1.0 coded.1.1.1.1.0 coded.1.1.1.1.1.1.1)

  -- bytes said what was put together
  pub all_said : (first : ℕ) (origins : List Origin) (codes tests : List (List ℕ)) → AreCoded z string first origins codes tests → AllByRecursion (λ e. can_say_all e ≡ true) (origins_from string first origins)
  all_said first [] codes tests coded = tt
  all_said first (origin ∷ origins) codes tests coded =
      let own = coded.1.0 in
      let is = coded.1.1.0 in
      let e = part_of string origin first 0 in
      let number : first + length own ≡ first + length e.tests = ap (λ k. first + k) (spelled_long own e.tests is.emitted.spelled.1) in (
        is.emitted.said,
        subst (λ n. AllByRecursion (λ e. can_say_all e ≡ true) (origins_from string n origins)) number (all_said (first + length own) origins coded.1.1.1.0 coded.1.1.1.1.0 coded.1.1.1.1.1.1.1),
      )

  whole_long : (origins : List Origin) (codes tests : List (List ℕ)) → AreCoded z string (length origins) origins codes tests → length (codes_of_origins string origins) ≡ length origins + length tests
  whole_long origins codes tests coded =
      let es = origins_emitted string origins in
      omega (arith, coded_tests (length origins) origins codes tests coded, length-append (map (λ e. e.code) es) (flat_map (λ e. e.tests) es), codes_long string (length origins) origins)

  pub can_be_said : (origins : List Origin) (codes tests : List (List ℕ)) → AreCoded z string (length origins) origins codes tests → length origins + length tests < 65536 → CanBeSaid string origins
  can_be_said origins codes tests coded few = record { each = all_said (length origins) origins codes tests coded; few = omega (arith, few, whole_long origins codes tests coded) }

  -- the numbers have run out
  pub too_many_tests : (origins : List Origin) (codes tests : List (List ℕ)) → AreCoded z string (length origins) origins codes tests → 65536 ≤ length origins + length tests → 65535 < length (codes_of_origins string origins)
  too_many_tests origins codes tests coded many = omega (arith, many, whole_long origins codes tests coded)

  -- they are too many without any tests
  pub too_many_heads : (origins : List Origin) → 65536 ≤ length origins → 65535 < length (codes_of_origins string origins)
  too_many_heads origins many =
      let es = origins_emitted string origins in
      omega (arith, many, length-append (map (λ e. e.code) es) (flat_map (λ e. e.tests) es), codes_long string (length origins) origins)

  -- ---- one more

  one_more : (first : ℕ) (origins : List Origin) (codes tests : List (List ℕ)) (origin : Origin) (code : List ℕ) (own : List (List ℕ)) → AreCoded z string first origins codes tests → IsCoded z string (first + length tests) origin code own
      → AreCoded z string first (origins ++ origin ∷ []) (codes ++ code ∷ []) (tests ++ own)
  one_more first [] codes tests origin code own coded is =
      let none : first + length tests ≡ first = omega (arith, ap length coded.1) in (
        code,
        (own, (subst (λ n. IsCoded z string n origin code own) none is, ([], ([], (ap (λ l. l ++ code ∷ []) coded.0, (ap (λ l. l ++ own) coded.1 ∙ sym (append-nil own), (refl, refl))))))),
      )
  one_more first (one ∷ origins) codes tests origin code own coded is =
      let front = coded.1.0 in
      let others = coded.1.1.1.0 in
      let later = coded.1.1.1.1.0 in
      let number : first + length tests ≡ first + length front + length later = omega (arith, ap length coded.1.1.1.1.1.1.0, length-append front later) in
      let rest = one_more (first + length front) origins others later origin code own coded.1.1.1.1.1.1.1 (subst (λ n. IsCoded z string n origin code own) number is) in (
        coded.0,
        (front, (coded.1.1.0, (others ++ code ∷ [], (later ++ own, (ap (λ l. l ++ code ∷ []) coded.1.1.1.1.1.0, (ap (λ l. l ++ own) coded.1.1.1.1.1.1.0 ∙ append_assoc front later own, rest)))))),
      )

  module _ (heads : ℕ) where
    pub adds_one : (origin : Origin) (codes tests more_codes more_tests : List (List ℕ)) → Adds z string heads origin codes tests more_codes more_tests → AddAll z string heads (origin ∷ []) codes tests more_codes more_tests
    adds_one origin codes tests more_codes more_tests adds before coded =
        subst (λ l. AreCoded z string heads (before ++ origin ∷ []) l more_tests) (sym adds.1.1.0)
        (subst (λ l. AreCoded z string heads (before ++ origin ∷ []) (codes ++ adds.0 ∷ []) l) (sym adds.1.1.1.0) (one_more heads before codes tests origin adds.0 adds.1.0 coded adds.1.1.1.1))

    pub adds_both : (a b : List Origin) (codes tests more_codes more_tests last_codes last_tests : List (List ℕ)) → AddAll z string heads a codes tests more_codes more_tests
        → AddAll z string heads b more_codes more_tests last_codes last_tests → AddAll z string heads (a ++ b) codes tests last_codes last_tests
    adds_both a b codes tests more_codes more_tests last_codes last_tests first second before coded =
        subst (λ l. AreCoded z string heads l last_codes last_tests) (append_assoc before a b) (second (before ++ a) (first before coded))

    -- what was emitted is put behind
    pub adds_by : (origin : Origin) (first : ℕ) (codes tests more_codes more_tests emitted : List (List ℕ)) → first ≡ heads + length tests → ((own count : ℕ) → Fits (among z own count) string origin)
        → AreEmitted (part_of string origin first 0) emitted → AreSoundAnywhere z (use_for origin) first (part_of string origin first 0) emitted
        → more_codes ≡ codes ++ take 1 emitted → more_tests ≡ tests ++ drop 1 emitted → Adds z string heads origin codes tests more_codes more_tests
    adds_by origin first codes tests more_codes more_tests [] number fits emitted sound codes_are tests_are = absurd emitted.spelled
    adds_by origin first codes tests more_codes more_tests (code ∷ own) number fits emitted sound codes_are tests_are =
        (code, (own, (codes_are, (tests_are, subst (λ n. IsCoded z string n origin code own) number (record { fits = fits; emitted = emitted; sound = sound })))))

    -- rules behind texts, and scenes behind these
    pub all_behind : (texts : List MeantText) (rules : List MeantRule) (scenes : List MeantScene) (codes tests more_codes more_tests last_codes last_tests : List (List ℕ))
        → AreCoded z string heads (map Describes (map text_meant texts)) codes tests → AddAll z string heads (flat_map origins_of_rule (map rule_meant rules)) codes tests more_codes more_tests
        → AddAll z string heads (flat_map origins_of_scene (map scene_meant scenes)) more_codes more_tests last_codes last_tests → AreCoded z string heads (origins_meant texts rules scenes) last_codes last_tests
    all_behind texts rules scenes codes tests more_codes more_tests last_codes last_tests coded ruled told =
        adds_both (flat_map origins_of_rule (map rule_meant rules)) (flat_map origins_of_scene (map scene_meant scenes)) codes tests more_codes more_tests last_codes last_tests ruled told (map Describes (map text_meant texts)) coded
