-- The bytes of origins' codes, and behind them those of the tests that these name, are a table.
use Rattle.std.proofs.Common.{◌≡◌, ◌∙◌, ap, sym, subst, refl, ℕ, suc, ◌+◌, ◌≤◌, List, [], ◌∷◌, ◌++◌, length, append-nil, Option, Some, None, arith, length-append}
use Rattle.std.specs.List.{AllByRecursion, flat_map}
use Rattle.std.specs.Prelude.{map}
use Rattle.std.proofs.lemmas.List.{length-map, map-append}
use Rattle.play_meaning.specs.TranslatedScripts.{in_list}
use Rattle.play_meaning.specs.declared.instruction.Instruction.{Instruction}
use Rattle.play_meaning.specs.declared.operand.Counts.{Counts}
use Rattle.play_meaning.specs.declared.operand.Use.{Use}
use Rattle.story_code.specs.Emits.{AreSpelled}
use Rattle.story_code.specs.Fronts.{code_in}
use Rattle.story_code.specs.Runs.{code_or_none, code_told, test_named}
use Rattle.story_code.specs.Soundness.{Judged}
use Rattle.story_code.specs.SoundlyEmitted.{AreNumbered, IsSoundTestCode, NameInTurn, NamesNext, NamesNone, among, sizes_as}
use Rattle.story_code.proofs.Exact.{one_code, spells_in}
use Rattle.code_table.specs.Coding.{AreCoded}
use Rattle.code_table.specs.Emitted.{codes_of_origins, origins_emitted, origins_from}
use Rattle.code_table.specs.Origins.{Origin, part_of, use_for}
use Rattle.code_table.specs.Tables.{IsTableOf, sizes_from, tests_in, tests_of, use_of}
use Rattle.code_table.proofs.Coded.{coded_long, spelled_long}
use Rattle.code_table.proofs.Lists.{all_append, flat_append}
use Rattle.code_table.proofs.Onward.{Sound, turn_append}
use Rattle.code_table.proofs.Turns.{AreInTurn, number_of}

-- ---- bytes judged for uses, the first by a number

abbrev pub judged_from : Counts → ℕ → List Use → List (List ℕ) → List Judged
judged_from z n [] codes = []
judged_from z n (role ∷ uses) [] = []
judged_from z n (role ∷ uses) (bytes ∷ codes) = record { sizes = sizes_as z role n; bytes = bytes } ∷ judged_from z (n + 1) uses codes

judged_bytes : (z : Counts) (n : ℕ) (uses : List Use) (codes : List (List ℕ)) → length uses ≡ length codes → map (λ j. j.bytes) (judged_from z n uses codes) ≡ codes
judged_bytes z n [] [] same = refl
judged_bytes z n [] (b ∷ codes) same = absurd (omega (arith, same))
judged_bytes z n (role ∷ uses) [] same = absurd (omega (arith, same))
judged_bytes z n (role ∷ uses) (b ∷ codes) same = ap (λ l. b ∷ l) (judged_bytes z (n + 1) uses codes (omega (arith, same)))

judged_sizes : (z : Counts) (n : ℕ) (uses : List Use) (codes : List (List ℕ)) → length uses ≡ length codes → map (λ j. j.sizes) (judged_from z n uses codes) ≡ sizes_from z n uses
judged_sizes z n [] codes same = refl
judged_sizes z n (role ∷ uses) [] same = absurd (omega (arith, same))
judged_sizes z n (role ∷ uses) (b ∷ codes) same = ap (λ l. sizes_as z role n ∷ l) (judged_sizes z (n + 1) uses codes (omega (arith, same)))

judged_append : (z : Counts) (n : ℕ) (uses others : List Use) (codes more : List (List ℕ)) → length uses ≡ length codes
    → judged_from z n (uses ++ others) (codes ++ more) ≡ judged_from z n uses codes ++ judged_from z (n + length uses) others more
judged_append z n [] others [] more same = let number : n ≡ n + 0 = omega arith in ap (λ k. judged_from z k others more) number
judged_append z n [] others (b ∷ codes) more same = absurd (omega (arith, same))
judged_append z n (role ∷ uses) others [] more same = absurd (omega (arith, same))
judged_append z n (role ∷ uses) others (b ∷ codes) more same =
    let number : n + 1 + length uses ≡ n + suc (length uses) = omega arith in
    ap (λ l. record { sizes = sizes_as z role n; bytes = b } ∷ l)
    (judged_append z (n + 1) uses others codes more (omega (arith, same)) ∙ ap (λ k. judged_from z (n + 1) uses codes ++ judged_from z k others more) number)

judged_codes : (z : Counts) (n : ℕ) (uses : List Use) (bytes : List (List ℕ)) (codes : List (List Instruction)) → length uses ≡ length bytes → AreSpelled bytes codes → map code_told (judged_from z n uses bytes) ≡ codes
judged_codes z n [] [] [] same spelled = refl
judged_codes z n [] [] (code ∷ codes) same spelled = absurd spelled
judged_codes z n [] (b ∷ bytes) codes same spelled = absurd (omega (arith, same))
judged_codes z n (role ∷ uses) [] codes same spelled = absurd (omega (arith, same))
judged_codes z n (role ∷ uses) (b ∷ bytes) [] same spelled = absurd spelled
judged_codes z n (role ∷ uses) (b ∷ bytes) (code ∷ codes) same spelled =
    ap (λ l. code_or_none (code_in b) ∷ l) (judged_codes z (n + 1) uses bytes codes (omega (arith, same)) spelled.1) ∙ ap (λ o. code_or_none o ∷ codes) (spells_in b code spelled.0)

pub spelled_append : (bytes more : List (List ℕ)) (codes others : List (List Instruction)) → AreSpelled bytes codes → AreSpelled more others → AreSpelled (bytes ++ more) (codes ++ others)
spelled_append [] more [] others first second = second
spelled_append [] more (code ∷ codes) others first second = absurd first
spelled_append (b ∷ bytes) more [] others first second = absurd first
spelled_append (b ∷ bytes) more (code ∷ codes) others first second = (first.0, spelled_append bytes more codes others first.1 second)

-- ---- the tests that a code names in turn

names_none : (code : List Instruction) → NamesNone code → tests_in code ≡ []
names_none [] none = refl
names_none (i ∷ is) none = ap (λ o. in_list o ++ tests_in is) none.0 ∙ names_none is none.1

module _ (z : Counts) where
  -- these tests stand in a table, in turn from this number on
  pub record StandInTurn (named : List (ℕ × ℕ)) (first : ℕ) (tests : List (List ℕ)) : Type 0 where
    pub turn : AreInTurn first named
    pub many : length named ≡ length tests
    pub sound : AllByRecursion Sound (judged_from z first (map use_of named) tests)

  abbrev Named : List Instruction → ℕ → List (List ℕ) → Type 0
  Named code first tests = NameInTurn (IsSoundTestCode z) code first tests

  stand_in_turn : (code : List Instruction) (first : ℕ) (tests : List (List ℕ)) → Named code first tests → StandInTurn (tests_in code) first tests
  stand_in_turn [] first tests names = record { turn = refl; many = ap length (sym names); sound = tt }
  stand_in_turn (i ∷ is) first tests names = by (test_named i) tests names (λ n more later. stand_in_turn is n more later)
    where
      by : (o : Option (ℕ × ℕ)) (more : List (List ℕ)) → NamesNext (IsSoundTestCode z) (λ n others. Named is n others) first o more
          → ((n : ℕ) (others : List (List ℕ)) → Named is n others → StandInTurn (tests_in is) n others) → StandInTurn (in_list o ++ tests_in is) first more
      by None more names later = later first more names
      by (Some t) [] names later = absurd names
      by (Some t) (test ∷ more) names later =
          let rest = later (first + 1) more names.1.1 in
          record { turn = ap (λ n. n ∷ map number_of (tests_in is)) names.0 ∙ ap (λ l. first ∷ l) rest.turn; many = ap suc rest.many; sound = (names.1.0.0, rest.sound) }

  -- they name none themselves
  tests_silent : (code : List Instruction) (first : ℕ) (tests : List (List ℕ)) (codes : List (List Instruction)) → Named code first tests → AreSpelled tests codes → tests_of codes ≡ []
  tests_silent [] first tests codes names spelled = none tests codes names spelled
    where
      none : (tests : List (List ℕ)) (codes : List (List Instruction)) → tests ≡ [] → AreSpelled tests codes → tests_of codes ≡ []
      none [] [] empty spelled = refl
      none [] (code ∷ codes) empty spelled = absurd spelled
      none (test ∷ tests) codes empty spelled = absurd cc
  tests_silent (i ∷ is) first tests codes names spelled = by (test_named i) tests codes names spelled (λ n more others later spelled. tests_silent is n more others later spelled)
    where
      by : (o : Option (ℕ × ℕ)) (more : List (List ℕ)) (codes : List (List Instruction)) → NamesNext (IsSoundTestCode z) (λ n others. Named is n others) first o more → AreSpelled more codes
          → ((n : ℕ) (more : List (List ℕ)) (codes : List (List Instruction)) → Named is n more → AreSpelled more codes → tests_of codes ≡ []) → tests_of codes ≡ []
      by None more codes names spelled later = later first more codes names spelled
      by (Some t) [] codes names spelled later = absurd names
      by (Some t) (test ∷ more) [] names spelled later = absurd spelled
      by (Some t) (test ∷ more) (code ∷ codes) names spelled later =
          let sound = names.1.0.0 in
          let same : sound.code ≡ code = one_code test sound.code code sound.spells spelled.0 in
          ap (λ c. tests_in c ++ tests_of codes) (sym same) ∙ ap (λ l. l ++ tests_of codes) (names_none sound.code names.1.0.1) ∙ later (first + 1) more codes names.1.1 spelled.1

  stand_append : (a b : List (ℕ × ℕ)) (first : ℕ) (tests more : List (List ℕ)) → StandInTurn a first tests → StandInTurn b (first + length tests) more → StandInTurn (a ++ b) first (tests ++ more)
  stand_append a b first tests more one other =
      let long : length (map use_of a) ≡ length tests = length-map a use_of ∙ one.many in
      let number : first + length tests ≡ first + length a = ap (λ n. first + n) (sym one.many) in record {
        turn = turn_append first a b one.turn (subst (λ n. AreInTurn n b) number other.turn);
        many = omega (arith, length-append a b, length-append tests more, one.many, other.many);
        sound =
            subst (λ l. AllByRecursion Sound l) (sym (
            ap (λ l. judged_from z first l (tests ++ more)) (map-append use_of a b) ∙ judged_append z first (map use_of a) (map use_of b) tests more long
            ∙ ap (λ n. judged_from z first (map use_of a) tests ++ judged_from z (first + n) (map use_of b) more) long))
            (all_append Sound (judged_from z first (map use_of a) tests) (judged_from z (first + length tests) (map use_of b) more) one.sound other.sound);
      }

-- ---- the codes of origins

module _ (z : Counts) (string : List ℕ → ℕ) (total : ℕ) where
  abbrev Whole : Counts
  Whole = record z { codes = total }

  -- the codes of origins from this number on, and the tests from that one
  pub record AreTabled (n first : ℕ) (origins : List Origin) (codes tests : List (List ℕ)) : Type 0 where
    pub spelled : AreSpelled codes (map (λ e. e.code) (origins_from string first origins))
    pub named : AreSpelled tests (flat_map (λ e. e.tests) (origins_from string first origins))
    pub stand : StandInTurn Whole (tests_of (map (λ e. e.code) (origins_from string first origins))) first tests
    pub silent : tests_of (flat_map (λ e. e.tests) (origins_from string first origins)) ≡ []
    pub sound : AllByRecursion Sound (judged_from Whole n (map use_for origins) codes)

  tabled : (n first : ℕ) (origins : List Origin) (codes tests : List (List ℕ)) → AreCoded z string first origins codes tests → n + length origins ≤ first → first + length tests ≤ total → AreTabled n first origins codes tests
  tabled n first [] codes tests coded before there =
      subst (λ l. AreTabled n first [] l tests) (sym coded.0) (subst (λ l. AreTabled n first [] [] l) (sym coded.1) (record {
        spelled = tt;
        named = tt;
        stand = record { turn = refl; many = refl; sound = tt };
        silent = refl;
        sound = tt;
      }))
  tabled n first (origin ∷ origins) codes tests coded before there =
      let b = coded.0 in
      let own = coded.1.0 in
      let is = coded.1.1.0 in
      let others = coded.1.1.1.0 in
      let later = coded.1.1.1.1.0 in
      let first_is = coded.1.1.1.1.1.0 in
      let tests_are = coded.1.1.1.1.1.1.0 in
      let e = part_of string origin first 0 in
      let as_many : length own ≡ length e.tests = spelled_long own e.tests is.emitted.spelled.1 in
      let all_tests : length tests ≡ length own + length later = ap length tests_are ∙ length-append own later in
      let numbered : AreNumbered (among z n total) first e.tests = record { behind = omega (arith, before); there = omega (arith, there, all_tests, as_many) } in
      let sound = is.sound n total numbered in
      let same : sound.0.code ≡ e.code = one_code b sound.0.code e.code sound.0.spells is.emitted.spelled.0 in
      let names : NameInTurn (IsSoundTestCode Whole) e.code first own = subst (λ code. NameInTurn (IsSoundTestCode Whole) code first own) same sound.1 in
      let rest : AreTabled (n + 1) (first + length own) origins others later = tabled (n + 1) (first + length own) origins others later coded.1.1.1.1.1.1.1 (omega (arith, before)) (omega (arith, there, all_tests)) in
      let number : first + length own ≡ first + length e.tests = ap (λ k. first + k) as_many in
      let behind : AreTabled (n + 1) (first + length e.tests) origins others later = subst (λ k. AreTabled (n + 1) k origins others later) number rest in
      let es = origins_from string (first + length e.tests) origins in
      subst (λ l. AreTabled n first (origin ∷ origins) l tests) (sym first_is) (subst (λ l. AreTabled n first (origin ∷ origins) (b ∷ others) l) (sym tests_are) (record {
        spelled = (is.emitted.spelled.0, behind.spelled);
        named = spelled_append own later e.tests (flat_map (λ e. e.tests) es) is.emitted.spelled.1 behind.named;
        stand = stand_append Whole (tests_in e.code) (tests_of (map (λ e. e.code) es)) first own later (stand_in_turn Whole e.code first own names)
            (subst (λ k. StandInTurn Whole (tests_of (map (λ e. e.code) es)) k later) (sym number) behind.stand);
        silent = flat_append tests_in e.tests (flat_map (λ e. e.tests) es) ∙ ap (λ l. l ++ tests_of (flat_map (λ e. e.tests) es)) (tests_silent Whole e.code first own e.tests names is.emitted.spelled.1) ∙ behind.silent;
        sound = (sound.0, behind.sound);
      }))

  module _ (origins : List Origin) (codes tests all : List (List ℕ)) (coded : AreCoded z string (length origins) origins codes tests) (all_is : all ≡ codes ++ tests) (total_is : total ≡ length all) where
    together : AreTabled 0 (length origins) origins codes tests
    together = tabled 0 (length origins) origins codes tests coded (omega arith) (omega (arith, total_is, ap length all_is, length-append codes tests, coded_long z string (length origins) origins codes tests coded))

    pub all_spelled : AreSpelled all (codes_of_origins string origins)
    all_spelled =
        subst (λ l. AreSpelled l (codes_of_origins string origins)) (sym all_is)
        (spelled_append codes tests (map (λ e. e.code) (origins_emitted string origins)) (flat_map (λ e. e.tests) (origins_emitted string origins)) together.spelled together.named)

    heads : List Use
    heads = map use_for origins

    named : List (ℕ × ℕ)
    named = tests_of (map (λ e. e.code) (origins_emitted string origins))

    tests_all : tests_of (codes_of_origins string origins) ≡ named
    unfolding named
    tests_all = flat_append tests_in (map (λ e. e.code) (origins_emitted string origins)) (flat_map (λ e. e.tests) (origins_emitted string origins)) ∙ ap (λ l. named ++ l) together.silent ∙ append-nil named

    judged : List Judged
    judged = judged_from Whole 0 (heads ++ map use_of named) all

    heads_long : length heads ≡ length codes
    unfolding heads
    heads_long = length-map origins use_for ∙ sym (coded_long z string (length origins) origins codes tests coded)

    uses_long : length (heads ++ map use_of named) ≡ length all
    unfolding named
    uses_long = omega (arith, length-append heads (map use_of named), heads_long, length-map named use_of, together.stand.many, ap length all_is, length-append codes tests)

    told : map code_told judged ≡ codes_of_origins string origins
    unfolding judged
    told = judged_codes Whole 0 (heads ++ map use_of named) all (codes_of_origins string origins) uses_long all_spelled

    pub tabled_whole : (judged : List Judged) × IsTableOf Whole (map use_for origins) all judged
    unfolding judged heads named
    tabled_whole = (
      judged,
      record {
        bytes = judged_bytes Whole 0 (heads ++ map use_of named) all uses_long;
        all = total_is;
        sizes = judged_sizes Whole 0 (heads ++ map use_of named) all uses_long ∙ ap (λ l. sizes_from Whole 0 (heads ++ map use_of l)) (sym tests_all ∙ ap tests_of (sym told));
        in_turn = subst (λ l. AreInTurn (length heads) l) (sym tests_all ∙ ap tests_of (sym told)) (subst (λ n. AreInTurn n named) (sym (length-map origins use_for)) together.stand.turn);
        sound =
            subst (λ l. AllByRecursion Sound l)
            (sym (ap (judged_from Whole 0 (heads ++ map use_of named)) all_is ∙ judged_append Whole 0 heads (map use_of named) codes tests heads_long ∙ ap (λ n. judged_from Whole 0 heads codes ++ judged_from Whole n (map use_of named) tests) number))
            (all_append Sound (judged_from Whole 0 heads codes) (judged_from Whole (length heads) (map use_of named) tests) together.sound
            (subst (λ n. AllByRecursion Sound (judged_from Whole n (map use_of named) tests)) (sym (length-map origins use_for)) together.stand.sound));
      },
    )
      where
        number : 0 + length (map use_for origins) ≡ length (map use_for origins)
        number = omega arith

-- where as many codes are judged as there are
pub table_of_origins : (z : Counts) (string : List ℕ → ℕ) (origins : List Origin) (codes tests all : List (List ℕ)) → AreCoded z string (length origins) origins codes tests → all ≡ codes ++ tests
    → (judged : List Judged) × IsTableOf (record z { codes = length all }) (map use_for origins) all judged
table_of_origins z string origins codes tests all coded all_is = tabled_whole z string (length all) origins codes tests all coded all_is refl
