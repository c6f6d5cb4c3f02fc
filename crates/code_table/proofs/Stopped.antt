-- Codes that are put together, and why they end early.
use Rattle.std.proofs.Common.{◌≡◌, ◌∙◌, ap, sym, subst, refl, ℕ, suc, ◌+◌, ◌-◌, ◌<◌, ◌≤◌, List, [], ◌∷◌, ◌++◌, length, drop, take, get_or, append_assoc, append-nil, Some, None, arith, length-append, true, false}
use Rattle.std.specs.List.{AllByRecursion, flat_map}
use Rattle.std.specs.Option.{option_map}
use Rattle.std.specs.Prelude.{map}
use Rattle.std.proofs.lemmas.List.{length-map, take_all}
use Rattle.play_meaning.specs.Meant.{body_meant, condition_meant, text_meant}
use Rattle.play_meaning.specs.Patterns.{rule_meant}
use Rattle.play_meaning.specs.TranslatedScripts.{in_list}
use Rattle.play_meaning.specs.Trees.{Text}
use Rattle.play_meaning.specs.declared.operand.Counts.{Counts}
use Rattle.play_meaning.specs.declared.tree.condition.Condition.{Condition}
use Rattle.play_meaning.specs.declared.tree.phrase.Phrase.{Phrase}
use Rattle.play_meaning.specs.declared.tree.rule.MeantRule.{MeantRule}
use Rattle.play_meaning.specs.declared.tree.said.Text.{Text as MeantText}
use Rattle.story_code.specs.Emitting.{can_say_all}
use Rattle.story_code.specs.declared.emit.EmitFault.{EmitFault}
use Rattle.story_code.specs.declared.emit.EmitFault.TheVariants as emit
use Rattle.code_table.specs.Coding.{AddAll, Adds, AreCoded, HasNoCode, HaveNone, NoneWith, StopIn, not_emitted}
use Rattle.code_table.specs.Emitted.{AllFit, HaveNoTable, codes_of_origins, number_from, origins_emitted, origins_from}
use Rattle.code_table.specs.Origins.{Asks, Describes, Does, Fits, Origin, origins_of_rule, part_of}
use Rattle.code_table.specs.declared.fault.TableFault.{TableFault}
use Rattle.code_table.specs.declared.fault.TableFault.TheVariants.{TooLong, TooMany, Memory}
use Rattle.code_table.proofs.Coded.{adds_both, adds_one, coded_tests, codes_long}
use Rattle.code_table.proofs.Lists.{flat_append}
use Rattle.code_table.proofs.NoTables.{fits_there, said_there}

-- what a loop takes from the front
pub front_of : {X : Type 0} (rest : List X) (x : X) → 1 ≤ length rest → x ≡ get_or rest 0 x → rest ≡ x ∷ take (length rest - 1) (drop 1 rest)
front_of [] x some at = absurd (omega (arith, some))
front_of (y ∷ rest) x some at =
    let whole : take (suc (length rest) - 1) rest ≡ rest = take_all _ rest (omega arith) in
    ap (λ a. a ∷ rest) (sym at) ∙ ap (λ l. x ∷ l) (sym whole)

pub nothing_left : {X : Type 0} (rest : List X) → length rest < 1 → rest ≡ []
nothing_left [] none = refl
nothing_left (x ∷ rest) none = absurd (omega (arith, none))

-- ---- one thing after the other

module _ {A : Type 0} (f : A → List Origin) (z : Counts) (string : List ℕ → ℕ) (heads : ℕ) (all : List A) (codes tests : List (List ℕ)) where
  -- behind these codes and tests so many are put together, and these things are left
  pub record IsOnWay (more_codes more_tests : List (List ℕ)) (rest : List A) : Type 0 where
    pub before : List A
    pub parts : all ≡ before ++ rest
    pub coded : AddAll z string heads (flat_map f before) codes tests more_codes more_tests

  -- one more
  pub grown : (codes_now tests_now more_codes more_tests : List (List ℕ)) (a : A) (rest : List A) → AddAll z string heads (f a) codes_now tests_now more_codes more_tests → IsOnWay codes_now tests_now (a ∷ rest) → IsOnWay more_codes more_tests rest
  grown codes_now tests_now more_codes more_tests a rest adds way = record {
    before = way.before ++ a ∷ [];
    parts = way.parts ∙ sym (append_assoc way.before (a ∷ []) rest);
    coded = λ others is.
        let own = flat_map f way.before in
        let one = flat_append f way.before (a ∷ []) ∙ ap (λ l. own ++ l) (append-nil (f a)) in
        subst (λ l. AreCoded z string heads l more_codes more_tests) (append_assoc others own (f a) ∙ ap (λ l. others ++ l) (sym one)) (adds (others ++ own) (way.coded others is));
  }

  pub ended : (more_codes more_tests : List (List ℕ)) → IsOnWay more_codes more_tests [] → AddAll z string heads (flat_map f all) codes tests more_codes more_tests
  ended more_codes more_tests way = subst (λ l. AddAll z string heads (flat_map f l) codes tests more_codes more_tests) (sym (way.parts ∙ append-nil way.before)) way.coded

  -- as a loop keeps it, over things that mean them
  module _ {X : Type 0} (m : X → A) where
    pub grows_on : (codes_now tests_now more_codes more_tests : List (List ℕ)) (rest : List X) (x : X) → 1 ≤ length rest → x ≡ get_or rest 0 x → AddAll z string heads (f (m x)) codes_now tests_now more_codes more_tests
        → IsOnWay codes_now tests_now (map m rest) → IsOnWay more_codes more_tests (map m (take (length rest - 1) (drop 1 rest)))
    grows_on codes_now tests_now more_codes more_tests rest x some at adds way =
        grown codes_now tests_now more_codes more_tests (m x) (map m (take (length rest - 1) (drop 1 rest))) adds (subst (λ l. IsOnWay codes_now tests_now (map m l)) (front_of rest x some at) way)

    -- so many are left
    pub fewer : (things : List X) → all ≡ map m things → (codes_now tests_now : List (List ℕ)) (rest : List X) → IsOnWay codes_now tests_now (map m rest) → length rest ≤ length things
    fewer things meant codes_now tests_now rest way = omega (arith, length-map things m, length-map rest m, sym (ap length meant) ∙ ap length way.parts, length-append way.before (map m rest))

    pub ends : (more_codes more_tests : List (List ℕ)) (rest : List X) → length rest < 1 → IsOnWay more_codes more_tests (map m rest) → AddAll z string heads (flat_map f all) codes tests more_codes more_tests
    ends more_codes more_tests rest none way = ended more_codes more_tests (subst (λ l. IsOnWay more_codes more_tests (map m l)) (nothing_left rest none) way)

-- ---- what isn't added

module _ (z : Counts) (string : List ℕ → ℕ) where
  tests_grow : (first : ℕ) (origins others : List Origin)
      → length (flat_map (λ e. e.tests) (origins_from string first origins)) ≤ length (flat_map (λ e. e.tests) (origins_from string first (origins ++ others)))
  tests_grow first [] others = omega arith
  tests_grow first (origin ∷ origins) others =
      let e = part_of string origin first 0 in
      let rest = tests_grow (first + length e.tests) origins others in
      omega (arith, rest, length-append e.tests (flat_map (λ e. e.tests) (origins_from string (first + length e.tests) origins)), length-append e.tests (flat_map (λ e. e.tests) (origins_from string (first + length e.tests) (origins ++ others))))

  -- the numbers have run out
  too_many : (all before behind : List Origin) → all ≡ before ++ behind → 65536 ≤ number_from string (length all) before → 65535 < length (codes_of_origins string all)
  too_many all before behind parts many =
      let es = origins_emitted string all in
      let fewer : length (flat_map (λ e. e.tests) (origins_from string (length all) before)) ≤ length (flat_map (λ e. e.tests) es) =
      subst (λ l. length (flat_map (λ e. e.tests) (origins_from string (length all) before)) ≤ length (flat_map (λ e. e.tests) (origins_from string (length all) l))) (sym parts) (tests_grow (length all) before behind) in
      omega (arith, many, fewer, length-append (map (λ e. e.code) es) (flat_map (λ e. e.tests) es), codes_long string (length all) all)

  -- what isn't emitted isn't added
  pub no_code : (heads first : ℕ) (origin : Origin) (tests : List (List ℕ)) (fault : EmitFault) (told : TableFault) → first ≡ heads + length tests → told ≡ not_emitted fault
      → (fault ≡ emit.TooLong → Fits z string origin → can_say_all (part_of string origin first 0) ≡ false) → HasNoCode z string (heads + length tests) origin told
  no_code heads first origin tests fault told number is long = subst (HasNoCode z string (heads + length tests) origin) (sym is) (subst (λ n. HasNoCode z string n origin (not_emitted fault)) number (by fault long))
    where
      by : (fault : EmitFault) → (fault ≡ emit.TooLong → Fits z string origin → can_say_all (part_of string origin first 0) ≡ false) → HasNoCode z string first origin (not_emitted fault)
      by emit.TooLong long = λ fits. long refl (fits z.own z.codes)
      by emit.Memory long = tt

  -- ---- one of several

  -- what begins with more has none either
  pub none_further : (heads : ℕ) (front more : List Origin) (fault : TableFault) → NoneWith z string heads front fault → NoneWith z string heads (front ++ more) fault
  none_further heads front more fault none behind count =
      let same = append_assoc front more behind in
      subst (λ l. HaveNoTable z string l fault) (sym same) (none (more ++ behind) (count ∙ ap length same))

  stops_at : (heads : ℕ) (before : List Origin) (origin : Origin) (codes tests : List (List ℕ)) (fault : TableFault) → AreCoded z string heads before codes tests
      → HasNoCode z string (heads + length tests) origin fault → NoneWith z string heads (before ++ origin ∷ []) fault
  stops_at heads before origin codes tests fault coded none behind count = by fault none
    where
      all : List Origin
      all = (before ++ origin ∷ []) ++ behind

      parts : all ≡ before ++ origin ∷ behind
      parts = append_assoc before (origin ∷ []) behind

      first : heads + length tests ≡ number_from string (length all) before
      first = ap (λ k. heads + k) (coded_tests z string heads before codes tests coded) ∙ ap (λ n. number_from string n before) count

      by : (fault : TableFault) → HasNoCode z string (heads + length tests) origin fault → HaveNoTable z string all fault
      by TooLong none = λ fits said.
          let fit = fits_there z string before behind origin (subst (AllFit z string) parts fits) in
          let yes = said_there string (length all) before behind origin (subst (λ l. AllByRecursion (λ e. can_say_all e ≡ true) (origins_from string (length all) l)) parts said) in
          let never : true ≡ false = sym yes ∙ ap (λ n. can_say_all (part_of string origin n 0)) (sym first) ∙ none fit.0 in
          absurd cc
      by TooMany none = too_many all before (origin ∷ behind) parts (subst (λ n. 65536 ≤ n) first none)
      by Memory none = tt

  -- the first of them
  pub stops_first : (heads : ℕ) (back : List Origin) (origin : Origin) (codes tests : List (List ℕ)) (fault : TableFault) → HasNoCode z string (heads + length tests) origin fault
      → StopIn z string heads (origin ∷ back) codes tests fault
  stops_first heads back origin codes tests fault none before coded =
      subst (λ l. NoneWith z string heads l fault) (append_assoc before (origin ∷ []) back) (none_further heads (before ++ origin ∷ []) back fault (stops_at heads before origin codes tests fault coded none))

  -- in front of others
  pub stops_in_front : (heads : ℕ) (origins back : List Origin) (codes tests : List (List ℕ)) (fault : TableFault) → StopIn z string heads origins codes tests fault → StopIn z string heads (origins ++ back) codes tests fault
  stops_in_front heads origins back codes tests fault stop before coded =
      subst (λ l. NoneWith z string heads l fault) (append_assoc before origins back) (none_further heads (before ++ origins) back fault (stop before coded))

  -- behind others that are put together
  pub stops_behind : (heads : ℕ) (front origins : List Origin) (codes tests codes_now tests_now : List (List ℕ)) (fault : TableFault) → AddAll z string heads front codes tests codes_now tests_now
      → StopIn z string heads origins codes_now tests_now fault → StopIn z string heads (front ++ origins) codes tests fault
  stops_behind heads front origins codes tests codes_now tests_now fault adds stop before coded =
      subst (λ l. NoneWith z string heads l fault) (append_assoc before front origins) (stop (before ++ front) (adds before coded))

  -- nothing stands behind
  pub stops_all : (heads : ℕ) (origins : List Origin) (fault : TableFault) → NoneWith z string heads origins fault → HaveNone z string heads origins fault
  stops_all heads origins fault none count =
      let same = append-nil origins in
      subst (λ l. HaveNoTable z string l fault) same (none [] (count ∙ ap length (sym same)))

-- as a loop comes to it
module _ {A : Type 0} (f : A → List Origin) (z : Counts) (string : List ℕ → ℕ) (heads : ℕ) (all : List A) (codes tests : List (List ℕ)) {X : Type 0} (m : X → A) where
  pub loop_stops : (codes_now tests_now : List (List ℕ)) (rest : List X) (x : X) (fault : TableFault) → 1 ≤ length rest → x ≡ get_or rest 0 x → StopIn z string heads (f (m x)) codes_now tests_now fault
      → IsOnWay f z string heads all codes tests codes_now tests_now (map m rest) → StopIn z string heads (flat_map f all) codes tests fault
  loop_stops codes_now tests_now rest x fault some at stop way =
      let later = map m (take (length rest - 1) (drop 1 rest)) in
      let parts : all ≡ way.before ++ m x ∷ later = way.parts ∙ ap (λ l. way.before ++ map m l) (front_of rest x some at) in
      let flat : flat_map f all ≡ flat_map f way.before ++ (f (m x) ++ flat_map f later) = ap (flat_map f) parts ∙ flat_append f way.before (m x ∷ later) in
      subst (λ l. StopIn z string heads l codes tests fault) (sym flat)
      (stops_behind z string heads (flat_map f way.before) (f (m x) ++ flat_map f later) codes tests codes_now tests_now fault way.coded
      (stops_in_front z string heads (f (m x)) (flat_map f later) codes_now tests_now fault stop))

-- ---- a rule's condition and body

module _ (z : Counts) (string : List ℕ → ℕ) (heads : ℕ) (rule : MeantRule) (phrases : List Phrase) (own : phrases ≡ rule.body.items) (codes tests : List (List ℕ)) where
  rule_with : (condition : Condition) → rule.head.condition ≡ Some condition → origins_of_rule (rule_meant rule) ≡ Asks (condition_meant condition) ∷ Does (body_meant phrases) ∷ []
  rule_with condition is =
      ap (λ o. map Asks (in_list (option_map condition_meant o)) ++ Does (body_meant rule.body.items) ∷ []) is ∙ ap (λ l. Asks (condition_meant condition) ∷ Does (body_meant l) ∷ []) (sym own)

  rule_without : rule.head.condition ≡ None → origins_of_rule (rule_meant rule) ≡ Does (body_meant phrases) ∷ []
  rule_without is = ap (λ o. map Asks (in_list (option_map condition_meant o)) ++ Does (body_meant rule.body.items) ∷ []) is ∙ ap (λ l. Does (body_meant l) ∷ []) (sym own)

  pub both_added : (condition : Condition) (codes_now tests_now more_codes more_tests : List (List ℕ)) → rule.head.condition ≡ Some condition
      → Adds z string heads (Asks (condition_meant condition)) codes tests codes_now tests_now → Adds z string heads (Does (body_meant phrases)) codes_now tests_now more_codes more_tests
      → AddAll z string heads (origins_of_rule (rule_meant rule)) codes tests more_codes more_tests
  both_added condition codes_now tests_now more_codes more_tests is asks does =
      subst (λ l. AddAll z string heads l codes tests more_codes more_tests) (sym (rule_with condition is))
      (adds_both z string heads (Asks (condition_meant condition) ∷ []) (Does (body_meant phrases) ∷ []) codes tests codes_now tests_now more_codes more_tests
      (adds_one z string heads (Asks (condition_meant condition)) codes tests codes_now tests_now asks) (adds_one z string heads (Does (body_meant phrases)) codes_now tests_now more_codes more_tests does))

  pub body_added : (more_codes more_tests : List (List ℕ)) → rule.head.condition ≡ None → Adds z string heads (Does (body_meant phrases)) codes tests more_codes more_tests
      → AddAll z string heads (origins_of_rule (rule_meant rule)) codes tests more_codes more_tests
  body_added more_codes more_tests is does =
      subst (λ l. AddAll z string heads l codes tests more_codes more_tests) (sym (rule_without is)) (adds_one z string heads (Does (body_meant phrases)) codes tests more_codes more_tests does)

  pub condition_stops : (condition : Condition) (fault : TableFault) → rule.head.condition ≡ Some condition → HasNoCode z string (heads + length tests) (Asks (condition_meant condition)) fault
      → StopIn z string heads (origins_of_rule (rule_meant rule)) codes tests fault
  condition_stops condition fault is none =
      subst (λ l. StopIn z string heads l codes tests fault) (sym (rule_with condition is)) (stops_first z string heads (Does (body_meant phrases) ∷ []) (Asks (condition_meant condition)) codes tests fault none)

  pub second_stops : (condition : Condition) (codes_now tests_now : List (List ℕ)) (fault : TableFault) → rule.head.condition ≡ Some condition
      → Adds z string heads (Asks (condition_meant condition)) codes tests codes_now tests_now → HasNoCode z string (heads + length tests_now) (Does (body_meant phrases)) fault
      → StopIn z string heads (origins_of_rule (rule_meant rule)) codes tests fault
  second_stops condition codes_now tests_now fault is asks none =
      subst (λ l. StopIn z string heads l codes tests fault) (sym (rule_with condition is))
      (stops_behind z string heads (Asks (condition_meant condition) ∷ []) (Does (body_meant phrases) ∷ []) codes tests codes_now tests_now fault
      (adds_one z string heads (Asks (condition_meant condition)) codes tests codes_now tests_now asks) (stops_first z string heads [] (Does (body_meant phrases)) codes_now tests_now fault none))

  pub only_stops : (fault : TableFault) → rule.head.condition ≡ None → HasNoCode z string (heads + length tests) (Does (body_meant phrases)) fault
      → StopIn z string heads (origins_of_rule (rule_meant rule)) codes tests fault
  only_stops fault is none =
      subst (λ l. StopIn z string heads l codes tests fault) (sym (rule_without is)) (stops_first z string heads [] (Does (body_meant phrases)) codes tests fault none)

-- ---- as the loops come to it

abbrev pub one_text : Text → List Origin
one_text text = Describes text ∷ []

pub all_texts : (texts : List Text) → flat_map one_text texts ≡ map Describes texts
all_texts [] = refl
all_texts (text ∷ texts) = ap (λ l. Describes text ∷ l) (all_texts texts)

module _ (z : Counts) (string : List ℕ → ℕ) (heads : ℕ) where
  pub texts_end : (texts : List Text) (codes tests : List (List ℕ)) (rest : List MeantText) → length rest < 1 → IsOnWay one_text z string heads texts [] [] codes tests (map text_meant rest) → AreCoded z string heads (map Describes texts) codes tests
  texts_end texts codes tests rest none way = subst (λ l. AreCoded z string heads l codes tests) (all_texts texts) (ends one_text z string heads texts [] [] text_meant codes tests rest none way [] (refl, refl))
