-- Stories that say the same are one: each string is named, in order, and each code.
use Rattle.std.proofs.Common.{◌≡◌, ◌∙◌, ap, sym, subst, refl, ℕ, suc, ◌+◌, ◌<◌, ◌≤◌, true, false, eqb, ltb, List, [], ◌∷◌, ◌++◌, length, inl, inr, arith}
use Rattle.std.specs.Prelude.{filter, map, replicate, slice_get}
use Rattle.std.specs.List.{AllByRecursion, flat_map, list_all}
use Rattle.std.proofs.lemmas.Bool.{eqb-false, eqb-true, ltb-false, ltb-true, cases_Bool, and_parts}
use Rattle.std.proofs.lemmas.List.{length-append, length-map, map-append}
use Rattle.std.proofs.lemmas.List.Folds.{list_all-append}
use Rattle.std.proofs.lemmas.Simd.{map-map}
use Rattle.object_words.specs.Mentions.{first_mentions}
use Rattle.play_meaning.specs.Codes.{Codes, code_of}
use Rattle.play_meaning.specs.declared.operand.Use.TheVariants.{Describing}
use Rattle.code_table.specs.Strings.{strings_of}
use Rattle.code_table.proofs.Onward.{table_parts}
use Rattle.story_code.specs.Runs.{code_told}
use Rattle.story_code.specs.Soundness.{IsSoundCode, Judged}
use Rattle.story_code.specs.Spelling.{spelling}
use Rattle.story_code.proofs.Fetched.{told}
use Rattle.story_format.specs.declared.rule_tables.RuleTables.{RuleTables}
use Rattle.story_format.specs.declared.tables.Entry.{Entry}
use Rattle.story_format.specs.declared.tables.Tables.{Tables}
use Rattle.story_format.specs.declared.value_tables.ValueEntry.{ValueEntry}
use Rattle.story_format.specs.Making.{line_strings}
use Rattle.story_format.specs.RuleChecks.{codes_in_rules, codes_in_scenes, codes_in_tables, strings_in_line, uses_in_rules, uses_in_scenes, uses_in_tables}
use Rattle.story_format.specs.Checks.{are_distinct, are_right, codes_named, is_some_code, strings_in_tables, strings_named}
use Rattle.story_format.specs.Codes.{code_spelled, codes_told, counts_of, uses_of}
use Rattle.story_format.specs.Facts.{description_code_in, line_in, lines_of, text_at}
use Rattle.story_format.specs.Soundness.{AreSound, all_strings_read, are_in_turn, strings_read}
use Rattle.story_format.specs.ValueChecks.{strings_in_values}
use Rattle.story_format.specs.Spells.{IsStory}
use Rattle.story_format.specs.Telling.{AreAlike, AreCodedAlike, AreDescribedAlike, AreToldAlike, ToldObject, ToldValueKind, told_object, told_objects, told_value_kind, unnumbered}
use Rattle.story_format.proofs.Naming.{described, next_of, plain}
use Rattle.story_format.proofs.RuleLemmas.{length_replicated, tables_counted}
use Rattle.story_format.proofs.Turns.{turn_parted}
use Rattle.story_format.proofs.ValueLemmas.{checked_parts}
use Rattle.story_format.proofs.Telling.{all_within, is_within, mentioned_on, same_number, same_numbers}
use Rattle.story_format.proofs.ToldLines.{same_lines, texts_of_lines}
use Rattle.story_format.proofs.ToldRules.{at_each, rules_again, scenes_again}
use Rattle.story_format.proofs.ToldCodes.{AllSame, all_same, all_texts_same, same_codes}

-- ---- objects that are described alike have the same numbers of codes

abbrev description_numbers : List Entry → List ℕ
description_numbers es = map (λ e. e.description) es

module _ (c d : Codes) where
  record AreNumberedAlike (next : ℕ) (es fs : List Entry) : Type 0 where
    numbers : description_numbers es ≡ description_numbers fs
    heads : (n : ℕ) → next ≤ n → n < next + length (codes_named es) → AreAlike c d (code_of c n) (code_of d n)

  abbrev Described : List Entry → List Entry → Type 0
  Described es fs = (o : ℕ) → AreDescribedAlike c d (description_code_in (slice_get es o)) (description_code_in (slice_get fs o))

  numbered_alike : (next : ℕ) (es fs : List Entry) → length es ≡ length fs → are_in_turn next (codes_named es) ≡ true → are_in_turn next (codes_named fs) ≡ true → Described es fs → AreNumberedAlike next es fs
  numbered_alike next [] [] long turn turn_too alike = record { numbers = refl; heads = λ n low high. absurd (omega (arith, low, high)) }
  numbered_alike next [] (f ∷ fs) long turn turn_too alike = absurd (omega (arith, long))
  numbered_alike next (e ∷ es) [] long turn turn_too alike = absurd (omega (arith, long))
  numbered_alike next (e ∷ es) (f ∷ fs) long turn turn_too alike =
      elim (next_of next e es turn) [
        | plain none is all later ↦
            elim (next_of next f fs turn_too) [
              | plain none_too is_too all_too later_too ↦
                  let rest = numbered_alike next es fs (omega (arith, long)) later later_too (λ o. alike (suc o)) in
                  record {
                    numbers = λ l. (is ∙ sym is_too) l ∷ rest.numbers l;
                    heads = λ n low high. rest.heads n low (omega (arith, high, ap length all));
                  }
              | described some_too is_too all_too later_too ↦ let wrong = alike 0 in absurd (rw (none, some_too) at wrong)
            ]
        | described some is all later ↦
            elim (next_of next f fs turn_too) [
              | plain none_too is_too all_too later_too ↦ let wrong = alike 0 in absurd (rw (some, none_too) at wrong)
              | described some_too is_too all_too later_too ↦
                  let here = alike 0 in
                  let first : AreAlike c d (code_of c e.description) (code_of d f.description) = rw (some, some_too) at here in
                  let first_is : AreAlike c d (code_of c next) (code_of d next) = rw (is, is_too) at first in
                  let rest = numbered_alike (next + 1) es fs (omega (arith, long)) later later_too (λ o. alike (suc o)) in
                  record {
                    numbers = λ l. (is ∙ sym is_too) l ∷ rest.numbers l;
                    heads = λ n low high. elim (cases_Bool (eqb n next)) [
                      | inl same ↦ subst_head n (eqb_is n next same) first_is
                      | inr other ↦ rest.heads n (eqb_isnt n next low other) (omega (arith, high, ap length all))
                    ];
                  }
            ]
      ]
    where
      eqb_is : (n m : ℕ) → eqb n m ≡ true → n ≡ m
      eqb_is n m h = eqb-true n m h

      eqb_isnt : (n m : ℕ) → m ≤ n → eqb n m ≡ false → m + 1 ≤ n
      eqb_isnt n m low h = omega (arith, low, eqb-false n m h)

      subst_head : (n : ℕ) → n ≡ next → AreAlike c d (code_of c next) (code_of d next) → AreAlike c d (code_of c n) (code_of d n)
      subst_head n is first = subst (λ m. AreAlike c d (code_of c m) (code_of d m)) (sym is) first

-- ---- the texts that objects name

abbrev named_texts : ToldObject → List (List ℕ)
named_texts o = o.name ∷ o.words

texts_of_objects : (strings : List (List ℕ)) (es : List Entry) → map (text_at strings) (flat_map strings_named es) ≡ flat_map named_texts (map (told_object strings) es)
texts_of_objects strings [] = refl
texts_of_objects strings (e ∷ es) =
    map-append (text_at strings) (strings_named e) (flat_map strings_named es) ∙ ap (λ (rest : List (List ℕ)). map (text_at strings) (strings_named e) ++ rest) (texts_of_objects strings es)

texts_of_tables : (t : Tables) → map (text_at t.strings) (strings_in_tables t) ≡ flat_map named_texts (told_objects t) ++ flat_map line_strings (lines_of t)
unfolding strings_in_tables
texts_of_tables t =
    map-append (text_at t.strings) (flat_map strings_named t.objects) (flat_map strings_in_line t.rules.grammar)
    ∙ (λ i. texts_of_objects t.strings t.objects i ++ texts_of_lines t.strings t.rules.grammar i)

abbrev value_texts : ToldValueKind → List (List ℕ)
value_texts v = v.names

texts_of_values : (strings : List (List ℕ)) (values : List ValueEntry) → map (text_at strings) (strings_in_values values) ≡ flat_map value_texts (map (told_value_kind strings) values)
texts_of_values strings [] = refl
texts_of_values strings (v ∷ values) =
    map-append (text_at strings) v.names (strings_in_values values) ∙ ap (λ (rest : List (List ℕ)). map (text_at strings) v.names ++ rest) (texts_of_values strings values)

-- ---- numbers that tell the same texts are the same

same_entry : (e f : Entry) → e.name ≡ f.name → e.words ≡ f.words → e.description ≡ f.description → unnumbered e ≡ unnumbered f → e ≡ f
same_entry e f name words description rest =
    λ i. record {
      kind = (rest i).kind;
      name = name i;
      article = (rest i).article;
      description = description i;
      words = words i;
      relation = (rest i).relation;
      holder = (rest i).holder;
      properties = (rest i).properties;
      numbers = (rest i).numbers;
    }

same_entries : (strings : List (List ℕ)) (es fs : List Entry) → are_distinct strings ≡ true → list_all (is_within (length strings)) (flat_map strings_named es) ≡ true
    → list_all (is_within (length strings)) (flat_map strings_named fs) ≡ true → description_numbers es ≡ description_numbers fs → map (told_object strings) es ≡ map (told_object strings) fs → es ≡ fs
same_entries strings [] [] distinct h k numbers told = refl
same_entries strings [] (f ∷ fs) distinct h k numbers told = absurd cc
same_entries strings (e ∷ es) [] distinct h k numbers told = absurd cc
same_entries strings (e ∷ es) (f ∷ fs) distinct h k numbers told =
    let within = is_within (length strings) in
    let a = and_parts (list_all within (strings_named e)) (list_all within (flat_map strings_named es)) (sym (list_all-append within (strings_named e) (flat_map strings_named es)) ∙ h) in
    let b = and_parts (list_all within (strings_named f)) (list_all within (flat_map strings_named fs)) (sym (list_all-append within (strings_named f) (flat_map strings_named fs)) ∙ k) in
    let x = and_parts (within e.name) (list_all within e.words) a.0 in
    let y = and_parts (within f.name) (list_all within f.words) b.0 in
    let head : told_object strings e ≡ told_object strings f = cc in
    let tail : map (told_object strings) es ≡ map (told_object strings) fs = cc in
    let description : e.description ≡ f.description = cc in
    let descriptions : description_numbers es ≡ description_numbers fs = cc in
    let one : e ≡ f =
    same_entry e f (same_number strings e.name f.name distinct (ltb-true _ _ x.0) (ltb-true _ _ y.0) (ap (λ (o : ToldObject). o.name) head))
    (same_numbers strings e.words f.words distinct x.1 y.1 (ap (λ (o : ToldObject). o.words) head)) description (ap (λ (o : ToldObject). o.rest) head) in
    let others = same_entries strings es fs distinct a.1 b.1 descriptions tail in
    λ i. one i ∷ others i

same_values : (strings : List (List ℕ)) (vs ws : List ValueEntry) → are_distinct strings ≡ true → list_all (is_within (length strings)) (strings_in_values vs) ≡ true → list_all (is_within (length strings)) (strings_in_values ws) ≡ true
    → map (told_value_kind strings) vs ≡ map (told_value_kind strings) ws → vs ≡ ws
same_values strings [] [] distinct h k told = refl
same_values strings [] (w ∷ ws) distinct h k told = absurd cc
same_values strings (v ∷ vs) [] distinct h k told = absurd cc
same_values strings (v ∷ vs) (w ∷ ws) distinct h k told =
    let within = is_within (length strings) in
    let a = and_parts (list_all within v.names) (list_all within (strings_in_values vs)) (sym (list_all-append within v.names (strings_in_values vs)) ∙ h) in
    let b = and_parts (list_all within w.names) (list_all within (strings_in_values ws)) (sym (list_all-append within w.names (strings_in_values ws)) ∙ k) in
    let head : told_value_kind strings v ≡ told_value_kind strings w = cc in
    let tail : map (told_value_kind strings) vs ≡ map (told_value_kind strings) ws = cc in
    let names = same_numbers strings v.names w.names distinct a.0 b.0 (ap (λ (o : ToldValueKind). o.names) head) in
    let others = same_values strings vs ws distinct a.1 b.1 tail in
    λ i. record { names = names i; given = (head i).given } ∷ others i

-- ---- bytes are the spelling of what they are told to be

bytes_again : (judged : List Judged) → AllByRecursion (λ j. IsSoundCode j.sizes j.bytes) judged → map spelling (map code_told judged) ≡ map (λ j. j.bytes) judged
bytes_again [] sound = refl
bytes_again (j ∷ judged) sound =
    let one : spelling (code_told j) ≡ j.bytes = ap spelling (told j sound.0) ∙ sym sound.0.spells.whole in
    λ l. one l ∷ bytes_again judged sound.1 l

codes_are : (t : Tables) (sound : AreSound t) → map code_told sound.judged ≡ (codes_told t).codes
codes_are t sound = sym (map-map code_spelled (λ (j : Judged). j.bytes) sound.judged) ∙ ap (map code_spelled) sound.table.bytes

spelled_again : (t : Tables) → AreSound t → map spelling (codes_told t).codes ≡ t.codes
spelled_again t sound = ap (map spelling) (sym (codes_are t sound)) ∙ bytes_again sound.judged sound.table.sound ∙ sound.table.bytes

-- ---- all of it

strings_differ : (t : Tables) → are_right t ≡ true → are_distinct t.strings ≡ true
strings_differ t right = (checked_parts t right).1

strings_again : (t : Tables) → IsStory t → first_mentions (map (text_at t.strings) (all_strings_read t)) ≡ t.strings
strings_again t story = mentioned_on t.strings 0 (all_strings_read t) (strings_differ t story.right) story.sound.named

-- the strings that are named are there
read_within : (t : Tables) → AreSound t → list_all (is_within (length t.strings)) ((strings_in_tables t ++ strings_of (codes_told t).codes) ++ strings_in_values t.values.kinds) ≡ true
unfolding strings_read
read_within t sound = all_within (length t.strings) 0 (all_strings_read t) sound.named

-- whatever names it: an object, a line, a code or a kind of value
abbrev All_within : Tables → ℕ → Type 0
All_within t count =
    (list_all (is_within count) (flat_map strings_named t.objects) ≡ true) × (list_all (is_within count) (flat_map strings_in_line t.rules.grammar) ≡ true)
    × (list_all (is_within count) (strings_of (codes_told t).codes) ≡ true) × (list_all (is_within count) (strings_in_values t.values.kinds) ≡ true)

within_parts : (t : Tables) → AreSound t → All_within t (length t.strings)
unfolding strings_in_tables
within_parts t sound =
    let within = is_within (length t.strings) in
    let objects = flat_map strings_named t.objects in
    let lines = flat_map strings_in_line t.rules.grammar in
    let codes = strings_of (codes_told t).codes in
    let values = strings_in_values t.values.kinds in
    let all = and_parts (list_all within (strings_in_tables t ++ codes)) (list_all within values) (sym (list_all-append within (strings_in_tables t ++ codes) values) ∙ read_within t sound) in
    let both = and_parts (list_all within (strings_in_tables t)) (list_all within codes) (sym (list_all-append within (strings_in_tables t) codes) ∙ all.0) in
    let named = and_parts (list_all within objects) (list_all within lines) (sym (list_all-append within objects lines) ∙ both.0) in
    (named.0, named.1, both.1, all.1)

module _ (t u : Tables) (one : IsStory t) (other : IsStory u) (alike : AreToldAlike t u) where
  c : Codes
  c = codes_told t

  d : Codes
  d = codes_told u

  -- the codes that objects name, and then those that rules and scenes name, are in turn
  turns : (x : Tables) → AreSound x → (are_in_turn 0 (codes_named x.objects) ≡ true) × (are_in_turn (length (codes_named x.objects)) (codes_in_tables x.rules) ≡ true)
  turns x sound =
      let t = turn_parted (codes_named x.objects) (codes_in_tables x.rules) 0 sound.in_turn in
      let there : length (codes_named x.objects) ≡ 0 + length (codes_named x.objects) = omega arith in
      (t.0, ap (λ n. are_in_turn n (codes_in_tables x.rules)) there ∙ t.1)

  -- those of rules, and behind them those of scenes
  parted : (x : Tables) → AreSound x → (are_in_turn (length (codes_named x.objects)) (codes_in_rules x.rules.rules) ≡ true)
      × (are_in_turn (length (codes_named x.objects) + length (codes_in_rules x.rules.rules)) (codes_in_scenes x.rules.scenes) ≡ true)
  parted x sound = turn_parted (codes_in_rules x.rules.rules) (codes_in_scenes x.rules.scenes) (length (codes_named x.objects)) (turns x sound).1

  numbers : AreNumberedAlike c d 0 t.objects u.objects
  unfolding c d
  numbers =
      let long : length t.objects ≡ length u.objects = sym (length-map t.objects (told_object t.strings)) ∙ ap length alike.objects ∙ length-map u.objects (told_object u.strings) in
      numbered_alike (codes_told t) (codes_told u) 0 t.objects u.objects long (turns t one.sound).0 (turns u other.sound).0 alike.descriptions

  described_same : length (codes_named t.objects) ≡ length (codes_named u.objects)
  described_same = ap (λ ns. length (filter is_some_code ns)) numbers.numbers

  same_rules : t.rules.rules ≡ u.rules.rules
  same_rules =
      let there : are_in_turn (length (codes_named t.objects)) (codes_in_rules u.rules.rules) ≡ true = ap (λ n. are_in_turn n (codes_in_rules u.rules.rules)) described_same ∙ (parted u other.sound).0 in
      rules_again t.rules.rules u.rules.rules (length (codes_named t.objects)) (ap (λ (r : RuleTables). r.rules) alike.rules) (parted t one.sound).0 there

  same_scenes : t.rules.scenes ≡ u.rules.scenes
  same_scenes =
      let there : are_in_turn (length (codes_named t.objects) + length (codes_in_rules t.rules.rules)) (codes_in_scenes u.rules.scenes) ≡ true =
      (λ i. are_in_turn (described_same i + length (codes_in_rules (same_rules i))) (codes_in_scenes u.rules.scenes)) ∙ (parted u other.sound).1 in
      scenes_again t.rules.scenes u.rules.scenes (length (codes_named t.objects) + length (codes_in_rules t.rules.rules)) (ap (λ (r : RuleTables). r.scenes) alike.rules) (parted t one.sound).1 there

  same_uses : uses_of t ≡ uses_of u
  same_uses = λ i. replicate (described_same i) Describing ++ (uses_in_rules (same_rules i) ++ uses_in_scenes (same_scenes i))

  -- the codes of rules and scenes that are told alike, by number
  rules_alike : (n : ℕ) → length (codes_named t.objects) ≤ n → n < length (codes_named t.objects) + length (codes_in_tables t.rules) → AreAlike c d (code_of c n) (code_of d n)
  unfolding c d
  rules_alike n low high =
      at_each (λ n m. AreAlike (codes_told t) (codes_told u) (code_of (codes_told t) n) (code_of (codes_told u) m)) (codes_in_tables t.rules) (length (codes_named t.objects)) (turns t one.sound).1
      (subst (AreCodedAlike (codes_told t) (codes_told u) (codes_in_tables t.rules)) (sym (λ i. codes_in_rules (same_rules i) ++ codes_in_scenes (same_scenes i))) alike.rule_codes) n low high

  heads_alike : (n : ℕ) → n < length (uses_of t) → AreAlike c d (code_of c n) (code_of d n)
  heads_alike n high =
      let described = length (codes_named t.objects) in
      let count = length-append (replicate described Describing) (uses_in_tables t.rules) in
      elim (cases_Bool (ltb n described)) [
        | inl is ↦ numbers.heads n (omega arith) (omega (arith, ltb-true n described is))
        | inr isnt ↦ rules_alike n (omega (arith, ltb-false n described isnt)) (omega (arith, high, count, length_replicated Describing described, tables_counted t.rules))
      ]

  same_told : AllSame c d c.codes d.codes
  unfolding c d
  same_told =
      let here = codes_are t one.sound in
      let there = codes_are u other.sound in
      subst (λ l. AllSame (codes_told t) (codes_told u) l (codes_told u).codes) here (subst (λ l. AllSame (codes_told t) (codes_told u) (map code_told one.sound.judged) l) there
      (all_same (codes_told t) (codes_told u) (counts_of t) (counts_of u) (uses_of t) (uses_of u) 0 t.codes u.codes one.sound.judged other.sound.judged
      (table_parts (counts_of t) (uses_of t) t.codes one.sound.judged one.sound.table) (table_parts (counts_of u) (uses_of u) u.codes other.sound.judged other.sound.table) (ap length same_uses) (sym here) (sym there)
      (λ m low high. heads_alike m high)))

  same_strings : t.strings ≡ u.strings
  unfolding c d strings_read
  same_strings =
      let before : map (text_at t.strings) (strings_read t) ≡ map (text_at u.strings) (strings_read u) =
      map-append (text_at t.strings) (strings_in_tables t) (strings_of (codes_told t).codes)
      ∙ (λ l. (texts_of_tables t ∙ (λ k. flat_map named_texts (alike.objects k) ++ flat_map line_strings (alike.lines k)) ∙ sym (texts_of_tables u)) l
      ++ all_texts_same (codes_told t) (codes_told u) (codes_told t).codes (codes_told u).codes same_told l)
      ∙ sym (map-append (text_at u.strings) (strings_in_tables u) (strings_of (codes_told u).codes)) in
      let texts : map (text_at t.strings) (all_strings_read t) ≡ map (text_at u.strings) (all_strings_read u) =
      map-append (text_at t.strings) (strings_read t) (strings_in_values t.values.kinds)
      ∙ (λ l. before l ++ (texts_of_values t.strings t.values.kinds ∙ ap (flat_map value_texts) alike.value_kinds ∙ sym (texts_of_values u.strings u.values.kinds)) l)
      ∙ sym (map-append (text_at u.strings) (strings_read u) (strings_in_values u.values.kinds)) in
      sym (strings_again t one) ∙ ap first_mentions texts ∙ strings_again u other

  moved : All_within u (length t.strings)
  moved = subst (All_within u) (sym (ap length same_strings)) (within_parts u other.sound)

  same_grammar : t.rules.grammar ≡ u.rules.grammar
  same_grammar =
      same_lines t.strings (strings_differ t one.right) t.rules.grammar u.rules.grammar (within_parts t one.sound).1 moved.1
      (alike.lines ∙ ap (λ all. map (line_in all) u.rules.grammar) (sym same_strings))

  all_rules : t.rules ≡ u.rules
  all_rules = λ i. record { actions = (alike.rules i).actions; grammar = same_grammar i; rules = same_rules i; books = (alike.rules i).books; scenes = same_scenes i }

  same_bytes : t.codes ≡ u.codes
  unfolding c d
  same_bytes =
      sym (spelled_again t one.sound)
      ∙ ap (map spelling) (same_codes (codes_told t) (codes_told u) same_strings (strings_differ t one.right) (codes_told t).codes (codes_told u).codes same_told (within_parts t one.sound).2 moved.2)
      ∙ spelled_again u other.sound

  same_objects : t.objects ≡ u.objects
  same_objects =
      same_entries t.strings t.objects u.objects (strings_differ t one.right) (within_parts t one.sound).0 moved.0 numbers.numbers
      (alike.objects ∙ ap (λ all. map (told_object all) u.objects) (sym same_strings))

  same_value_kinds : t.values.kinds ≡ u.values.kinds
  same_value_kinds =
      same_values t.strings t.values.kinds u.values.kinds (strings_differ t one.right) (within_parts t one.sound).3 moved.3
      (alike.value_kinds ∙ ap (λ all. map (told_value_kind all) u.values.kinds) (sym same_strings))

  all_values : t.values ≡ u.values
  all_values = λ i. record { kinds = same_value_kinds i; objects = alike.values i }

  pub told_alike : t ≡ u
  told_alike = λ i. record { strings = same_strings i; world = alike.world i; objects = same_objects i; ways = alike.ways i; rules = all_rules i; codes = same_bytes i; values = all_values i }
