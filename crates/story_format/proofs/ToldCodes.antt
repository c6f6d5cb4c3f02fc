-- Codes of two stories that say the same, and are named in turn, are the same but for the numbers of their strings.
use Rattle.std.proofs.Common.{◌≡◌, ◌∙◌, ap, sym, subst, refl, ℕ, suc, ◌+◌, ◌<◌, ◌≤◌, nat_lt, eqb, true, List, [], ◌∷◌, ◌++◌, length, drop, map, Option, Some, None, inl, inr, arith, length-append}
use Rattle.std.specs.Prelude.{slice_get}
use Rattle.std.specs.List.{list_all}
use Rattle.std.specs.Option.{option_map}
use Rattle.std.proofs.lemmas.Bool.{eqb-true, eqb-false, ltb-false, ltb-true, cases_Bool, and_parts}
use Rattle.std.proofs.lemmas.List.{length-map, map-append}
use Rattle.std.proofs.lemmas.List.Folds.{list_all-append}
use Rattle.std.proofs.lemmas.Option.{get_or_from_slice_get}
use Rattle.play_meaning.specs.Codes.{Codes, code_of}
use Rattle.play_meaning.specs.TranslatedScripts.{in_list}
use Rattle.play_meaning.specs.declared.instruction.Instruction.{Instruction}
use Rattle.play_meaning.specs.declared.instruction.Instruction.TheVariants.{Count, EndStory, Names, Next, Say}
use Rattle.play_meaning.specs.declared.operand.Counts.{Counts}
use Rattle.play_meaning.specs.declared.operand.Use.{Use}
use Rattle.code_table.specs.Growing.{IsTableFrom}
use Rattle.code_table.specs.Strings.{string_named, strings_in, strings_of}
use Rattle.code_table.specs.Tables.{tests_in, use_of}
use Rattle.code_table.proofs.Lists.{at_long, drop_at}
use Rattle.code_table.proofs.Turns.{AreInTurn, added}
use Rattle.story_code.specs.Runs.{code_told, test_named}
use Rattle.story_code.specs.Soundness.{Judged}
use Rattle.story_format.specs.Checks.{are_distinct}
use Rattle.story_format.specs.Facts.{text_at}
use Rattle.story_format.specs.Telling.{AreAlike, IsAlike, bare, ends, tested, uncoded}
use Rattle.story_format.proofs.Telling.{is_within, same_number}

-- ---- an instruction is what it is but for numbers, and its numbers

abbrev or_none : Option ℕ → ℕ
or_none None = 0
or_none (Some n) = n

abbrev test_or_none : Option (ℕ × ℕ) → ℕ
test_or_none None = 0
test_or_none (Some named) = named.1

abbrev loops_of : Option (ℕ × ℕ) → Option ℕ
loops_of None = None
loops_of (Some named) = Some named.0

abbrev numbered : Instruction → Option ℕ → Option (ℕ × ℕ) → Instruction
numbered (Say s) string test = Say (or_none string)
numbered (EndStory s) string test = EndStory (or_none string)
numbered (Count k t) string test = Count k (test_or_none test)
numbered (Names naming k t) string test = Names naming k (test_or_none test)
numbered (Next k t exit) string test = Next k (test_or_none test) exit
numbered i string test = i

numbered_again : (i : Instruction) → numbered (uncoded i) (string_named i) (test_named i) ≡ i
numbered_again (Say s) = refl
numbered_again (EndStory s) = refl
numbered_again (Count k t) = refl
numbered_again (Names naming k t) = refl
numbered_again (Next k t exit) = refl
numbered_again i = refl

loops_kept : (i : Instruction) → loops_of (test_named (uncoded i)) ≡ loops_of (test_named i)
loops_kept (Say s) = refl
loops_kept (EndStory s) = refl
loops_kept (Count k t) = refl
loops_kept (Names naming k t) = refl
loops_kept (Next k t exit) = refl
loops_kept i = refl

same_instruction : (i j : Instruction) → uncoded i ≡ uncoded j → string_named i ≡ string_named j → test_named i ≡ test_named j → i ≡ j
same_instruction i j same string test = sym (numbered_again i) ∙ (λ l. numbered (same l) (string l) (test l)) ∙ numbered_again j

module _ (c d : Codes) where
  -- ---- code by code

  abbrev Tests : Option (ℕ × ℕ) → Option (ℕ × ℕ) → Type 0
  Tests None None = Unit {0}
  Tests None (Some m) = ⊥
  Tests (Some n) None = ⊥
  Tests (Some n) (Some m) = AreAlike c d (code_of c n.1) (code_of d m.1)

  -- the first instructions, and what stands behind them
  abbrev Parts : List Instruction → List Instruction → Type 0
  Parts [] [] = Unit {0}
  Parts [] (j ∷ js) = ⊥
  Parts (i ∷ is) [] = ⊥
  Parts (i ∷ is) (j ∷ js) = IsAlike c d i j × (Tests (test_named i) (test_named j) × AreAlike c d is js)

  parts : (is js : List Instruction) → AreAlike c d is js → Parts is js
  parts is js ends = tt
  parts is js (bare alike none none_too later) = (alike, (rw (none, none_too) tt, later))
  parts is js (tested test other alike named named_too tests later) = (alike, (rw (named, named_too) tests, later))

  -- the same but for the numbers of strings
  abbrev pub AreSame : List Instruction → List Instruction → Type 0
  AreSame [] [] = Unit {0}
  AreSame [] (j ∷ js) = ⊥
  AreSame (i ∷ is) [] = ⊥
  AreSame (i ∷ is) (j ∷ js) = (IsAlike c d i j × (test_named i ≡ test_named j)) × AreSame is js

  -- so are codes whose tests are numbered from the same number on, and these say the same
  record AreNumbered (a : ℕ) (is js : List Instruction) : Type 0 where
    same : AreSame is js
    many : length (tests_in is) ≡ length (tests_in js)
    tests : (m : ℕ) → a ≤ m → m < a + length (tests_in is) → AreAlike c d (code_of c m) (code_of d m)

  numbered_in : (a : ℕ) (is js : List Instruction) → AreAlike c d is js → AreInTurn a (tests_in is) → AreInTurn a (tests_in js) → AreNumbered a is js
  numbered_in a [] [] alike turn turn_too = record { same = tt; many = refl; tests = λ m low high. absurd (omega (arith, low, high)) }
  numbered_in a [] (j ∷ js) alike turn turn_too = absurd (parts [] (j ∷ js) alike)
  numbered_in a (i ∷ is) [] alike turn turn_too = absurd (parts (i ∷ is) [] alike)
  numbered_in a (i ∷ is) (j ∷ js) alike turn turn_too =
      by (test_named i) (test_named j) refl refl (parts (i ∷ is) (j ∷ js) alike).1.0 turn turn_too (λ b first second. numbered_in b is js (parts (i ∷ is) (j ∷ js) alike).1.1 first second)
    where
      is_alike : IsAlike c d i j
      is_alike = (parts (i ∷ is) (j ∷ js) alike).0

      loops : loops_of (test_named i) ≡ loops_of (test_named j)
      loops = sym (loops_kept i) ∙ ap (λ x. loops_of (test_named x)) is_alike.same ∙ loops_kept j

      by : (o q : Option (ℕ × ℕ)) → test_named i ≡ o → test_named j ≡ q → Tests o q → AreInTurn a (in_list o ++ tests_in is) → AreInTurn a (in_list q ++ tests_in js)
          → ((b : ℕ) → AreInTurn b (tests_in is) → AreInTurn b (tests_in js) → AreNumbered b is js) → AreNumbered a (i ∷ is) (j ∷ js)
      by None None e f tests turn turn_too more =
          let rest = more a turn turn_too in
          record {
            same = ((is_alike, e ∙ sym f), rest.same);
            many = ap (λ o. length (in_list o ++ tests_in is)) e ∙ rest.many ∙ sym (ap (λ o. length (in_list o ++ tests_in js)) f);
            tests = λ m low high. rest.tests m low (omega (arith, high, ap (λ o. length (in_list o ++ tests_in is)) e));
          }
      by None (Some n) e f tests turn turn_too more = absurd tests
      by (Some n) None e f tests turn turn_too more = absurd tests
      by (Some n) (Some m) e f tests turn turn_too more =
          let at : n.1 ≡ a = cc in
          let at_too : m.1 ≡ a = cc in
          let behind : AreInTurn (a + 1) (tests_in is) = cc in
          let behind_too : AreInTurn (a + 1) (tests_in js) = cc in
          let rest = more (a + 1) behind behind_too in
          let inside : Some n.0 ≡ Some m.0 = sym (ap loops_of e) ∙ loops ∙ ap loops_of f in
          let inside_is : n.0 ≡ m.0 = cc in
          let number_is : n.1 ≡ m.1 = at ∙ sym at_too in
          let one : n ≡ m = λ l. (inside_is l, number_is l) in
          let first : AreAlike c d (code_of c a) (code_of d a) = subst (λ x. AreAlike c d (code_of c x) (code_of d a)) at (subst (λ x. AreAlike c d (code_of c n.1) (code_of d x)) at_too tests) in
          record {
            same = ((is_alike, e ∙ ap Some one ∙ sym f), rest.same);
            many = ap (λ o. length (in_list o ++ tests_in is)) e ∙ ap suc rest.many ∙ sym (ap (λ o. length (in_list o ++ tests_in js)) f);
            tests = λ x low high. elim (cases_Bool (eqb x a)) [
              | inl is ↦ subst (λ y. AreAlike c d (code_of c y) (code_of d y)) (sym (eqb-true x a is)) first
              | inr isnt ↦ rest.tests x (omega (arith, low, eqb-false x a isnt)) (omega (arith, high, ap (λ o. length (in_list o ++ tests_in is)) e))
            ];
          }

  -- ---- all codes

  abbrev pub AllSame : List (List Instruction) → List (List Instruction) → Type 0
  AllSame [] [] = Unit {0}
  AllSame [] (b ∷ bs) = ⊥
  AllSame (a ∷ codes) [] = ⊥
  AllSame (a ∷ codes) (b ∷ bs) = AreSame a b × AllSame codes bs

  own_code : (codes : Codes) (n : ℕ) (code : List Instruction) (rest : List (List Instruction)) → drop n codes.codes ≡ code ∷ rest → code_of codes n ≡ code
  own_code codes n code rest at = get_or_from_slice_get codes.codes n code [] (drop_at codes.codes rest n code at).0

  too_many : (uses others : List Use) (n : ℕ) (role : Use) → n ≡ length uses → length uses ≡ length others → slice_get others n ≡ Some role → ⊥
  too_many uses others n role whole same at = omega (arith, at_long others n role at, whole, same)

  -- from a number on, where the codes below the number of uses say the same
  pub all_same : (z y : Counts) (uses others : List Use) (n : ℕ) (cs ds : List (List ℕ)) (js ks : List Judged) → IsTableFrom z uses n cs js → IsTableFrom y others n ds ks → length uses ≡ length others
      → drop n c.codes ≡ map code_told js → drop n d.codes ≡ map code_told ks → ((m : ℕ) → n ≤ m → m < length uses → AreAlike c d (code_of c m) (code_of d m)) → AllSame (map code_told js) (map code_told ks)
  all_same z y uses others n [] ds (j ∷ js) ks from from_too same at at_too alike = absurd from
  all_same z y uses others n [] [] [] [] from from_too same at at_too alike = tt
  all_same z y uses others n [] [] [] (k ∷ ks) from from_too same at at_too alike = absurd from_too
  all_same z y uses others n [] (b ∷ ds) [] [] from from_too same at at_too alike = absurd from_too
  all_same z y uses others n [] (b ∷ ds) [] (k ∷ ks) from from_too same at at_too alike = absurd (too_many uses others n from_too.1.0.code.role from same from_too.1.0.code.named)
  all_same z y uses others n (a ∷ cs) ds [] ks from from_too same at at_too alike = absurd from
  all_same z y uses others n (a ∷ cs) [] (j ∷ js) [] from from_too same at at_too alike = absurd (too_many others uses n from.1.0.code.role from_too (sym same) from.1.0.code.named)
  all_same z y uses others n (a ∷ cs) [] (j ∷ js) (k ∷ ks) from from_too same at at_too alike = absurd from_too
  all_same z y uses others n (a ∷ cs) (b ∷ ds) (j ∷ js) [] from from_too same at at_too alike = absurd from_too
  all_same z y uses others n (a ∷ cs) (b ∷ ds) (j ∷ js) (k ∷ ks) from from_too same at at_too alike =
      let less = at_long uses n from.1.0.code.role from.1.0.code.named in
      let names = added uses (tests_in (code_told j)) from.0 from.1.0.names in
      let names_too = added others (tests_in (code_told k)) from_too.0 from_too.1.0.names in
      let here = alike n (omega arith) less in
      let own = own_code c n (code_told j) (map code_told js) at in
      let own_too = own_code d n (code_told k) (map code_told ks) at_too in
      let told = subst (λ x. AreAlike c d x (code_told k)) own (subst (λ x. AreAlike c d (code_of c n) x) own_too here) in
      let first = numbered_in (length uses) (code_told j) (code_told k) told names.1 (subst (λ x. AreInTurn x (tests_in (code_told k))) (sym same) names_too.1) in
      let long : length from.0 ≡ length uses + length (tests_in (code_told j)) = ap length names.0 ∙ length-append uses (map use_of (tests_in (code_told j))) ∙ ap (λ x. length uses + x) (length-map (tests_in (code_told j)) use_of) in
      let long_too : length from_too.0 ≡ length others + length (tests_in (code_told k)) =
      ap length names_too.0 ∙ length-append others (map use_of (tests_in (code_told k))) ∙ ap (λ x. length others + x) (length-map (tests_in (code_told k)) use_of) in (
        first.same,
        all_same z y from.0 from_too.0 (n + 1) cs ds js ks from.1.1 from_too.1.1 (omega (arith, long, long_too, same, first.many)) (drop_at c.codes (map code_told js) n (code_told j) at).1
            (drop_at d.codes (map code_told ks) n (code_told k) at_too).1
            (λ m low high. elim (cases_Bool (nat_lt m (length uses))) [
              | inl is ↦ alike m (omega (arith, low)) (ltb-true _ _ is)
              | inr isnt ↦ first.tests m (ltb-false _ _ isnt) (omega (arith, high, long))
            ]),
      )

  -- ---- the texts that they name

  in_mapped : {A B : Type 0} (f : A → B) (o : Option A) → map f (in_list o) ≡ in_list (option_map f o)
  in_mapped f None = refl
  in_mapped f (Some a) = refl

  texts_same : (is js : List Instruction) → AreSame is js → map (text_at c.strings) (strings_in is) ≡ map (text_at d.strings) (strings_in js)
  texts_same [] [] same = refl
  texts_same [] (j ∷ js) same = absurd same
  texts_same (i ∷ is) [] same = absurd same
  texts_same (i ∷ is) (j ∷ js) same =
      map-append (text_at c.strings) (in_list (string_named i)) (strings_in is)
      ∙ (λ l. (in_mapped (text_at c.strings) (string_named i) ∙ ap in_list same.0.0.text ∙ sym (in_mapped (text_at d.strings) (string_named j))) l ++ texts_same is js same.1 l)
      ∙ sym (map-append (text_at d.strings) (in_list (string_named j)) (strings_in js))

  pub all_texts_same : (codes others : List (List Instruction)) → AllSame codes others → map (text_at c.strings) (strings_of codes) ≡ map (text_at d.strings) (strings_of others)
  all_texts_same [] [] same = refl
  all_texts_same [] (b ∷ others) same = absurd same
  all_texts_same (a ∷ codes) [] same = absurd same
  all_texts_same (a ∷ codes) (b ∷ others) same =
      map-append (text_at c.strings) (strings_in a) (strings_of codes)
      ∙ (λ l. texts_same a b same.0 l ++ all_texts_same codes others same.1 l)
      ∙ sym (map-append (text_at d.strings) (strings_in b) (strings_of others))

-- ---- where the strings are the same

same_string : (strings : List (List ℕ)) (o q : Option ℕ) → are_distinct strings ≡ true → list_all (is_within (length strings)) (in_list o) ≡ true → list_all (is_within (length strings)) (in_list q) ≡ true
    → option_map (text_at strings) o ≡ option_map (text_at strings) q → o ≡ q
same_string strings None None distinct h k same = refl
same_string strings None (Some m) distinct h k same = absurd cc
same_string strings (Some n) None distinct h k same = absurd cc
same_string strings (Some n) (Some m) distinct h k same =
    let text : text_at strings n ≡ text_at strings m = cc in
    ap Some (same_number strings n m distinct (ltb-true _ _ (and_parts (is_within (length strings) n) true h).0) (ltb-true _ _ (and_parts (is_within (length strings) m) true k).0) text)

module _ (c d : Codes) (strings : c.strings ≡ d.strings) (distinct : are_distinct c.strings ≡ true) where
  abbrev Within : List ℕ → Type 0
  Within ns = list_all (is_within (length c.strings)) ns ≡ true

  same_code : (is js : List Instruction) → AreSame c d is js → Within (strings_in is) → Within (strings_in js) → is ≡ js
  same_code [] [] same h k = refl
  same_code [] (j ∷ js) same h k = absurd same
  same_code (i ∷ is) [] same h k = absurd same
  same_code (i ∷ is) (j ∷ js) same h k =
      let within = is_within (length c.strings) in
      let a = and_parts (list_all within (in_list (string_named i))) (list_all within (strings_in is)) (sym (list_all-append within (in_list (string_named i)) (strings_in is)) ∙ h) in
      let b = and_parts (list_all within (in_list (string_named j))) (list_all within (strings_in js)) (sym (list_all-append within (in_list (string_named j)) (strings_in js)) ∙ k) in
      let text : option_map (text_at c.strings) (string_named i) ≡ option_map (text_at c.strings) (string_named j) = same.0.0.text ∙ ap (λ s. option_map (text_at s) (string_named j)) (sym strings) in
      let string : string_named i ≡ string_named j = same_string c.strings (string_named i) (string_named j) distinct a.0 b.0 text in
      let one : i ≡ j = same_instruction i j same.0.0.same string same.0.1 in
      let others = same_code is js same.1 a.1 b.1 in
      λ l. one l ∷ others l

  pub same_codes : (codes others : List (List Instruction)) → AllSame c d codes others → Within (strings_of codes) → Within (strings_of others) → codes ≡ others
  same_codes [] [] same h k = refl
  same_codes [] (b ∷ others) same h k = absurd same
  same_codes (a ∷ codes) [] same h k = absurd same
  same_codes (a ∷ codes) (b ∷ others) same h k =
      let within = is_within (length c.strings) in
      let p = and_parts (list_all within (strings_in a)) (list_all within (strings_of codes)) (sym (list_all-append within (strings_in a) (strings_of codes)) ∙ h) in
      let q = and_parts (list_all within (strings_in b)) (list_all within (strings_of others)) (sym (list_all-append within (strings_in b) (strings_of others)) ∙ k) in
      let one = same_code a b same.0 p.0 q.0 in
      let rest = same_codes codes others same.1 p.1 q.1 in
      λ l. one l ∷ rest l
