-- Codes that are found to be sound together are.
use Rattle.std.proofs.Common.{◌≡◌, ◌∙◌, ap, sym, subst, ℕ, ◌+◌, ◌-◌, ◌<◌, ◌≤◌, Bool, true, false, ◌==◌, nat_lt, ◌⊎◌, List, [], ◌∷◌, length, drop, refl, Option, Some, None, inl, inr, arith}
use Rattle.std.specs.List.{list_all}
use Rattle.std.specs.Prelude.{◌&&◌, IsTrue, slice_get}
use Rattle.std.proofs.lemmas.Bool.{and_parts, eqb-true, lt-ltb, ltb-false, ltb-true, and_from}
use Rattle.std.proofs.lemmas.Option.{same_Some}
use Rattle.play_meaning.specs.Instructions.{at_place, size_of}
use Rattle.play_meaning.specs.declared.instruction.Instruction.{Instruction}
use Rattle.play_meaning.specs.declared.operand.Use.{Use}
use Rattle.play_meaning.specs.declared.operand.Use.TheVariants.{Body, Describing, Test}
use Rattle.story_code.specs.Fronts.{code_in, front, with_first}
use Rattle.story_code.specs.Passes.{if_so, is_nil}
use Rattle.story_code.specs.Runs.{AreSoundTogether, IsOneOf, IsTestAt, IsTestOf, NamesItsTest, code_or_none, code_told, test_named}
use Rattle.story_code.specs.Soundness.{IsSoundCode, Judged}
use Rattle.story_code.specs.Together.{is_inside, is_one_of, is_test_inside, is_test_of, name_their_tests, names_its_test}
use Rattle.story_code.proofs.Answered.{there_long}
use Rattle.story_code.proofs.Exact.{spells_in}
use Rattle.story_code.proofs.Fetched.{told}
use Rattle.story_code.proofs.Passing.{eq_same}
use Rattle.story_code.proofs.Places.{at_cases, at_past}
use Rattle.story_code.proofs.WalkLemmas.{code_is_none, code_splits}

is_false : IsTrue false → ⊥
is_false isnt = absurd cc

or_equal : (m n : ℕ) → m < n + 1 → (m < n) ⊎ (m ≡ n)
or_equal m n less = by (nat_lt m n) refl
  where
    by : (b : Bool) → nat_lt m n ≡ b → (m < n) ⊎ (m ≡ n)
    by true is = inl (ltb-true m n is)
    by false is = inr (omega (arith, less, ltb-false m n is))

-- ---- the walk over a code's bytes

module _ (judged : List Judged) where
  abbrev named_in : Option (List Instruction) → Bool
  named_in code = name_their_tests judged code

  one_named : (i : Instruction) (code : Option (List Instruction)) → names_its_test judged i ≡ true → named_in (with_first i code) ≡ named_in code
  one_named i None is = refl
  one_named i (Some js) is = ap (λ b. b && list_all (names_its_test judged) js) is

  one_unnamed : (i : Instruction) (code : Option (List Instruction)) → names_its_test judged i ≡ false → named_in (with_first i code) ≡ false
  one_unnamed i None isnt = refl
  one_unnamed i (Some js) isnt = ap (λ b. b && list_all (names_its_test judged) js) isnt

  pub named_next : (bytes after : List ℕ) (i : Instruction) (n : ℕ) (whole : Bool) → front bytes ≡ Some i → n ≡ size_of i → after ≡ drop n bytes → names_its_test judged i ≡ true
      → named_in (code_in bytes) ≡ whole → named_in (code_in after) ≡ whole
  named_next bytes after i n whole at long behind is so_far =
      ap (λ b. named_in (code_in b)) (behind ∙ ap (λ m. drop m bytes) long) ∙ sym (one_named i (code_in (drop (size_of i) bytes)) is) ∙ ap named_in (sym (code_splits bytes i at)) ∙ so_far

  pub named_stop : (bytes : List ℕ) (i : Instruction) (whole : Bool) → front bytes ≡ Some i → names_its_test judged i ≡ false → named_in (code_in bytes) ≡ whole → false ≡ whole
  named_stop bytes i whole at isnt so_far = sym (one_unnamed i (code_in (drop (size_of i) bytes)) isnt) ∙ ap named_in (sym (code_splits bytes i at)) ∙ so_far

  pub named_end : (bytes : List ℕ) → front bytes ≡ None → named_in (code_in bytes) ≡ is_nil bytes
  named_end bytes none = ap named_in (code_is_none bytes none) ∙ by (is_nil bytes)
    where
      by : (b : Bool) → named_in (if_so b []) ≡ b
      by true = refl
      by false = refl

  -- ---- what the walk tells

  test_inside : (loops : ℕ) (role : Use) → is_inside loops role ≡ true → role ≡ Test loops
  test_inside loops (Test around) is = ap Test (eqb-true around loops is)
  test_inside loops Describing is = absurd cc
  test_inside loops Body is = absurd cc

  test_there : (n loops : ℕ) (found : Option Judged) → slice_get judged n ≡ found → is_test_inside loops found ≡ true → IsTestAt judged n loops
  test_there n loops None there is = absurd cc
  test_there n loops (Some j) there is = (j, (there, test_inside loops j.sizes.role is))

  test_of : (named : Option (ℕ × ℕ)) → is_test_of judged named ≡ true → IsTestOf judged named
  test_of None is = tt
  test_of (Some named) is = test_there named.1 (named.0 + 1) (slice_get judged named.1) refl is

  at_all : (f : Instruction → Bool) (code : List Instruction) → list_all f code ≡ true → (place : ℕ) (i : Instruction) → at_place code place ≡ Some i → f i ≡ true
  at_all f [] all place i at = absurd cc
  at_all f (j ∷ js) all place i at =
      let both = and_parts (f j) (list_all f js) all in
      elim (at_cases j js place i at) [
        | inl here ↦ ap f (sym here.1) ∙ both.0
        | inr later ↦ at_all f js both.1 (place - size_of j) i later.1
      ]

  pub all_named : (code : Option (List Instruction)) → named_in code ≡ true → (place : ℕ) (i : Instruction) → at_place (code_or_none code) place ≡ Some i → NamesItsTest judged i
  all_named None all place i at = absurd cc
  all_named (Some code) all place i at = test_of (test_named i) (at_all (names_its_test judged) code all place i at)

  -- ---- a code that stands rightly among others

  module _ (n : ℕ) (j : Judged) where
    pub one_of : IsSoundCode j.sizes j.bytes → is_one_of judged n j ≡ true → IsOneOf judged n j
    one_of sound is =
        let first = and_parts _ _ is in
        let second = and_parts _ _ first.1 in
        let third = and_parts _ _ second.1 in
        record {
          sound = sound;
          few = ltb-true j.sizes.counts.objects 65536 first.0;
          own = eqb-true j.sizes.counts.own n second.0;
          all = eqb-true j.sizes.counts.codes (length judged) third.0;
          tests = all_named (code_in j.bytes) third.1;
        }

    inside_test : (loops : ℕ) (role : Use) → role ≡ Test loops → is_inside loops role ≡ true
    inside_test loops role is = ap (is_inside loops) is ∙ eq_same loops

    tests_are : (named : Option (ℕ × ℕ)) → IsTestOf judged named → is_test_of judged named ≡ true
    tests_are None is = refl
    tests_are (Some named) is = ap (is_test_inside (named.0 + 1)) is.1.0 ∙ inside_test (named.0 + 1) is.0.sizes.role is.1.1

    each_named : (code : List Instruction) → ((place : ℕ) (i : Instruction) → at_place code place ≡ Some i → NamesItsTest judged i) → list_all (names_its_test judged) code ≡ true
    each_named [] tests = refl
    each_named (i ∷ is) tests =
        and_from (names_its_test judged i) (list_all (names_its_test judged) is) (tests_are (test_named i) (tests 0 i refl))
        (each_named is (λ place k at. tests (size_of i + place) k (at_past i is (size_of i + place) place refl ∙ at)))

    pub one_of_is : IsOneOf judged n j → is_one_of judged n j ≡ true
    one_of_is one =
        let spelled = spells_in j.bytes one.sound.code one.sound.spells in
        let same : code_told j ≡ one.sound.code = told j one.sound in
        let names : name_their_tests judged (code_in j.bytes) ≡ true = ap named_in spelled ∙ each_named one.sound.code (λ place i at. one.tests place i (ap (λ code. at_place code place) same ∙ at)) in
        and_from _ _ (lt-ltb j.sizes.counts.objects 65536 one.few)
        (and_from _ _ (ap (λ k. k == n) one.own ∙ eq_same n) (and_from _ _ (ap (λ k. k == length judged) one.all ∙ eq_same (length judged)) names))

  -- ---- one by one

  abbrev pub AreSoBelow : ℕ → Type 0
  AreSoBelow n = (m : ℕ) (j : Judged) → m < n → slice_get judged m ≡ Some j → IsOneOf judged m j

  pub none_below : AreSoBelow 0
  none_below m j less there = absurd (omega (arith, less))

  pub below_next : (n : ℕ) → AreSoBelow n → ((j : Judged) → slice_get judged n ≡ Some j → IsOneOf judged n j) → AreSoBelow (n + 1)
  below_next n so one m j less there = elim (or_equal m n less) [
    | inl before ↦ so m j before there
    | inr same ↦ subst (λ k. IsOneOf judged k j) (sym same) (one j (ap (slice_get judged) (sym same) ∙ there))
  ]

  pub together_or_not : (n : ℕ) → ((IsTrue false → (j : Judged) → slice_get judged n ≡ Some j → IsOneOf judged n j) × (((j : Judged) → slice_get judged n ≡ Some j → IsOneOf judged n j) → IsTrue false))
      → (IsTrue false → AreSoundTogether judged) × (AreSoundTogether judged → IsTrue false)
  together_or_not n stands = (λ isnt. absurd (is_false isnt), λ together. stands.1 (λ j there. together n j there))

  pub all_together : (n : ℕ) → length judged ≤ n → AreSoBelow n → (IsTrue true → AreSoundTogether judged) × (AreSoundTogether judged → IsTrue true)
  all_together n whole so = (λ so_far m j there. so m j (omega (arith, whole, there_long judged m j there)) there, λ together. refl)

  -- what the one of a number is, found
  pub one_found : (n : ℕ) (j : Judged) (b : Bool) → slice_get judged n ≡ Some j → IsSoundCode j.sizes j.bytes → b ≡ is_one_of judged n j
      → (IsTrue b → (k : Judged) → slice_get judged n ≡ Some k → IsOneOf judged n k) × (((k : Judged) → slice_get judged n ≡ Some k → IsOneOf judged n k) → IsTrue b)
  one_found n j b there sound is = (
    λ is_so k at. subst (λ x. IsOneOf judged n x) (same_Some j k (sym there ∙ at)) (one_of n j sound (sym is ∙ is_so)),
    λ one. is ∙ one_of_is n j (one j there),
  )
