-- The codes of texts that fit find what they need, and leave nothing.
use Rattle.std.proofs.Common.{◌≡◌, ◌∙◌, ap, sym, subst, refl, ℕ, ◌+◌, true, List, [], ◌∷◌, ◌++◌, length, None, Some, arith}
use Rattle.std.specs.Prelude.{slice_index_or}
use Rattle.play_meaning.specs.Instructions.{sizes}
use Rattle.play_meaning.specs.Operands.{below, may_hold, names_what_is_there, operands_behind, with_given}
use Rattle.play_meaning.specs.SoundCodes.{loops_around, way_of}
use Rattle.play_meaning.specs.Translation.{Part, choice, condition_part, nothing, number_part, object_code, one, seq, test_code, testing, text_part, these}
use Rattle.play_meaning.specs.Trees as tree
use Rattle.play_meaning.specs.Trees.{Description, Text}
use Rattle.play_meaning.specs.declared.instruction.Instruction.{Instruction}
use Rattle.play_meaning.specs.declared.instruction.Instruction.TheVariants as i
use Rattle.play_meaning.specs.declared.operand.Counts.{Counts}
use Rattle.play_meaning.specs.declared.operand.Sort.{Sort}
use Rattle.play_meaning.specs.declared.operand.Sort.TheVariants.{Number, Object, Truth}
use Rattle.play_meaning.specs.declared.operand.Use.{Use}
use Rattle.play_meaning.specs.declared.operand.Use.TheVariants.{Body, Describing}
use Rattle.play_meaning.specs.declared.way.OpenLoop.{OpenLoop}
use Rattle.play_meaning.specs.declared.way.Way.TheVariants.{Straight}
use Rattle.play_meaning.specs.declared.naming.Naming.{Naming}
use Rattle.story_code.specs.Fitting.{TestFits, TextFits}
use Rattle.story_code.specs.Runs.{test_named}
use Rattle.story_code.specs.SoundlyEmitted.{AreNumbered}
use Rattle.story_code.proofs.SoundWays.{carries_choice}
use Rattle.story_code.proofs.SoundParts.{carries_nothing, carries_one}
use Rattle.story_code.proofs.SoundDescriptions.{Carries, Gives, Names, carries_then, is_below, named_here, object_gives, one_below, two_below}
use Rattle.story_code.proofs.SoundConditions.{condition_gives, number_gives, opens_test, test_sound}
use Rattle.story_code.proofs.InTurn.{names-append, names_none, numbered_first, numbered_later}

-- a code for this use may say a text
pub record MaySay (whose : Use) : Type 0 where
  pub string : (s : ℕ) → may_hold whose (i.Say s) ≡ true
  pub figure : may_hold whose i.Figure ≡ true
  pub name : (naming : Naming) → may_hold whose (i.Name naming) ≡ true
  pub value : (q : ℕ) → may_hold whose (i.ValueName q) ≡ true
  pub names : (naming : Naming) (k t : ℕ) → may_hold whose (i.Names naming k t) ≡ true
  pub branch : (p : ℕ) → may_hold whose (i.IfZero p) ≡ true
  pub jump : (p : ℕ) → may_hold whose (i.Jump p) ≡ true

pub bodies_say : MaySay Body
unfolding may_hold
bodies_say = record { string = λ s. refl; figure = refl; name = λ naming. refl; value = λ q. refl; names = λ naming k t. refl; branch = λ p. refl; jump = λ p. refl }

pub descriptions_say : MaySay Describing
unfolding may_hold
descriptions_say = record { string = λ s. refl; figure = refl; name = λ naming. refl; value = λ q. refl; names = λ naming k t. refl; branch = λ p. refl; jump = λ p. refl }

module _ (z : Counts) (own : ℕ) (whose : Use) (loops : List OpenLoop) (k : ℕ) (deep : loops_around whose + length loops ≡ k) where
  abbrev judged : Counts
  judged = record z { own = own }

  -- a part that takes nothing and leaves nothing
  abbrev pub Does : Part → Type 0
  Does p = (t q : ℕ) → AreNumbered judged t (p t q).tests → Carries z own whose loops k deep [] [] t q (p t q)

  pub does_nothing : Does nothing
  does_nothing t q numbers = (carries_nothing judged whose loops [] q, refl)

  pub does_seq : (a b : Part) → Does a → Does b → Does (seq a b)
  unfolding seq
  does_seq a b x y t q numbers =
      let e = a t q in
      let f = b (t + length e.tests) (q + sizes e.code) in
      carries_then z own whose loops k deep a b [] [] [] t q (x t q (numbered_first judged t e.tests f.tests numbers))
      (y (t + length e.tests) (q + sizes e.code) (numbered_later judged t e.tests f.tests numbers))

  -- an instruction that goes straight on, and may stand in this code, names no test and what is there
  abbrev pub IsPlain : Instruction → Type 0
  IsPlain x = (may_hold whose x ≡ true) × (may_hold Body x ≡ true) × (test_named x ≡ None) × (way_of x ≡ Straight) × Names z own whose loops k deep x

  plain_one : (x : Instruction) (operands left : List Sort) (t q : ℕ) → IsPlain x → operands_behind judged x operands ≡ Some left
      → Carries z own whose loops k deep operands left t q (one x t q)
  plain_one x operands left t q is typed =
      (carries_one judged whose loops operands left q x is.0 is.1 (named_here z own whose loops k deep x is.4) typed is.3, names_none judged x t is.2)

  pub does_one : (x : Instruction) → IsPlain x → operands_behind judged x [] ≡ Some [] → Does (one x)
  does_one x is typed t q numbers = plain_one x [] [] t q is typed

  -- one that takes an operand
  pub takes_one : (wanted : Sort) (p : Part) (x : Instruction) → IsPlain x → ((a : Sort) → operands_behind judged x (a ∷ []) ≡ with_given None (below (wanted ∷ []) (a ∷ [])))
      → Gives z own whose loops k deep wanted 0 p → Does (seq p (one x))
  unfolding seq
  takes_one wanted p x is takes g t q numbers =
      let e = p t q in
      let r = g.gives [] refl t q (numbered_first judged t e.tests [] numbers) in
      carries_then z own whose loops k deep p (one x) [] (r.0 ∷ []) [] t q r.1.1
      (plain_one x (r.0 ∷ []) [] (t + length e.tests) (q + sizes e.code) is (takes r.0 ∙ ap (with_given None) (one_below r.0 wanted [] r.1.0)))

  -- one that takes two
  pub takes_two : (first second : Sort) (a b : Part) (x : Instruction) → IsPlain x
      → ((a b : Sort) → operands_behind judged x (b ∷ a ∷ []) ≡ with_given None (below (second ∷ first ∷ []) (b ∷ a ∷ [])))
      → Gives z own whose loops k deep first 0 a → Gives z own whose loops k deep second 1 b → Does (seq (seq a b) (one x))
  unfolding seq
  takes_two first second a b x is takes g h t q numbers =
      let e = a t q in
      let t' = t + length e.tests in
      let q' = q + sizes e.code in
      let f = b t' q' in
      let both = numbered_first judged t (e.tests ++ f.tests) [] numbers in
      let r = g.gives [] refl t q (numbered_first judged t e.tests f.tests both) in
      let s = h.gives (r.0 ∷ []) refl t' q' (numbered_later judged t e.tests f.tests both) in
      carries_then z own whose loops k deep (seq a b) (one x) [] (s.0 ∷ r.0 ∷ []) [] t q
      (carries_then z own whose loops k deep a b [] (r.0 ∷ []) (s.0 ∷ r.0 ∷ []) t q r.1.1 s.1.1)
      (plain_one x (s.0 ∷ r.0 ∷ []) [] (t + length (e.tests ++ f.tests)) (q + sizes (e.code ++ f.code)) is
      (takes r.0 s.0 ∙ ap (with_given None) (two_below r.0 s.0 second first [] r.1.0 s.1.0)))

  pub does_choice : MaySay whose → (c a b : Part) → Gives z own whose loops k deep Truth 0 c → Does a → Does b → Does (choice c a b)
  unfolding choice
  does_choice say c a b g x y t q numbers =
      let asked = c t q in
      let t1 = t + length asked.tests in
      let q1 = q + sizes asked.code + 3 in
      let first = a t1 q1 in
      let t2 = t1 + length first.tests in
      let q2 = q1 + sizes first.code + 3 in
      let last = b t2 q2 in
      let r = g.gives [] refl t q (numbered_first judged t asked.tests (first.tests ++ last.tests) numbers) in
      let later = numbered_later judged t asked.tests (first.tests ++ last.tests) numbers in
      let taken = x t1 q1 (numbered_first judged t1 first.tests last.tests later) in
      let other = y t2 q2 (numbered_later judged t1 first.tests last.tests later) in (
        carries_choice judged whose loops q asked.code first.code last.code r.0 say.branch say.jump r.1.0 r.1.1.0 taken.0 other.0,
        names-append judged asked.code (i.IfZero q2 ∷ (first.code ++ i.Jump (q2 + sizes last.code) ∷ last.code)) t asked.tests (first.tests ++ last.tests) r.1.1.1
            (names-append judged first.code (i.Jump (q2 + sizes last.code) ∷ last.code) t1 first.tests last.tests taken.1 other.1),
      )

  -- ---- texts

  lists : MaySay whose → (naming : Naming) (d : Description) → TestFits z k d → Does (testing (i.Names naming k) (test_code k d))
  unfolding may_hold names_what_is_there operands_behind
  lists say naming d fits t q numbers =
      let named = opens_test z own whose loops k deep t fits.0 numbers.behind (omega (arith, numbers.there)) in (
        carries_one judged whose loops [] [] q (i.Names naming k t) (say.names naming k t) refl (named_here z own whose loops k deep (i.Names naming k t) named) refl refl,
        (refl, (test_sound z k d t fits.1 (omega (arith, numbers.there)), refl)),
      )

  module _ (say : MaySay whose) (string : List ℕ → ℕ) where
    pub text_does : (text : Text) → TextFits z whose string k text → Does (text_part string k text)
    unfolding may_hold text_part seq names_what_is_there operands_behind
    text_does tree.Silence fits = does_nothing
    text_does (tree.Bytes bytes more) fits =
        does_seq (one (i.Say (string bytes))) (text_part string k more)
        (does_one (i.Say (string bytes)) (say.string (string bytes), refl, refl, refl, is_below (string bytes) z.strings fits.0) refl)
        (text_does more fits.1)
    text_does (tree.Figure number more) fits =
        does_seq (seq (number_part k number) (one i.Figure)) (text_part string k more)
        (takes_one Number (number_part k number) i.Figure (say.figure, refl, refl, refl, refl) (λ a. refl) (number_gives z own whose loops k deep number 0 fits.0))
        (text_does more fits.1)
    text_does (tree.Name naming o more) fits =
        does_seq (these (object_code o ++ i.Name naming ∷ [])) (text_part string k more)
        (takes_one Object (these (object_code o)) (i.Name naming) (say.name naming, refl, refl, refl, refl) (λ a. refl) (object_gives z own whose loops k deep o 0 fits.0))
        (text_does more fits.1)
    text_does (tree.Listing naming d more) fits = does_seq (testing (i.Names naming k) (test_code k d)) (text_part string k more) (lists say naming d fits.0) (text_does more fits.1)
    text_does (tree.DescriptionOf o more) fits =
        does_seq (these (object_code o ++ i.Description ∷ [])) (text_part string k more)
        (takes_one Object (these (object_code o)) i.Description
        (subst (λ w. may_hold w i.Description ≡ true) (sym fits.0.0) refl, refl, refl, refl, refl) (λ a. refl) (object_gives z own whose loops k deep o 0 fits.0.1))
        (text_does more fits.1)
    text_does (tree.ValueName q o more) fits =
        does_seq (these (object_code o ++ i.ValueName q ∷ [])) (text_part string k more)
        (takes_one Object (these (object_code o)) (i.ValueName q) (say.value q, refl, refl, refl, is_below 0 (slice_index_or z.values q 0) fits.0.0) (λ a. refl)
        (object_gives z own whose loops k deep o 0 fits.0.1))
        (text_does more fits.1)
    text_does (tree.IfSaid c a b more) fits =
        does_seq (choice (condition_part k c) (text_part string k a) (text_part string k b)) (text_part string k more)
        (does_choice say (condition_part k c) (text_part string k a) (text_part string k b) (condition_gives z own whose loops k deep c 0 fits.0) (text_does a fits.1.0.0)
        (text_does b fits.1.0.1))
        (text_does more fits.1.1)
