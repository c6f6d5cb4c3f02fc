-- Bytes can say the codes of numbers and conditions, which take few bytes for each word.
use Rattle.std.proofs.Common.{refl, ℕ, ◌+◌, ◌*◌, ◌≤◌, ◌&&◌, nat_lt, true, List, [], ◌∷◌, ◌++◌, arith}
use Rattle.std.proofs.lemmas.Bool.{and_from}
use Rattle.play_meaning.specs.Instructions.{size_of, sizes}
use Rattle.play_meaning.specs.Translation.{adjective_code, condition_part, description_code, held_code, number_part, object_code, one, seq, test_code, testing, these}
use Rattle.play_meaning.specs.Trees as tree
use Rattle.play_meaning.specs.Trees.{Condition, Description, Number, Object}
use Rattle.play_meaning.specs.declared.instruction.Instruction.{Instruction}
use Rattle.play_meaning.specs.declared.instruction.Instruction.TheVariants as i
use Rattle.play_meaning.specs.declared.operand.Counts.{Counts}
use Rattle.world_meaning.specs.declared.place.Rel.{Rel}
use Rattle.world_meaning.specs.declared.place.Rel.TheVariants.{Carried, Worn}
use Rattle.story_code.specs.Sayable.{ClausesAreSayable, ConditionIsSayable, DescriptionIsSayable, NumbersAreSayable, ObjectIsSayable, ObjectsAreSayable, TermsAreSayable}
use Rattle.story_code.specs.ShortLaws.{IsCountedInTwoBytes}
use Rattle.story_code.specs.Shortness.{words_of_adjective, words_of_condition, words_of_description, words_of_number, words_of_object}
use Rattle.story_code.proofs.Followed.{sizes_append}
use Rattle.story_code.proofs.ShortDescriptions.{adjective_size, adjective_spelled, description_size, description_spelled, literal_spelled, object_size, object_spelled, size_of_three, spell_three, test_said}
use Rattle.story_code.proofs.ShortParts.{CanSpell, IsSaid, said_one, said_seq, said_testing, said_these, spell_both, two_spelled, within}

pub one_number_word : (a : Number) → 1 ≤ words_of_number a
one_number_word (tree.Literal n) = omega arith
one_number_word (tree.Variable v) = omega arith
one_number_word (tree.PropertyOf p o) = omega arith
one_number_word (tree.CountOf d) = omega arith
one_number_word tree.TurnCount = omega arith
one_number_word (tree.Plus a b) = omega arith
one_number_word (tree.Minus a b) = omega arith
one_number_word (tree.Times a b) = omega arith

abbrev NumberIsSaid : ℕ → Number → Type 0
NumberIsSaid k a = IsSaid (number_part k a) (5 * words_of_number a) (words_of_number a)

abbrev pub ConditionIsSaid : ℕ → Condition → Type 0
ConditionIsSaid k c = IsSaid (condition_part k c) (105 * words_of_condition c) (words_of_condition c)

module _ (z : Counts) (counted : IsCountedInTwoBytes z) where
  -- an object's code, or two, and what is done with them
  pub object_is : (k : ℕ) (o : Object) → ObjectIsSayable z k o → CanSpell (object_code o)
  object_is k o is = object_spelled z k o counted.objects is.0

  pub said_with_one : (k : ℕ) (o : Object) (x : Instruction) → ObjectIsSayable z k o → CanSpell (x ∷ []) → IsSaid (these (object_code o ++ x ∷ [])) (5 * words_of_object o + sizes (x ∷ [])) 0
  said_with_one k o x is can =
      said_these (object_code o ++ x ∷ []) (5 * words_of_object o + sizes (x ∷ [])) (omega (arith, sizes_append (object_code o) (x ∷ []), object_size o))
      (spell_both (object_code o) (x ∷ []) (object_is k o is) can)

  pub said_with_two : (k : ℕ) (a b : Object) (x : Instruction) → ObjectsAreSayable z k a b → CanSpell (x ∷ [])
      → IsSaid (these (object_code a ++ object_code b ++ x ∷ [])) (5 * words_of_object a + 5 * words_of_object b + sizes (x ∷ [])) 0
  said_with_two k a b x are can =
      said_these (object_code a ++ object_code b ++ x ∷ []) (5 * words_of_object a + 5 * words_of_object b + sizes (x ∷ []))
      (omega (arith, size_of_three (object_code a) (object_code b) x, object_size a, object_size b))
      (spell_three (object_code a) (object_code b) x (object_is k a are.0) (object_is k b are.1) can)

  -- ---- numbers

  said_two_numbers : (k : ℕ) (a b : Number) (x : Instruction) → size_of x ≤ 1 → CanSpell (x ∷ []) → NumberIsSaid k a → NumberIsSaid k b
      → IsSaid (seq (number_part k a) (seq (number_part k b) (one x))) (5 * words_of_number a + (5 * words_of_number b + 1)) (words_of_number a + (words_of_number b + 0))
  said_two_numbers k a b x size is r s =
      said_seq (number_part k a) (seq (number_part k b) (one x)) (5 * words_of_number a) (5 * words_of_number b + 1) (words_of_number a) (words_of_number b + 0) r
      (said_seq (number_part k b) (one x) (5 * words_of_number b) 1 (words_of_number b) 0 s (said_one x 1 size is))

  joined_said : (k : ℕ) (a b : Number) (x : Instruction) → size_of x ≤ 1 → CanSpell (x ∷ []) → NumberIsSaid k a → NumberIsSaid k b
      → IsSaid (seq (number_part k a) (seq (number_part k b) (one x))) (5 * (words_of_number a + 1 + words_of_number b)) (words_of_number a + 1 + words_of_number b)
  joined_said k a b x size is r s = within (seq (number_part k a) (seq (number_part k b) (one x))) _ _ _ _ (said_two_numbers k a b x size is r s) (omega arith) (omega arith)

  pub terms_said : (k : ℕ) (a : Number) → TermsAreSayable z k a → words_of_number a ≤ 500 → NumberIsSaid k a
  unfolding number_part
  terms_said k (tree.Literal n) is short = within (one (i.Num n)) 5 5 0 1 (said_one (i.Num n) 5 (omega arith) (literal_spelled n is)) (omega arith) (omega arith)
  terms_said k (tree.Variable v) is short = within (one (i.Var v)) 2 5 0 1 (said_one (i.Var v) 2 (omega arith) (refl, refl)) (omega arith) (omega arith)
  terms_said k (tree.PropertyOf p o) is short =
      within (these (object_code o ++ i.Prop p ∷ [])) _ _ _ _ (said_with_one k o (i.Prop p) is.1 (refl, refl)) (omega arith) (omega arith)
  terms_said k (tree.CountOf d) is short =
      within (testing (i.Count k) (test_code k d)) 4 _ 1 _
      (said_testing (i.Count k) (test_code k d) 4 (λ t. omega arith) (λ t low. (and_from (nat_lt t 65536 && true) true (two_spelled t low) refl, refl))
      (test_said z k d counted.objects is (omega (arith, short)))) (omega arith) (omega arith)
  terms_said k tree.TurnCount is short = within (one i.Turns) 1 10 0 2 (said_one i.Turns 1 (omega arith) (refl, refl)) (omega arith) (omega arith)
  terms_said k (tree.Plus a b) are short = joined_said k a b i.Add (omega arith) (refl, refl) (terms_said k a are.0 (omega (arith, short))) (terms_said k b are.1 (omega (arith, short)))
  terms_said k (tree.Minus a b) are short = joined_said k a b i.Sub (omega arith) (refl, refl) (terms_said k a are.0 (omega (arith, short))) (terms_said k b are.1 (omega (arith, short)))
  terms_said k (tree.Times a b) are short = joined_said k a b i.Mul (omega arith) (refl, refl) (terms_said k a are.0 (omega (arith, short))) (terms_said k b are.1 (omega (arith, short)))

  -- ---- conditions

  -- numbers that are compared by so many words
  compared_said : (k : ℕ) (a b : Number) (x : Instruction) (words : ℕ) → 1 ≤ words → size_of x ≤ 1 → CanSpell (x ∷ []) → NumbersAreSayable z k a b → words_of_number a + words + words_of_number b ≤ 500
      → IsSaid (seq (number_part k a) (seq (number_part k b) (one x))) (105 * (words_of_number a + words + words_of_number b)) (words_of_number a + words + words_of_number b)
  compared_said k a b x words some size is are short =
      within (seq (number_part k a) (seq (number_part k b) (one x))) _ _ _ _
      (said_two_numbers k a b x size is (terms_said k a are.0.1 (omega (arith, short))) (terms_said k b are.1.1 (omega (arith, short))))
      (omega (arith, some)) (omega (arith, some))

  described_said : (k : ℕ) (o : List Instruction) (d : Description) (words : ℕ) → CanSpell o → sizes o ≤ 5 * words → DescriptionIsSayable z k d
      → IsSaid (these (description_code o d)) (105 * (words + words_of_description d) + 7) 0
  described_said k o d words is size are =
      said_these (description_code o d) (105 * (words + words_of_description d) + 7) (omega (arith, description_size z o k d are, size)) (description_spelled o is z k d counted.objects are)

  held_is : (k : ℕ) (o : Object) (r : Rel) (holder : Object) → ObjectIsSayable z k o → ObjectIsSayable z k holder → CanSpell (held_code (object_code o) r (object_code holder))
  held_is k o r holder is are = spell_three (object_code o) (object_code holder) (i.Held r) (object_is k o is) (object_is k holder are) (refl, refl)

  has_said : (k : ℕ) (holder o : Object) → ObjectsAreSayable z k holder o → ConditionIsSaid k (tree.Has holder o)
  unfolding condition_part
  has_said k holder o are =
      let a = held_code (object_code o) Carried (object_code holder) in
      let b = held_code (object_code o) Worn (object_code holder) in
      within (these (a ++ b ++ i.Or ∷ [])) (10 * words_of_object o + 10 * words_of_object holder + 5) _ 0 _
      (said_these (a ++ b ++ i.Or ∷ []) (10 * words_of_object o + 10 * words_of_object holder + 5)
      (omega (arith, size_of_three a b i.Or, size_of_three (object_code o) (object_code holder) (i.Held Carried), size_of_three (object_code o) (object_code holder) (i.Held Worn), object_size o, object_size holder))
      (spell_three a b i.Or (held_is k o Carried holder are.1 are.0) (held_is k o Worn holder are.1 are.0) (refl, refl))) (omega arith) (omega arith)

  conditions_said : (k : ℕ) (a b : Condition) (x : Instruction) → size_of x ≤ 1 → CanSpell (x ∷ []) → ConditionIsSaid k a → ConditionIsSaid k b
      → IsSaid (seq (condition_part k a) (seq (condition_part k b) (one x))) (105 * (words_of_condition a + 1 + words_of_condition b)) (words_of_condition a + 1 + words_of_condition b)
  conditions_said k a b x size is r s =
      let m = words_of_condition a in
      let n = words_of_condition b in
      within (seq (condition_part k a) (seq (condition_part k b) (one x))) (105 * m + (105 * n + 1)) (105 * (m + 1 + n)) (m + (n + 0)) (m + 1 + n)
      (said_seq (condition_part k a) (seq (condition_part k b) (one x)) (105 * m) (105 * n + 1) m (n + 0) r (said_seq (condition_part k b) (one x) (105 * n) 1 n 0 s (said_one x 1 size is)))
      (omega arith) (omega arith)

  clauses_said : (k : ℕ) (c : Condition) → ClausesAreSayable z k c → words_of_condition c ≤ 500 → ConditionIsSaid k c
  unfolding condition_part
  clauses_said k (tree.IsSo o a) are short =
      let bytes = 10 * words_of_object o + 12 * words_of_adjective a in
      within (these (adjective_code (object_code o) a)) bytes _ 0 _
      (said_these (adjective_code (object_code o) a) bytes (omega (arith, adjective_size z (object_code o) a are.1, object_size o)) (adjective_spelled (object_code o) (object_is k o are.0) a))
      (omega arith) (omega arith)
  clauses_said k (tree.IsOne o d) are short =
      within (these (description_code (object_code o) d)) _ _ 0 _ (described_said k (object_code o) d (words_of_object o) (object_is k o are.0) (object_size o) are.1) (omega arith) (omega arith)
  clauses_said k (tree.IsSame a b) are short =
      within (these (object_code a ++ object_code b ++ i.Eq ∷ [])) _ _ 0 _ (said_with_two k a b i.Eq are (refl, refl)) (omega arith) (omega arith)
  clauses_said k (tree.IsHeld o r holder) are short =
      within (these (held_code (object_code o) r (object_code holder))) _ _ 0 _ (said_with_two k o holder (i.Held r) are (refl, refl)) (omega arith) (omega arith)
  clauses_said k (tree.IsHeldByOne o r d) are short =
      let holder = object_code o ++ i.Holder r ∷ [] in
      within (these (description_code holder d)) _ _ 0 _
      (described_said k holder d (words_of_object o + 1) (spell_both (object_code o) (i.Holder r ∷ []) (object_is k o are.0) (refl, refl))
      (omega (arith, sizes_append (object_code o) (i.Holder r ∷ []), object_size o)) are.1) (omega arith) (omega arith)
  clauses_said k (tree.Has holder o) are short = has_said k holder o are
  clauses_said k (tree.Encloses holder o) are short =
      within (these (object_code holder ++ object_code o ++ i.Encloses ∷ [])) _ _ 0 _ (said_with_two k holder o i.Encloses are (refl, refl)) (omega arith) (omega arith)
  clauses_said k (tree.HasDescription o) are short =
      within (these (object_code o ++ i.HasDescription ∷ [])) _ _ 0 _ (said_with_one k o i.HasDescription are (refl, refl)) (omega arith) (omega arith)
  clauses_said k (tree.Equals a b) are short = compared_said k a b i.Eq 1 (omega arith) (omega arith) (refl, refl) are short
  clauses_said k (tree.IsLess a b) are short = compared_said k a b i.Less 3 (omega arith) (omega arith) (refl, refl) are short
  clauses_said k (tree.IsAtMost a b) are short = compared_said k a b i.AtMost 3 (omega arith) (omega arith) (refl, refl) are short
  clauses_said k (tree.Happens scene) are short = within (one (i.Happens scene)) 2 _ 0 _ (said_one (i.Happens scene) 2 (omega arith) (refl, refl)) (omega arith) (omega arith)
  clauses_said k tree.InDarkness are short = within (one i.Dark) 1 _ 0 _ (said_one i.Dark 1 (omega arith) (refl, refl)) (omega arith) (omega arith)
  clauses_said k (tree.Not a) are short =
      within (seq (condition_part k a) (one i.Not)) _ _ _ _
      (said_seq (condition_part k a) (one i.Not) _ 1 _ 0 (clauses_said k a are (omega (arith, short))) (said_one i.Not 1 (omega arith) (refl, refl))) (omega arith) (omega arith)
  clauses_said k (tree.And a b) are short =
      conditions_said k a b i.And (omega arith) (refl, refl) (clauses_said k a are.0 (omega (arith, short))) (clauses_said k b are.1 (omega (arith, short)))
  clauses_said k (tree.Or a b) are short =
      conditions_said k a b i.Or (omega arith) (refl, refl) (clauses_said k a are.0 (omega (arith, short))) (clauses_said k b are.1 (omega (arith, short)))

  pub condition_said : (k : ℕ) (c : Condition) → ConditionIsSayable z k c → words_of_condition c ≤ 500 → ConditionIsSaid k c
  condition_said k c is short = clauses_said k c is.1 short
