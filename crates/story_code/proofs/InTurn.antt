-- Tests that codes one behind the other name in turn.
use Rattle.std.proofs.Common.{◌≡◌, subst, refl, ℕ, ◌+◌, List, [], ◌∷◌, ◌++◌, length, length-append, Option, None, Some, arith}
use Rattle.play_meaning.specs.declared.instruction.Instruction.{Instruction}
use Rattle.play_meaning.specs.declared.operand.Counts.{Counts}
use Rattle.story_code.specs.Runs.{test_named}
use Rattle.story_code.specs.SoundlyEmitted.{AreNumbered, IsSoundTest, NameInTurn, NamesNext, NamesNone}

module _ (z : Counts) where
  none_first : (b : List Instruction) (n : ℕ) (first later : List (List Instruction)) → first ≡ [] → NameInTurn (IsSoundTest z) b (n + length first) later
      → NameInTurn (IsSoundTest z) b n (first ++ later)
  none_first b n [] later none names = let e : n + 0 ≡ n = omega arith in subst (λ m. NameInTurn (IsSoundTest z) b m later) e names
  none_first b n (test ∷ first) later none names = let no : ⊥ = cc in absurd no

  pub names-append : (a b : List Instruction) (n : ℕ) (first later : List (List Instruction)) → NameInTurn (IsSoundTest z) a n first
      → NameInTurn (IsSoundTest z) b (n + length first) later → NameInTurn (IsSoundTest z) (a ++ b) n (first ++ later)
  names-append [] b n first later none names = none_first b n first later none names
  names-append (i ∷ is) b n first later these names = next (λ m front. names-append is b m front later) (test_named i) first these names
    where
      next : ((m : ℕ) (front : List (List Instruction)) → NameInTurn (IsSoundTest z) is m front → NameInTurn (IsSoundTest z) b (m + length front) later
          → NameInTurn (IsSoundTest z) (is ++ b) m (front ++ later))
          → (named : Option (ℕ × ℕ)) (first : List (List Instruction)) → NamesNext (IsSoundTest z) (λ m more. NameInTurn (IsSoundTest z) is m more) n named first
          → NameInTurn (IsSoundTest z) b (n + length first) later
          → NamesNext (IsSoundTest z) (λ m more. NameInTurn (IsSoundTest z) (is ++ b) m more) n named (first ++ later)
      next more None first these names = more n first these names
      next more (Some named) [] these names = absurd these
      next more (Some named) (test ∷ first) these names =
          let e : n + length (test ∷ first) ≡ n + 1 + length first = omega arith in
          (these.0, (these.1.0, more (n + 1) first these.1.1 (subst (λ m. NameInTurn (IsSoundTest z) b m later) e names)))

  -- an instruction that names none
  pub names_none : (i : Instruction) (n : ℕ) → test_named i ≡ None → NameInTurn (IsSoundTest z) (i ∷ []) n []
  names_none i n none = subst (λ named. NamesNext (IsSoundTest z) (λ m more. NameInTurn (IsSoundTest z) [] m more) n named []) none' refl
    where
      none' : None ≡ test_named i
      none' = let e : None ≡ test_named i = cc in e

  pub numbered_first : (n : ℕ) (first later : List (List Instruction)) → AreNumbered z n (first ++ later) → AreNumbered z n first
  numbered_first n first later all = record { behind = all.behind; there = omega (arith, all.there, length-append first later) }

  pub numbered_later : (n : ℕ) (first later : List (List Instruction)) → AreNumbered z n (first ++ later) → AreNumbered z (n + length first) later
  numbered_later n first later all = record { behind = omega (arith, all.behind); there = omega (arith, all.there, length-append first later) }

-- a code that names nothing in turn names no test
pub none_in_turn : {A : Type 0} (is_test : ℕ → ℕ → A → Type 0) (is : List Instruction) (n : ℕ) → NameInTurn is_test is n [] → NamesNone is
none_in_turn is_test [] n names = tt
none_in_turn {A = A} is_test (i ∷ is) n names = by_name (test_named i) refl names (none_in_turn is_test is n)
  where
    by_name : (named : Option (ℕ × ℕ)) → test_named i ≡ named → NamesNext is_test (λ m (more : List A). NameInTurn is_test is m more) n named []
        → (NameInTurn is_test is n [] → NamesNone is) → NamesNone (i ∷ is)
    by_name None e names later = (e, later names)
    by_name (Some named) e names later = absurd names
