-- The codes of numbers and conditions do what these mean.
use Rattle.std.proofs.Common.{◌≡◌, ◌∙◌, ap, ℕ, ◌+◌, ◌<◌, ◌≤◌, ◌==◌, ◌⊎◌, inl, inr, Bool, not, ◌&&◌, ◌||◌, List, [], ◌∷◌, ◌++◌, length, refl, Option, Some, None, Ok, Err, ℤ, pos, ◌+ℤ◌, ◌-ℤ◌, ◌*ℤ◌, arith}
use Rattle.std.specs.Prelude.{int_le, int_lt}
use Rattle.std.specs.List.{list_any}
use Rattle.std.specs.Ordering.{int_eq}
use Rattle.std.proofs.lemmas.Bool.{cases_lt, eq-eqb, le-ltb, lt-ltb, ne_eqb}
use Rattle.play_meaning.specs.Attempts.{Attempt, next}
use Rattle.world_meaning.specs.declared.place.Rel.{Rel}
use Rattle.world_meaning.specs.declared.place.Rel.TheVariants.{Carried, Worn}
use Rattle.play_meaning.specs.Instructions as code
use Rattle.play_meaning.specs.Instructions.{Instruction, size_of, sizes}
use Rattle.play_meaning.specs.Machines.{Frame, Goes, does, holder_by, object_at, object_number, truth_number, unless_abandoned}
use Rattle.play_meaning.specs.Progress.{Progress}
use Rattle.play_meaning.specs.Scoping.{ConditionIsWithin, NumberIsWithin}
use Rattle.play_meaning.specs.Seeing.{encloses, is_same}
use Rattle.play_meaning.specs.Translation.{condition_part, description_code, number_part, object_code, one, seq}
use Rattle.play_meaning.specs.Trees as tree
use Rattle.play_meaning.specs.Trees.{Condition, Description, Number}
use Rattle.play_meaning.specs.Truth.{has_thing, of_both, of_some, truth_in}
use Rattle.play_meaning.specs.Values.{in_range, is_held, is_one, number_at, number_in, those}
use Rattle.play_meaning.specs.Worlds.{World, place_of, variable_of}
use Rattle.play_meaning.proofs.Asking.{HasTests, held_at, on_top, same, tests_back, tests_front, then_value, those_pass, two_values}
use Rattle.play_meaning.proofs.Standing.{HasAt, has_back, has_front}
use Rattle.play_meaning.proofs.Straight.{Gives, GivesObject, St, adjective_gives, alike, alike_truth, asks_object, both_are, description_gives, held_gives, object_back, object_gives, object_here, one_gives, one_is, one_object, open_loops, scope_in, step_of, truth_back, two_objects, two_truths}

same_numbers : (m n : ℕ) → int_eq (pos m) (pos n) ≡ (m == n)
same_numbers m n = by_order (cases_lt m n) (cases_lt n m)
  where
    by_order : (m < n) ⊎ (n ≤ m) → (n < m) ⊎ (m ≤ n) → int_eq (pos m) (pos n) ≡ (m == n)
    by_order (inl less) other = rw (lt-ltb m n less, ne_eqb m n (λ e. omega (arith, less, e))) refl
    by_order (inr more) (inl less) = rw (le-ltb m n more, lt-ltb n m less, ne_eqb m n (λ e. omega (arith, less, e))) refl
    by_order (inr more) (inr less) = rw (le-ltb m n more, le-ltb n m less, eq-eqb m n (omega (arith, more, less))) refl

module _ (f : Frame) (c : List Instruction) (turning : List ℕ) (p : Progress) where
  abbrev k : ℕ
  k = length turning

  abbrev number_here : Number → Attempt ℤ
  number_here n = number_in f.telling.setting (scope_in f turning) p.world n

  -- what the code of a number does, wherever it stands
  abbrev NumberGives : Number → Type 0
  NumberGives n = (t q : ℕ) (xs : List ℤ) → NumberIsWithin k n → HasTests f t (number_part k n t q).tests → HasAt c q (number_part k n t q).code
      → Gives f c turning p q (number_part k n t q).code xs (on_top same xs (number_here n))

  -- two numbers, and an instruction that takes both
  two_numbers : {B : Type 0} (shows : B → ℤ) (i : Instruction) (h : ℤ → ℤ → Attempt B) (a b : Number) → NumberGives a → NumberGives b
      → ((r : ℕ) (x y : ℤ) (rest : List ℤ) → does f (St r (y ∷ x ∷ rest) (open_loops turning) p) i ≡ unless_abandoned (h x y) (λ v. Goes (St (r + size_of i) (shows v ∷ rest) (open_loops turning) p)))
      → (t q : ℕ) (xs : List ℤ) → NumberIsWithin k a × NumberIsWithin k b → HasTests f t (seq (number_part k a) (seq (number_part k b) (one i)) t q).tests
      → HasAt c q (seq (number_part k a) (seq (number_part k b) (one i)) t q).code
      → Gives f c turning p q (seq (number_part k a) (seq (number_part k b) (one i)) t q).code xs (on_top shows xs (next (number_here a) (λ x. next (number_here b) (λ y. h x y))))
  unfolding seq
  two_numbers {B = B} shows i h a b ga gb is t q xs within tests has =
      let ca = (number_part k a t q).code in
      let ta = (number_part k a t q).tests in
      let cb = (number_part k b (t + length ta) (q + sizes ca)).code in
      let tb = (number_part k b (t + length ta) (q + sizes ca)).tests in
      let behind = has_back c q ca (cb ++ i ∷ []) has in
      two_values f c turning p same shows q ca cb i xs (number_here a) (number_here b) h (has_back c (q + sizes ca) cb (i ∷ []) behind)
      (ga t q xs within.0 (tests_front f t ta (tb ++ []) tests) (has_front c q ca (cb ++ i ∷ []) has))
      (λ x. gb (t + length ta) (q + sizes ca) (x ∷ xs) within.1 (tests_front f (t + length ta) tb [] (tests_back f t ta (tb ++ []) tests)) (has_front c (q + sizes ca) cb (i ∷ []) behind))
      (λ r x y. is r x y xs ∙ stepped r (h x y))
    where
      stepped : (r : ℕ) (v : Attempt B)
          → unless_abandoned v (λ n. Goes (St (r + size_of i) (shows n ∷ xs) (open_loops turning) p))
          ≡ step_of (next (next v (λ n. Ok (shows n ∷ xs))) (λ ys. Ok (St (r + size_of i) ys (open_loops turning) p)))
      stepped r (Ok n) = refl
      stepped r (Err reason) = refl

  pub number_gives : (n : Number) → NumberGives n
  unfolding number_part number_in does
  number_gives (tree.Literal n) t q xs within tests has = one_gives f c turning p q (code.Num n) xs (n ∷ xs) has refl
  number_gives (tree.Variable v) t q xs within tests has = one_gives f c turning p q (code.Var v) xs (variable_of p.world v ∷ xs) has refl
  number_gives (tree.PropertyOf n o) t q xs within tests has =
      one_object f c turning p (object_code o) (code.Prop n) (object_here f turning p o)
      (number_at f.telling.setting p.world n (object_here f turning p o)) (object_gives f c turning p o)
      (λ r ys. ap (λ v. Goes (St (r + 2) (number_at f.telling.setting p.world n v ∷ ys) (open_loops turning) p)) (object_back (object_here f turning p o))) q xs has
  number_gives (tree.CountOf d) t q xs within tests has =
      one_gives f c turning p q (code.Count k t) xs (pos (length (those f.telling.setting (scope_in f turning) p.world d)) ∷ xs) has
      (ap (λ objects. unless_abandoned objects (λ os. Goes (St (q + 4) (pos (length os) ∷ xs) (open_loops turning) p))) (those_pass f t d turning q xs p within tests.0))
  number_gives tree.TurnCount t q xs within tests has = one_gives f c turning p q code.Turns xs (pos p.world.turns ∷ xs) has refl
  number_gives (tree.Plus a b) t q xs within tests has = two_numbers same code.Add (λ x y. in_range (x +ℤ y)) a b (number_gives a) (number_gives b)
      (λ r x y rest. refl) t q xs within tests has
  number_gives (tree.Minus a b) t q xs within tests has = two_numbers same code.Sub (λ x y. in_range (x -ℤ y)) a b (number_gives a) (number_gives b)
      (λ r x y rest. refl) t q xs within tests has
  number_gives (tree.Times a b) t q xs within tests has = two_numbers same code.Mul (λ x y. in_range (x *ℤ y)) a b (number_gives a) (number_gives b)
      (λ r x y rest. refl) t q xs within tests has

  -- ---- conditions

  abbrev truth_here : Condition → Attempt Bool
  truth_here condition = truth_in f.telling.setting (scope_in f turning) p.world condition

  abbrev ConditionGives : Condition → Type 0
  ConditionGives condition = (t q : ℕ) (xs : List ℤ) → ConditionIsWithin k condition → HasTests f t (condition_part k condition t q).tests
      → HasAt c q (condition_part k condition t q).code
      → Gives f c turning p q (condition_part k condition t q).code xs (on_top truth_number xs (truth_here condition))

  same_objects : (a b : Option ℕ) → int_eq (object_number a) (object_number b) ≡ is_same a b
  same_objects None None = refl
  same_objects None (Some n) = refl
  same_objects (Some m) None = refl
  same_objects (Some m) (Some n) = same_numbers m n

  has_either : (w : World) (holder o : Option ℕ) → (of_some o (is_held w Carried holder) || of_some o (is_held w Worn holder)) ≡ of_both holder o (has_thing w)
  has_either w None None = refl
  has_either w None (Some o) = refl
  has_either w (Some h) None = refl
  has_either w (Some h) (Some o) = refl

  held_by_those : (o : Option ℕ) (r : Rel) (d : Description) → of_some (holder_by f.telling.setting p.world r o) (is_one f.telling.setting (scope_in f turning) p.world d)
      ≡ of_some o (λ n. list_any (λ holder. is_held p.world r (Some holder) n) (those f.telling.setting (scope_in f turning) p.world d))
  unfolding those
  held_by_those None r d = refl
  held_by_those (Some o) r d = held_at f.telling.setting r (is_one f.telling.setting (scope_in f turning) p.world d) (place_of p.world o)

  holder_gives : (ca : List Instruction) (r : Rel) (v : Option ℕ) → GivesObject f c turning p ca v
      → GivesObject f c turning p (ca ++ code.Holder r ∷ []) (holder_by f.telling.setting p.world r v)
  unfolding does
  holder_gives ca r v gives =
      one_object f c turning p ca (code.Holder r) v (object_number (holder_by f.telling.setting p.world r v)) gives
      (λ q xs. ap (λ o. Goes (St (q + 2) (object_number (holder_by f.telling.setting p.world r o) ∷ xs) (open_loops turning) p)) (object_back v))

  negated : (condition : Condition) → ConditionGives condition → ConditionGives (tree.Not condition)
  unfolding condition_part truth_in seq does
  negated condition gives t q xs within tests has =
      let cc = (condition_part k condition t q).code in
      alike f c (open_loops turning) p q (cc ++ code.Not ∷ []) xs _ _ (after (truth_here condition))
      (then_value f c turning p truth_number q cc (code.Not ∷ []) xs (truth_here condition) (λ b. Ok (truth_number (not b) ∷ xs))
      (gives t q xs within (tests_front f t (condition_part k condition t q).tests [] tests) (has_front c q cc (code.Not ∷ []) has))
      (λ b. one_gives f c turning p (q + sizes cc) code.Not (truth_number b ∷ xs) (truth_number (not b) ∷ xs) (has_back c q cc (code.Not ∷ []) has)
      (ap (λ v. Goes (St (q + sizes cc + 1) (truth_number (not v) ∷ xs) (open_loops turning) p)) (truth_back b))))
    where
      after : (a : Attempt Bool) → next a (λ b. Ok (truth_number (not b) ∷ xs)) ≡ on_top truth_number xs (next a (λ x. Ok (not x)))
      after (Ok b) = refl
      after (Err reason) = refl

  -- two conditions, and what joins them
  both_conditions : (i : Instruction) (join : Bool → Bool → Bool) (a b : Condition) → ConditionGives a → ConditionGives b
      → ((x y : Bool) (r : ℕ) (rest : List ℤ) → does f (St r (truth_number y ∷ truth_number x ∷ rest) (open_loops turning) p) i ≡ Goes (St (r + size_of i) (truth_number (join x y) ∷ rest) (open_loops turning) p))
      → (t q : ℕ) (xs : List ℤ) → ConditionIsWithin k a × ConditionIsWithin k b → HasTests f t (seq (condition_part k a) (seq (condition_part k b) (one i)) t q).tests
      → HasAt c q (seq (condition_part k a) (seq (condition_part k b) (one i)) t q).code
      → Gives f c turning p q (seq (condition_part k a) (seq (condition_part k b) (one i)) t q).code xs
      (on_top truth_number xs (next (truth_here a) (λ x. next (truth_here b) (λ y. Ok (join x y)))))
  unfolding seq
  both_conditions i join a b ga gb is t q xs within tests has =
      let ca = (condition_part k a t q).code in
      let ta = (condition_part k a t q).tests in
      let cb = (condition_part k b (t + length ta) (q + sizes ca)).code in
      let tb = (condition_part k b (t + length ta) (q + sizes ca)).tests in
      let behind = has_back c q ca (cb ++ i ∷ []) has in
      two_values f c turning p truth_number truth_number q ca cb i xs (truth_here a) (truth_here b) (λ x y. Ok (join x y)) (has_back c (q + sizes ca) cb (i ∷ []) behind)
      (ga t q xs within.0 (tests_front f t ta (tb ++ []) tests) (has_front c q ca (cb ++ i ∷ []) has))
      (λ x. gb (t + length ta) (q + sizes ca) (truth_number x ∷ xs) within.1 (tests_front f (t + length ta) tb [] (tests_back f t ta (tb ++ []) tests)) (has_front c (q + sizes ca) cb (i ∷ []) behind))
      (λ r x y. is x y r xs)

  pub condition_gives : (condition : Condition) → ConditionGives condition
  unfolding condition_part truth_in does
  condition_gives (tree.IsSo o adjective) t q xs within tests has = adjective_gives f c turning p adjective (object_code o)
      (object_here f turning p o) (object_gives f c turning p o) q xs has
  condition_gives (tree.IsOne o d) t q xs within tests has = description_gives f c turning p d (object_code o) (object_here f turning p o) (object_gives f c turning p o) q xs has
  condition_gives (tree.IsSame a b) t q xs within tests has =
      two_objects f c turning p (object_code a) (object_code b) code.Eq (object_here f turning p a) (object_here f turning p b)
      (truth_number (is_same (object_here f turning p a) (object_here f turning p b)))
      (object_gives f c turning p a) (object_gives f c turning p b)
      (λ r ys. ap (λ v. Goes (St (r + 1) (truth_number v ∷ ys) (open_loops turning) p)) (same_objects (object_here f turning p a) (object_here f turning p b))) q xs has
  condition_gives (tree.IsHeld o r holder) t q xs within tests has =
      held_gives f c turning p r (object_code o) (object_code holder) (object_here f turning p o) (object_here f turning p holder)
      (object_gives f c turning p o) (object_gives f c turning p holder) q xs has
  condition_gives (tree.IsHeldByOne o r d) t q xs within tests has =
      alike_truth f c turning p (description_code (object_code o ++ code.Holder r ∷ []) d) _ _ (held_by_those (object_here f turning p o) r d)
      (description_gives f c turning p d (object_code o ++ code.Holder r ∷ []) (holder_by f.telling.setting p.world r (object_here f turning p o)) (holder_gives (object_code o) r (object_here f turning p o) (object_gives f c turning p o))) q xs has
  condition_gives (tree.Has holder o) t q xs within tests has =
      alike_truth f c turning p _ _ _ (has_either p.world (object_here f turning p holder) (object_here f turning p o))
      (two_truths f c turning p (object_code o ++ object_code holder ++ code.Held Carried ∷ []) (object_code o ++ object_code holder ++ code.Held Worn ∷ []) code.Or _ _ _
      (held_gives f c turning p Carried (object_code o) (object_code holder) (object_here f turning p o) (object_here f turning p holder) (object_gives f c turning p o) (object_gives f c turning p holder))
      (held_gives f c turning p Worn (object_code o) (object_code holder) (object_here f turning p o) (object_here f turning p holder) (object_gives f c turning p o) (object_gives f c turning p holder))
      (one_is f c turning p _ _)) q xs has
  condition_gives (tree.Encloses holder o) t q xs within tests has =
      two_objects f c turning p (object_code holder) (object_code o) code.Encloses (object_here f turning p holder) (object_here f turning p o)
      (truth_number (of_both (object_here f turning p holder) (object_here f turning p o) (encloses p.world)))
      (object_gives f c turning p holder) (object_gives f c turning p o)
      (λ r ys. ap (λ v. Goes (St (r + 1) (truth_number (of_both v (object_at (object_number (object_here f turning p o))) (encloses p.world)) ∷ ys) (open_loops turning) p)) (object_back (object_here f turning p holder))
      ∙ ap (λ v. Goes (St (r + 1) (truth_number (of_both (object_here f turning p holder) v (encloses p.world)) ∷ ys) (open_loops turning) p))
      (object_back (object_here f turning p o))) q xs has
  condition_gives (tree.HasDescription o) t q xs within tests has =
      asks_object f c turning p (object_code o) code.HasDescription (object_here f turning p o) f.telling.setting.has_description
      (object_gives f c turning p o) (λ r ys n. refl) q xs has
  condition_gives (tree.Equals a b) t q xs within tests has = two_numbers truth_number code.Eq (λ x y. Ok (int_eq x y)) a b (number_gives a)
      (number_gives b) (λ r x y rest. refl) t q xs within tests has
  condition_gives (tree.IsLess a b) t q xs within tests has = two_numbers truth_number code.Less (λ x y. Ok (int_lt x y)) a b (number_gives a)
      (number_gives b) (λ r x y rest. refl) t q xs within tests has
  condition_gives (tree.IsAtMost a b) t q xs within tests has = two_numbers truth_number code.AtMost (λ x y. Ok (int_le x y)) a b (number_gives a)
      (number_gives b) (λ r x y rest. refl) t q xs within tests has
  condition_gives (tree.Happens scene) t q xs within tests has = one_gives f c turning p q (code.Happens scene) xs _ has refl
  condition_gives tree.InDarkness t q xs within tests has = one_gives f c turning p q code.Dark xs _ has refl
  condition_gives (tree.Not a) t q xs within tests has = negated a (condition_gives a) t q xs within tests has
  condition_gives (tree.And a b) t q xs within tests has = both_conditions code.And (λ x y. x && y) a b (condition_gives a) (condition_gives b)
      (λ x y r rest. both_are f c turning p x y r rest) t q xs within tests has
  condition_gives (tree.Or a b) t q xs within tests has = both_conditions code.Or (λ x y. x || y) a b (condition_gives a) (condition_gives b)
      (λ x y r rest. one_is f c turning p x y r rest) t q xs within tests has
