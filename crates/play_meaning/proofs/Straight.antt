-- What codes without ways do: objects, descriptions and the tests of descriptions.
use Rattle.std.proofs.Common.{◌≡◌, ◌∙◌, ap, subst, ℕ, zero, suc, ◌+◌, ◌-◌, ◌<◌, Bool, true, false, not, ◌&&◌, ◌||◌, List, [], ◌∷◌, ◌++◌, length, map, length-append, refl, Option, Some, None, Ok, Err, ℤ, pos, negsuc, arith}
use Rattle.std.specs.Prelude.{slice_get, slice_index_or}
use Rattle.std.specs.List.{list_all}
use Rattle.std.specs.Ordering.{int_eq}
use Rattle.play_meaning.specs.Attempts.{Attempt, next}
use Rattle.world_meaning.specs.declared.place.Rel.{Rel}
use Rattle.play_meaning.specs.Codes.{answered, start_at}
use Rattle.play_meaning.specs.Instructions as code
use Rattle.play_meaning.specs.Instructions.{Instruction, at_place, size_of, sizes}
use Rattle.play_meaning.specs.Machines.{Abandons, Answers, Frame, Goes, State, Step, does, does_at, goes_further, is_true, object_at, object_number, run, truth_number}
use Rattle.play_meaning.specs.Progress.{Progress, fresh}
use Rattle.play_meaning.specs.Scoping.{DescriptionIsWithin, ObjectIsWithin}
use Rattle.play_meaning.specs.Translation.{adjective_code, adjectives_code, and_code, asked_of, description_code, is_there_code, kind_code, object_code, test_code}
use Rattle.play_meaning.specs.Trees as tree
use Rattle.play_meaning.specs.Trees.{Adjective, Description, First, NotSo, Object, Quality, Second, Touchable, Valued, Visible}
use Rattle.play_meaning.specs.Truth.{of_some}
use Rattle.play_meaning.specs.Values.{Scope, beyond, is_among, is_held, is_one, is_so, object_in}
use Rattle.play_meaning.specs.Worlds.{World, location_of}
use Rattle.play_meaning.proofs.Standing.{HasAt, has_all, has_back, has_front, length-sizes, sizes-append}

-- the objects of open loops
abbrev pub open_loops : List ℕ → List (Option ℕ)
open_loops turning = map (λ o. Some o) turning

abbrev pub St : ℕ → List ℤ → List (Option ℕ) → Progress → State
St q xs ls p = record { place = q; operands = xs; loops = ls; progress = p }

abbrev pub step_of : Attempt State → Step
step_of (Ok s) = Goes s
step_of (Err reason) = Abandons reason

module _ (f : Frame) (c : List Instruction) where
  -- what comes of so many instructions from a state on, if play comes to it
  abbrev pub from : ℕ → Attempt State → Step
  from k (Ok s) = run f c k s
  from k (Err reason) = Abandons reason

  further : (k : ℕ) (a : Attempt State) → goes_further (run f c k) (step_of a) ≡ from k a
  further k (Ok s) = refl
  further k (Err reason) = refl

  pub next_is : (s : State) (i : Instruction) (a : Attempt State) (k : ℕ) → at_place c s.place ≡ Some i → does f s i ≡ step_of a → run f c (suc k) s ≡ from k a
  unfolding run
  next_is s i a k at is = ap (λ o. goes_further (run f c k) (does_at f s o)) at ∙ (ap (goes_further (run f c k)) is ∙ further k a)

  module _ (ls : List (Option ℕ)) (p : Progress) where
    -- instructions one behind the other take these operands to those, or play is abandoned
    abbrev pub Leads : ℕ → List Instruction → List ℤ → Attempt (List ℤ) → Type 0
    Leads q is xs a = (k : ℕ) → run f c (length is + k) (St q xs ls p) ≡ from k (next a (λ ys. Ok (St (q + sizes is) ys ls p)))

    pub alike : (q : ℕ) (is : List Instruction) (xs : List ℤ) (a b : Attempt (List ℤ)) → a ≡ b → Leads q is xs a → Leads q is xs b
    alike q is xs a b e leads k = leads k ∙ ap (λ t. from k (next t (λ ys. Ok (St (q + sizes is) ys ls p)))) e

    one_leads_on : (q r : ℕ) (a : Attempt (List ℤ)) → q ≡ r → (k : ℕ) → from k (next a (λ ys. Ok (St q ys ls p))) ≡ from k (next a (λ ys. Ok (St r ys ls p)))
    one_leads_on q r a e k = ap (λ n. from k (next a (λ ys. Ok (St n ys ls p)))) e

    pub one_leads : (q : ℕ) (i : Instruction) (xs : List ℤ) (a : Attempt (List ℤ)) → HasAt c q (i ∷ [])
        → does f (St q xs ls p) i ≡ step_of (next a (λ ys. Ok (St (q + size_of i) ys ls p))) → Leads q (i ∷ []) xs a
    one_leads q i xs a has is k =
        let count : length (i ∷ []) + k ≡ suc k = omega arith in
        ap (λ n. run f c n (St q xs ls p)) count ∙ (next_is (St q xs ls p) i (next a (λ ys. Ok (St (q + size_of i) ys ls p))) k has.0 is
        ∙ one_leads_on (q + size_of i) (q + sizes (i ∷ [])) a (omega arith) k)

    behind_leads : (q : ℕ) (is js : List Instruction) (a : Attempt (List ℤ)) (g : List ℤ → Attempt (List ℤ)) → ((ys : List ℤ) → Leads (q + sizes is) js ys (g ys))
        → (k : ℕ) → from (length js + k) (next a (λ ys. Ok (St (q + sizes is) ys ls p))) ≡ from k (next (next a g) (λ ys. Ok (St (q + sizes is + sizes js) ys ls p)))
    behind_leads q is js (Ok ys) g leads k = leads ys k
    behind_leads q is js (Err reason) g leads k = refl

    pub then_leads : (q : ℕ) (is js : List Instruction) (xs : List ℤ) (a : Attempt (List ℤ)) (g : List ℤ → Attempt (List ℤ)) → Leads q is xs a
        → ((ys : List ℤ) → Leads (q + sizes is) js ys (g ys)) → Leads q (is ++ js) xs (next a g)
    then_leads q is js xs a g first second k =
        let count : length (is ++ js) + k ≡ length is + (length js + k) = omega (arith, length-append is js) in
        ap (λ n. run f c n (St q xs ls p)) count ∙ (first (length js + k) ∙ (behind_leads q is js a g second k
        ∙ one_leads_on (q + sizes is + sizes js) (q + sizes (is ++ js)) (next a g) (omega (arith, sizes-append is js)) k))

    -- where the first can't abandon
    pub then_also : (q : ℕ) (is js : List Instruction) (xs ys : List ℤ) (b : Attempt (List ℤ)) → Leads q is xs (Ok ys) → Leads (q + sizes is) js ys b → Leads q (is ++ js) xs b
    then_also q is js xs ys b first second k =
        let count : length (is ++ js) + k ≡ length is + (length js + k) = omega (arith, length-append is js) in
        ap (λ n. run f c n (St q xs ls p)) count
        ∙ (first (length js + k) ∙ (second k ∙ one_leads_on (q + sizes is + sizes js) (q + sizes (is ++ js)) b (omega (arith, sizes-append is js)) k))

-- ---- objects

pub object_back : (o : Option ℕ) → object_at (object_number o) ≡ o
object_back None = refl
object_back (Some o) = refl

pub truth_back : (b : Bool) → is_true (truth_number b) ≡ b
truth_back true = refl
truth_back false = refl

loop_object : (turning : List ℕ) (k : ℕ) → slice_index_or (open_loops turning) k None ≡ slice_get turning k
loop_object [] k = refl
loop_object (o ∷ os) zero = refl
loop_object (o ∷ os) (suc k) = loop_object os k

abbrev pub scope_in : Frame → List ℕ → Scope
scope_in f turning = record { now = f.now; turning = turning }

abbrev pub object_here : Frame → List ℕ → Progress → Object → Option ℕ
object_here f turning p o = object_in f.telling.setting (scope_in f turning) p.world o

module _ (f : Frame) (c : List Instruction) (turning : List ℕ) (p : Progress) where
  abbrev pub Gives : ℕ → List Instruction → List ℤ → Attempt (List ℤ) → Type 0
  Gives q is xs a = Leads f c (open_loops turning) p q is xs a

  -- these instructions put an object on the operands
  abbrev pub GivesObject : List Instruction → Option ℕ → Type 0
  GivesObject is o = (q : ℕ) (xs : List ℤ) → HasAt c q is → Gives q is xs (Ok (object_number o ∷ xs))

  abbrev pub GivesTruth : List Instruction → Bool → Type 0
  GivesTruth is b = (q : ℕ) (xs : List ℤ) → HasAt c q is → Gives q is xs (Ok (truth_number b ∷ xs))

  pub one_gives : (q : ℕ) (i : Instruction) (xs ys : List ℤ) → HasAt c q (i ∷ [])
      → does f (St q xs (open_loops turning) p) i ≡ Goes (St (q + size_of i) ys (open_loops turning) p) → Gives q (i ∷ []) xs (Ok ys)
  one_gives q i xs ys has is = one_leads f c (open_loops turning) p q i xs (Ok ys) has is

  -- no instruction at all
  pub none_gives : (q : ℕ) (xs : List ℤ) → Gives q [] xs (Ok xs)
  none_gives q xs k =
      let count : 0 + k ≡ k = omega arith in
      let place : q ≡ q + 0 = omega arith in
      ap (λ n. run f c n (St q xs (open_loops turning) p)) count ∙ ap (λ n. run f c k (St n xs (open_loops turning) p)) place

  -- two codes that give an object each, and an instruction that takes both
  pub two_objects : (ca cb : List Instruction) (i : Instruction) (a b : Option ℕ) (n : ℤ) → GivesObject ca a → GivesObject cb b
      → ((q : ℕ) (xs : List ℤ) → does f (St q (object_number b ∷ object_number a ∷ xs) (open_loops turning) p) i ≡ Goes (St (q + size_of i) (n ∷ xs) (open_loops turning) p))
      → (q : ℕ) (xs : List ℤ) → HasAt c q (ca ++ cb ++ i ∷ []) → Gives q (ca ++ cb ++ i ∷ []) xs (Ok (n ∷ xs))
  two_objects ca cb i a b n ga gb is q xs has =
      let both = has_front c q (ca ++ cb) (i ∷ []) has in
      then_also f c (open_loops turning) p q (ca ++ cb) (i ∷ []) xs (object_number b ∷ object_number a ∷ xs) (Ok (n ∷ xs))
      (then_also f c (open_loops turning) p q ca cb xs (object_number a ∷ xs) (Ok (object_number b ∷ object_number a ∷ xs)) (ga q xs (has_front c q ca cb both)) (gb (q + sizes ca) (object_number a ∷ xs) (has_back c q ca cb both)))
      (one_gives (q + sizes (ca ++ cb)) i (object_number b ∷ object_number a ∷ xs) (n ∷ xs) (has_back c q (ca ++ cb) (i ∷ []) has) (is (q + sizes (ca ++ cb)) xs))

  -- a code that gives an object, and an instruction that takes it
  pub one_object : (ca : List Instruction) (i : Instruction) (a : Option ℕ) (n : ℤ) → GivesObject ca a
      → ((q : ℕ) (xs : List ℤ) → does f (St q (object_number a ∷ xs) (open_loops turning) p) i ≡ Goes (St (q + size_of i) (n ∷ xs) (open_loops turning) p))
      → (q : ℕ) (xs : List ℤ) → HasAt c q (ca ++ i ∷ []) → Gives q (ca ++ i ∷ []) xs (Ok (n ∷ xs))
  one_object ca i a n ga is q xs has =
      then_also f c (open_loops turning) p q ca (i ∷ []) xs (object_number a ∷ xs) (Ok (n ∷ xs)) (ga q xs (has_front c q ca (i ∷ []) has))
      (one_gives (q + sizes ca) i (object_number a ∷ xs) (n ∷ xs) (has_back c q ca (i ∷ []) has) (is (q + sizes ca) xs))

  pub object_gives : (o : Object) → GivesObject (object_code o) (object_here f turning p o)
  unfolding object_in does
  object_gives (tree.The o) q xs has = one_gives q (code.Num (pos o)) xs (pos o ∷ xs) has refl
  object_gives tree.Noun q xs has = one_gives q code.Noun xs (object_number f.now.noun ∷ xs) has refl
  object_gives tree.SecondNoun q xs has = one_gives q code.Second xs (object_number f.now.second ∷ xs) has refl
  object_gives tree.Location q xs has = one_gives q code.Location xs (object_number (location_of p.world) ∷ xs) has refl
  object_gives tree.Nothing q xs has = one_gives q (code.Num (negsuc 0)) xs (negsuc 0 ∷ xs) has refl
  object_gives (tree.Turning k) q xs has =
      one_gives q (code.Loop k) xs (object_number (slice_get turning k) ∷ xs) has
      (ap (λ o. Goes (St (q + 2) (object_number o ∷ xs) (open_loops turning) p)) (loop_object turning k))
  object_gives (tree.RoomFrom d room) q xs has =
      two_objects (object_code d) (object_code room) code.Room (object_here f turning p d) (object_here f turning p room) _ (object_gives d) (object_gives room)
      (λ q xs. ap (λ o. Goes (St (q + 1) (object_number (beyond f.telling.setting f.telling.setting.room_beyond o (object_at (object_number (object_here f turning p room)))) ∷ xs) (open_loops turning) p)) (object_back (object_here f turning p d))
      ∙ ap (λ o. Goes (St (q + 1) (object_number (beyond f.telling.setting f.telling.setting.room_beyond (object_here f turning p d) o) ∷ xs) (open_loops turning) p))
      (object_back (object_here f turning p room))) q xs has
  object_gives (tree.DoorFrom d room) q xs has =
      two_objects (object_code d) (object_code room) code.Door (object_here f turning p d) (object_here f turning p room) _ (object_gives d) (object_gives room)
      (λ q xs. ap (λ o. Goes (St (q + 1) (object_number (beyond f.telling.setting f.telling.setting.door_beyond o (object_at (object_number (object_here f turning p room)))) ∷ xs) (open_loops turning) p)) (object_back (object_here f turning p d))
      ∙ ap (λ o. Goes (St (q + 1) (object_number (beyond f.telling.setting f.telling.setting.door_beyond (object_here f turning p d) o) ∷ xs) (open_loops turning) p))
      (object_back (object_here f turning p room))) q xs has

  -- ---- truths

  is_object : Option ℕ → Bool
  is_object v = of_some v (λ o. true)

  pub one_truth : (ca : List Instruction) (a : Bool) → GivesTruth ca a → GivesTruth (ca ++ code.Not ∷ []) (not a)
  unfolding does
  one_truth ca a ga q xs has =
      then_also f c (open_loops turning) p q ca (code.Not ∷ []) xs (truth_number a ∷ xs) (Ok (truth_number (not a) ∷ xs)) (ga q xs (has_front c q ca (code.Not ∷ []) has))
      (one_gives (q + sizes ca) code.Not (truth_number a ∷ xs) (truth_number (not a) ∷ xs) (has_back c q ca (code.Not ∷ []) has)
      (ap (λ b. Goes (St (q + sizes ca + 1) (truth_number (not b) ∷ xs) (open_loops turning) p)) (truth_back a)))

  -- both of two truths, or one of them
  pub two_truths : (ca cb : List Instruction) (i : Instruction) (a b n : Bool) → GivesTruth ca a → GivesTruth cb b
      → ((q : ℕ) (xs : List ℤ) → does f (St q (truth_number b ∷ truth_number a ∷ xs) (open_loops turning) p) i ≡ Goes (St (q + size_of i) (truth_number n ∷ xs) (open_loops turning) p))
      → GivesTruth (ca ++ cb ++ i ∷ []) n
  two_truths ca cb i a b n ga gb is q xs has =
      let both = has_front c q (ca ++ cb) (i ∷ []) has in
      then_also f c (open_loops turning) p q (ca ++ cb) (i ∷ []) xs (truth_number b ∷ truth_number a ∷ xs) (Ok (truth_number n ∷ xs))
      (then_also f c (open_loops turning) p q ca cb xs (truth_number a ∷ xs) (Ok (truth_number b ∷ truth_number a ∷ xs)) (ga q xs (has_front c q ca cb both)) (gb (q + sizes ca) (truth_number a ∷ xs) (has_back c q ca cb both)))
      (one_gives (q + sizes (ca ++ cb)) i (truth_number b ∷ truth_number a ∷ xs) (truth_number n ∷ xs) (has_back c q (ca ++ cb) (i ∷ []) has) (is (q + sizes (ca ++ cb)) xs))

  pub both_are : (a b : Bool) (q : ℕ) (xs : List ℤ)
      → does f (St q (truth_number b ∷ truth_number a ∷ xs) (open_loops turning) p) code.And
      ≡ Goes (St (q + 1) (truth_number (a && b) ∷ xs) (open_loops turning) p)
  unfolding does
  both_are a b q xs = rw (truth_back a, truth_back b) refl

  pub one_is : (a b : Bool) (q : ℕ) (xs : List ℤ)
      → does f (St q (truth_number b ∷ truth_number a ∷ xs) (open_loops turning) p) code.Or
      ≡ Goes (St (q + 1) (truth_number (a || b) ∷ xs) (open_loops turning) p)
  unfolding does
  one_is a b q xs = rw (truth_back a, truth_back b) refl

  and_gives : (ca cb : List Instruction) (a b : Bool) → GivesTruth ca a → GivesTruth cb b → GivesTruth (and_code ca cb) (a && b)
  and_gives ca cb a b ga gb = two_truths ca cb code.And a b (a && b) ga gb (both_are a b)

  -- what is asked of one object
  pub asks_object : (ca : List Instruction) (i : Instruction) (v : Option ℕ) (holds : ℕ → Bool) → GivesObject ca v
      → ((q : ℕ) (xs : List ℤ) (o : ℤ) → does f (St q (o ∷ xs) (open_loops turning) p) i ≡ Goes (St (q + size_of i) (truth_number (of_some (object_at o) holds) ∷ xs) (open_loops turning) p))
      → GivesTruth (ca ++ i ∷ []) (of_some v holds)
  asks_object ca i v holds gives is =
      one_object ca i v (truth_number (of_some v holds)) gives
      (λ q xs. is q xs (object_number v) ∙ ap (λ t. Goes (St (q + size_of i) (truth_number (of_some t holds) ∷ xs) (open_loops turning) p)) (object_back v))

  there_is : (v : Option ℕ) → truth_number (not (is_true (truth_number (int_eq (object_number v) (negsuc 0))))) ≡ truth_number (is_object v)
  unfolding is_object
  there_is None = refl
  there_is (Some o) = refl

  there_gives : (ca : List Instruction) (v : Option ℕ) → GivesObject ca v → GivesTruth (is_there_code ca) (is_object v)
  unfolding does
  there_gives ca v gives q xs has =
      let behind = has_back c q ca (code.Num (negsuc 0) ∷ code.Eq ∷ code.Not ∷ []) has in
      let r = q + sizes ca in
      let nothing = one_gives r (code.Num (negsuc 0)) (object_number v ∷ xs) (negsuc 0 ∷ object_number v ∷ xs) (behind.0, tt) refl in
      let same = one_gives (r + 5) code.Eq (negsuc 0 ∷ object_number v ∷ xs) (truth_number (int_eq (object_number v) (negsuc 0)) ∷ xs) (behind.1.0, tt) refl in
      let other = one_gives (r + 5 + 1) code.Not (truth_number (int_eq (object_number v) (negsuc 0)) ∷ xs) (truth_number (is_object v) ∷ xs)
      (behind.1.1.0, tt) (ap (λ n. Goes (St (r + 5 + 1 + 1) (n ∷ xs) (open_loops turning) p)) (there_is v)) in
      let tested = then_also f c (open_loops turning) p (r + 5) (code.Eq ∷ []) (code.Not ∷ []) (negsuc 0 ∷ object_number v ∷ xs)
      (truth_number (int_eq (object_number v) (negsuc 0)) ∷ xs) (Ok (truth_number (is_object v) ∷ xs)) same other in
      then_also f c (open_loops turning) p q ca (code.Num (negsuc 0) ∷ code.Eq ∷ code.Not ∷ []) xs (object_number v ∷ xs)
      (Ok (truth_number (is_object v) ∷ xs)) (gives q xs (has_front c q ca (code.Num (negsuc 0) ∷ code.Eq ∷ code.Not ∷ []) has))
      (then_also f c (open_loops turning) p r (code.Num (negsuc 0) ∷ []) (code.Eq ∷ code.Not ∷ []) (object_number v ∷ xs) (negsuc 0 ∷ object_number v ∷ xs) (Ok (truth_number (is_object v) ∷ xs)) nothing tested)

  -- ---- descriptions

  pub alike_truth : (ca : List Instruction) (a b : Bool) → a ≡ b → GivesTruth ca a → GivesTruth ca b
  alike_truth ca a b e gives q xs has = alike f c (open_loops turning) p q ca xs (Ok (truth_number a ∷ xs)) (Ok (truth_number b ∷ xs))
      (ap (λ t. Ok (truth_number t ∷ xs)) e) (gives q xs has)

  not_so : (v : Option ℕ) (holds : ℕ → Bool) → (is_object v && not (of_some v holds)) ≡ of_some v (λ o. not (holds o))
  unfolding is_object
  not_so None holds = refl
  not_so (Some o) holds = refl

  quality_gives : (ca : List Instruction) (v : Option ℕ) (n : ℕ) (side : tree.Side) → GivesObject ca v
      → GivesTruth (ca ++ code.Flag n (asked_of side) ∷ []) (of_some v (is_so f.telling.setting p.world (Quality n side)))
  unfolding does
  quality_gives ca v n First gives = asks_object ca (code.Flag n code.IsFirst) v (is_so f.telling.setting p.world (Quality n First)) gives (λ q xs o. refl)
  quality_gives ca v n Second gives = asks_object ca (code.Flag n code.IsSecond) v (is_so f.telling.setting p.world (Quality n Second)) gives (λ q xs o. refl)

  pub adjective_gives : (adjective : Adjective) (ca : List Instruction) (v : Option ℕ) → GivesObject ca v
      → GivesTruth (adjective_code ca adjective) (of_some v (is_so f.telling.setting p.world adjective))
  unfolding adjective_code does
  adjective_gives (Quality n side) ca v gives = quality_gives ca v n side gives
  adjective_gives (Valued n value) ca v gives = asks_object ca (code.Valued n value) v (is_so f.telling.setting p.world (Valued n value)) gives (λ q xs o. refl)
  adjective_gives Visible ca v gives = asks_object ca code.Visible v (is_so f.telling.setting p.world Visible) gives (λ q xs o. refl)
  adjective_gives Touchable ca v gives = asks_object ca code.Touchable v (is_so f.telling.setting p.world Touchable) gives (λ q xs o. refl)
  adjective_gives (NotSo adjective) ca v gives =
      alike_truth (adjective_code ca (NotSo adjective)) _ _ (not_so v (is_so f.telling.setting p.world adjective))
      (and_gives (is_there_code ca) (adjective_code ca adjective ++ code.Not ∷ []) (is_object v) (not (of_some v (is_so f.telling.setting p.world adjective))) (there_gives ca v gives)
      (one_truth (adjective_code ca adjective) (of_some v (is_so f.telling.setting p.world adjective)) (adjective_gives adjective ca v gives)))

  all_so : (v : Option ℕ) (adjective : Adjective) (adjectives : List Adjective)
      → (of_some v (is_so f.telling.setting p.world adjective) && of_some v (λ o. list_all (λ a. is_so f.telling.setting p.world a o) adjectives))
      ≡ of_some v (λ o. list_all (λ a. is_so f.telling.setting p.world a o) (adjective ∷ adjectives))
  all_so None adjective adjectives = refl
  all_so (Some o) adjective adjectives = refl

  adjectives_give : (adjectives : List Adjective) (ca : List Instruction) (v : Option ℕ) → GivesObject ca v
      → GivesTruth (adjectives_code ca adjectives) (of_some v (λ o. list_all (λ a. is_so f.telling.setting p.world a o) adjectives))
  unfolding is_object
  adjectives_give [] ca v gives = there_gives ca v gives
  adjectives_give (adjective ∷ adjectives) ca v gives =
      alike_truth (adjectives_code ca (adjective ∷ adjectives)) _ _ (all_so v adjective adjectives)
      (and_gives (adjective_code ca adjective) (adjectives_code ca adjectives) _ _ (adjective_gives adjective ca v gives) (adjectives_give adjectives ca v gives))

  both_some : (v : Option ℕ) (a b : ℕ → Bool) → (of_some v a && of_some v b) ≡ of_some v (λ o. a o && b o)
  both_some None a b = refl
  both_some (Some o) a b = refl

  among_gives : (adjectives : List Adjective) (kind : Option ℕ) (ca : List Instruction) (v : Option ℕ) → GivesObject ca v
      → GivesTruth (kind_code ca kind (adjectives_code ca adjectives)) (of_some v (is_among f.telling.setting p.world adjectives kind))
  unfolding does
  among_gives adjectives None ca v gives = adjectives_give adjectives ca v gives
  among_gives adjectives (Some kind) ca v gives =
      alike_truth (kind_code ca (Some kind) (adjectives_code ca adjectives)) _ _
      (both_some v (λ o. f.telling.setting.is_of o kind) (λ o. list_all (λ a. is_so f.telling.setting p.world a o) adjectives))
      (and_gives (ca ++ code.Kind kind ∷ []) (adjectives_code ca adjectives) _ _ (asks_object ca (code.Kind kind) v (λ o. f.telling.setting.is_of o kind) gives (λ q xs o. refl)) (adjectives_give adjectives ca v gives))

  pub held_gives : (r : Rel) (ca cb : List Instruction) (v holder : Option ℕ) → GivesObject ca v → GivesObject cb holder
      → GivesTruth (ca ++ cb ++ code.Held r ∷ []) (of_some v (is_held p.world r holder))
  unfolding does
  held_gives r ca cb v holder gives holds =
      two_objects ca cb (code.Held r) v holder (truth_number (of_some v (is_held p.world r holder))) gives holds
      (λ q xs. ap (λ o. Goes (St (q + 2) (truth_number (of_some o (is_held p.world r (object_at (object_number holder)))) ∷ xs) (open_loops turning) p)) (object_back v)
      ∙ ap (λ h. Goes (St (q + 2) (truth_number (of_some v (is_held p.world r h)) ∷ xs) (open_loops turning) p)) (object_back holder))

  -- the object that a code gives is one of those that a description means
  pub description_gives : (d : Description) (ca : List Instruction) (v : Option ℕ) → GivesObject ca v
      → GivesTruth (description_code ca d) (of_some v (is_one f.telling.setting (scope_in f turning) p.world d))
  unfolding description_code is_one
  description_gives (tree.Those adjectives kind) ca v gives = among_gives adjectives kind ca v gives
  description_gives (tree.ThoseHeld adjectives kind r holder) ca v gives =
      alike_truth (description_code ca (tree.ThoseHeld adjectives kind r holder)) _ _
      (both_some v (is_among f.telling.setting p.world adjectives kind) (is_held p.world r (object_here f turning p holder)))
      (and_gives (kind_code ca kind (adjectives_code ca adjectives)) (ca ++ object_code holder ++ code.Held r ∷ []) _ _ (among_gives adjectives kind ca v gives)
      (held_gives r ca (object_code holder) v (object_here f turning p holder) gives (object_gives holder)))

-- ---- tests

turning_last : (turning : List ℕ) (o : ℕ) → slice_get (turning ++ o ∷ []) (length turning) ≡ Some o
turning_last [] o = refl
turning_last (t ∷ ts) o = turning_last ts o

turning_before : (turning : List ℕ) (o n : ℕ) → n < length turning → slice_get (turning ++ o ∷ []) n ≡ slice_get turning n
turning_before [] o n less = absurd (omega (arith, less))
turning_before (t ∷ ts) o zero less = refl
turning_before (t ∷ ts) o (suc n) less = turning_before ts o n (omega (arith, less))

-- an object that names open loops alone is the same inside one more
object_before : (f : Frame) (turning : List ℕ) (new : ℕ) (p : Progress) (o : Object) → ObjectIsWithin (length turning) o
    → object_here f (turning ++ new ∷ []) p o ≡ object_here f turning p o
unfolding object_in
object_before f turning new p (tree.The o) within = refl
object_before f turning new p tree.Noun within = refl
object_before f turning new p tree.SecondNoun within = refl
object_before f turning new p tree.Location within = refl
object_before f turning new p tree.Nothing within = refl
object_before f turning new p (tree.Turning n) within = turning_before turning new n within
object_before f turning new p (tree.RoomFrom d room) within = rw (object_before f turning new p d within.0, object_before f turning new p room within.1) refl
object_before f turning new p (tree.DoorFrom d room) within = rw (object_before f turning new p d within.0, object_before f turning new p room within.1) refl

one_before : (f : Frame) (turning : List ℕ) (new : ℕ) (p : Progress) (d : Description) (o : ℕ) → DescriptionIsWithin (length turning) d
    → is_one f.telling.setting (scope_in f (turning ++ new ∷ [])) p.world d o ≡ is_one f.telling.setting (scope_in f turning) p.world d o
unfolding is_one
one_before f turning new p (tree.Those adjectives kind) o within = refl
one_before f turning new p (tree.ThoseHeld adjectives kind r holder) o within = rw (object_before f turning new p holder within) refl

pub answer_is : (f : Frame) (c : List Instruction) (q m : ℕ) (b : Bool) (ls : List (Option ℕ)) (p : Progress) → at_place c q ≡ Some code.Answer
    → run f c (suc m) (St q (truth_number b ∷ []) ls p) ≡ Answers b
unfolding run does
answer_is f c q m b ls p at = ap (λ i. goes_further (run f c m) (does_at f (St q (truth_number b ∷ []) ls p) i)) at ∙ ap Answers (truth_back b)

last_given : (f : Frame) (c : List Instruction) (turning : List ℕ) (o : ℕ) (p : Progress) → GivesObject f c (turning ++ o ∷ []) p (code.Loop (length turning) ∷ []) (Some o)
unfolding object_in
last_given f c turning o p = subst (λ v. GivesObject f c (turning ++ o ∷ []) p (code.Loop (length turning) ∷ []) v) (turning_last turning o)
    (object_gives f c (turning ++ o ∷ []) p (tree.Turning (length turning)))

-- the test of a description, asked of an object
pub test_answers : (f : Frame) (d : Description) (turning : List ℕ) (o : ℕ) (w : World) → DescriptionIsWithin (length turning) d
    → answered (run f (test_code (length turning) d) (sizes (test_code (length turning) d)) (start_at (open_loops (turning ++ o ∷ [])) (fresh w)))
    ≡ Ok (is_one f.telling.setting (scope_in f turning) w d o)
test_answers f d turning o w within =
    let c = test_code (length turning) d in
    let dc = description_code (code.Loop (length turning) ∷ []) d in
    let m = sizes dc - length dc in
    let count : sizes c ≡ length dc + suc m = omega (arith, sizes-append dc (code.Answer ∷ []), length-sizes dc) in
    let has = has_all c in
    let is = is_one f.telling.setting (scope_in f (turning ++ o ∷ [])) w d o in
    let gives = description_gives f c (turning ++ o ∷ []) (fresh w) d (code.Loop (length turning) ∷ []) (Some o)
    (last_given f c turning o (fresh w)) 0 [] (has_front c 0 dc (code.Answer ∷ []) has) (suc m) in
    let ends = answer_is f c (0 + sizes dc) m is (open_loops (turning ++ o ∷ [])) (fresh w) (has_back c 0 dc (code.Answer ∷ []) has).0 in
    ap (λ n. answered (run f c n (start_at (open_loops (turning ++ o ∷ [])) (fresh w)))) count ∙ (ap answered (gives ∙ ends) ∙ ap Ok (one_before f turning o (fresh w) d o within))
