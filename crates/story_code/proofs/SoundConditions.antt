-- The tests of descriptions that fit are sound; the codes of numbers and conditions that fit give one operand.
use Rattle.std.proofs.Common.{◌≡◌, ◌∙◌, ap, refl, ℕ, ◌+◌, ◌<◌, ◌≤◌, ◌==◌, ◌&&◌, nat_lt, Bool, true, false, List, [], ◌∷◌, ◌++◌, length, None, Some, if◌then◌else◌, arith}
use Rattle.std.proofs.lemmas.Bool.{and_from, eq-eqb, lt-ltb}
use Rattle.play_meaning.specs.Operands.{below, is_object, may_hold, names_what_is_there, operands_behind, serves, with_given}
use Rattle.play_meaning.specs.SoundCodes.{loops_around}
use Rattle.play_meaning.specs.Translation.{condition_part, description_code, held_code, number_part, object_code, one, test_code}
use Rattle.play_meaning.specs.Trees as tree
use Rattle.play_meaning.specs.Trees.{Condition, Description}
use Rattle.play_meaning.specs.declared.instruction.Instruction.{Instruction}
use Rattle.play_meaning.specs.declared.instruction.Instruction.TheVariants as i
use Rattle.play_meaning.specs.declared.operand.Counts.{Counts}
use Rattle.play_meaning.specs.declared.operand.Sort.{Sort}
use Rattle.play_meaning.specs.declared.operand.Sort.TheVariants.{Number, NumberOrObject, Object, Truth}
use Rattle.play_meaning.specs.declared.operand.Use.{Use}
use Rattle.play_meaning.specs.declared.operand.Use.TheVariants.{Test}
use Rattle.play_meaning.specs.declared.way.OpenLoop.{OpenLoop}
use Rattle.world_meaning.specs.declared.place.Rel.{Rel}
use Rattle.world_meaning.specs.declared.place.Rel.TheVariants.{Carried, Worn}
use Rattle.story_code.specs.Fitting.{ConditionFits, DescriptionFits, HasRoom, MayOpen, NumberFits, ObjectFits, TestFits}
use Rattle.story_code.specs.SoundlyEmitted.{IsSoundTest}
use Rattle.story_code.proofs.InTurn.{names-append, none_in_turn}
use Rattle.story_code.proofs.SoundParts.{carries_one}
use Rattle.story_code.proofs.SoundDescriptions.{Gives, GivesCode, adjective_gives, not_so, two_parts, IsAsking, alike_numbers, alike_objects, asked_of_one, asked_of_two, asks, description_gives, gives_of_codes, gives_of_two, gives_one, named_here, object_gives, one_below, pushed, two_below, is_below}
use Rattle.story_code.proofs.SoundWholes.{sound_whole}

-- ---- inside one loop more

object_more : (z : Counts) (k : ℕ) (o : tree.Object) (n : ℕ) → ObjectFits z k n o → ObjectFits z (k + 1) n o
object_more z k (tree.The o) n fits = fits
object_more z k tree.Noun n fits = fits
object_more z k tree.SecondNoun n fits = fits
object_more z k tree.Location n fits = fits
object_more z k tree.Nothing n fits = fits
object_more z k (tree.Turning j) n fits = (omega (arith, fits.0), fits.1)
object_more z k (tree.RoomFrom d room) n fits = (object_more z k d n fits.0, object_more z k room (n + 1) fits.1)
object_more z k (tree.DoorFrom d room) n fits = (object_more z k d n fits.0, object_more z k room (n + 1) fits.1)

description_more : (z : Counts) (k : ℕ) (o : ℕ → Type 0) (d : Description) (n : ℕ) → DescriptionFits z k o n d → DescriptionFits z (k + 1) o n d
description_more z k o (tree.Those all kind) n fits = fits
description_more z k o (tree.ThoseHeld all kind r holder) n fits = (fits.0, (fits.1.0, object_more z k holder (n + 1 + 1) fits.1.1))

pub test_sound : (z : Counts) (k : ℕ) (d : Description) (t : ℕ) → DescriptionFits z k HasRoom 0 d → t + 1 ≤ z.codes → IsSoundTest z t (k + 1) (test_code k d)
unfolding may_hold names_what_is_there operands_behind
test_sound z k d t fits there =
    let deep : k + 1 + 0 ≡ k + 1 = omega arith in
    let looped : (n : ℕ) → HasRoom n → Gives z t (Test (k + 1)) [] (k + 1) deep Object n (one (i.Loop k)) =
    λ n low. gives_one z t (Test (k + 1)) [] (k + 1) deep Object n (i.Loop k) Object
    (refl, refl, refl, and_from (nat_lt k (k + 1)) true (lt-ltb k (k + 1) (omega arith)) refl) refl (pushed Object) low in
    let g = description_gives z t (Test (k + 1)) [] (k + 1) deep (i.Loop k ∷ []) HasRoom looped d 0 (description_more z k HasRoom d 0 fits) in
    let r = g.gives [] refl (t + 1) 0 (record { behind = omega arith; there = omega (arith, there) }) in
    let y : Counts = record z { own = t } in (
      sound_whole y (Test (k + 1)) (description_code (i.Loop k ∷ []) d) i.Answer (r.0 ∷ []) [] r.1.1.0 refl refl refl (ap (with_given None) (one_below r.0 Truth [] r.1.0)) refl,
      none_in_turn (IsSoundTest y) (test_code k d) (t + 1) (names-append y (description_code (i.Loop k ∷ []) d) (i.Answer ∷ []) (t + 1) [] [] r.1.1.1 refl),
    )

module _ (z : Counts) (own : ℕ) (whose : Use) (loops : List OpenLoop) (k : ℕ) (deep : loops_around whose + length loops ≡ k) where
  abbrev GivesNumber : ℕ → tree.Number → Type 0
  GivesNumber m n = Gives z own whose loops k deep Number m (number_part k n)

  abbrev GivesTruth : ℕ → Condition → Type 0
  GivesTruth m c = Gives z own whose loops k deep Truth m (condition_part k c)

  -- the test that is named here has a number, and a loop may be opened for it
  pub opens_test : (t : ℕ) → MayOpen k → own < t → t + 1 ≤ z.codes → (((k == k) && nat_lt k 9) && ((nat_lt own t && nat_lt t z.codes) && true)) ≡ true
  opens_test t may low high =
      and_from ((k == k) && nat_lt k 9) ((nat_lt own t && nat_lt t z.codes) && true) (and_from (k == k) (nat_lt k 9) (eq-eqb k k refl) (lt-ltb k 9 may))
      (and_from (nat_lt own t && nat_lt t z.codes) true (and_from (nat_lt own t) (nat_lt t z.codes) (lt-ltb own t low) (lt-ltb t z.codes (omega (arith, high)))) refl)

  counted : (d : Description) (m : ℕ) → HasRoom m → TestFits z k d → GivesNumber m (tree.CountOf d)
  unfolding may_hold number_part names_what_is_there operands_behind
  counted d m low fits = record {
    low = low;
    gives = λ operands many t q numbers.
        let named = opens_test t fits.0 numbers.behind (omega (arith, numbers.there)) in
        let carries = carries_one (record z { own = own }) whose loops operands (Number ∷ operands) q (i.Count k t) (asks whose (i.Count k t) refl) refl
        (named_here z own whose loops k deep (i.Count k t) named) (pushed Number operands (omega (arith, many, low))) refl in
        (Number, (refl, (carries, (refl, (test_sound z k d t fits.1 (omega (arith, numbers.there)), refl)))));
  }

  -- two numbers, of which a number is made
  made_of_two : (m : ℕ) (a b : tree.Number) (x : Instruction) → IsAsking z own whose loops k deep x
      → ((a b : Sort) (sorts : List Sort) → operands_behind (record z { own = own }) x (b ∷ a ∷ sorts) ≡ with_given (Some Number) (below (Number ∷ Number ∷ []) (b ∷ a ∷ sorts)))
      → GivesNumber m a → GivesNumber (m + 1) b → Gives z own whose loops k deep Number m (two_parts (number_part k a) (number_part k b) x)
  made_of_two m a b x is takes = gives_of_two z own whose loops k deep Number Number Number m (number_part k a) (number_part k b) x Number is refl
      (λ a b sorts y w few. takes a b sorts ∙ ap (with_given (Some Number)) (two_below a b Number Number sorts y w) ∙ pushed Number sorts few)

  literal_typed : (a : Bool) (sorts : List Sort) → length sorts < 64
      → with_given (if a then Some NumberOrObject else Some Number) (Some sorts) ≡ Some ((if a then NumberOrObject else Number) ∷ sorts)
  literal_typed true sorts few = pushed NumberOrObject sorts few
  literal_typed false sorts few = pushed Number sorts few

  literal_serves : (a : Bool) → serves (if a then NumberOrObject else Number) Number ≡ true
  literal_serves true = refl
  literal_serves false = refl

  pub number_gives : (n : tree.Number) (m : ℕ) → NumberFits z k m n → GivesNumber m n
  unfolding number_part names_what_is_there operands_behind
  number_gives (tree.Literal a) m fits =
      let is = is_object (record z { own = own }) a in
      gives_one z own whose loops k deep Number m (i.Num a) (if is then NumberOrObject else Number) (refl, refl, refl, refl) (literal_serves is)
      (literal_typed is) fits
  number_gives (tree.Variable v) m fits =
      gives_one z own whose loops k deep Number m (i.Var v) Number
      (refl, refl, refl, is_below v z.variables fits.0) refl (pushed Number) fits.1
  number_gives (tree.PropertyOf p o) m fits =
      asked_of_one z own whose loops k deep Number m (object_code o) (i.Prop p) Number
      (refl, refl, refl, is_below p z.numbers fits.0) refl (λ a sorts. refl)
      (object_gives z own whose loops k deep o m fits.1)
  number_gives (tree.CountOf d) m fits = counted d m fits.0 fits.1
  number_gives tree.TurnCount m fits = gives_one z own whose loops k deep Number m i.Turns Number (refl, refl, refl, refl) refl (pushed Number) fits
  number_gives (tree.Plus a b) m fits = made_of_two m a b i.Add (refl, refl, refl, refl) (λ a b sorts. refl) (number_gives a m fits.0) (number_gives b (m + 1) fits.1)
  number_gives (tree.Minus a b) m fits = made_of_two m a b i.Sub (refl, refl, refl, refl) (λ a b sorts. refl) (number_gives a m fits.0) (number_gives b (m + 1) fits.1)
  number_gives (tree.Times a b) m fits = made_of_two m a b i.Mul (refl, refl, refl, refl) (λ a b sorts. refl) (number_gives a m fits.0) (number_gives b (m + 1) fits.1)

  -- ---- conditions

  -- two numbers that are compared
  compared : (m : ℕ) (a b : tree.Number) (x : Instruction) → IsAsking z own whose loops k deep x
      → ((a b : Sort) (sorts : List Sort) → operands_behind (record z { own = own }) x (b ∷ a ∷ sorts) ≡ with_given (Some Truth) (below (Number ∷ Number ∷ []) (b ∷ a ∷ sorts)))
      → NumberFits z k m a → NumberFits z k (m + 1) b → Gives z own whose loops k deep Truth m (two_parts (number_part k a) (number_part k b) x)
  compared m a b x is takes fits more = gives_of_two z own whose loops k deep Truth Number Number m (number_part k a) (number_part k b) x Truth is refl
      (λ a b sorts y w few. takes a b sorts ∙ ap (with_given (Some Truth)) (two_below a b Number Number sorts y w) ∙ pushed Truth sorts few) (number_gives a m fits)
      (number_gives b (m + 1) more)

  joined : (m : ℕ) (a b : Condition) (x : Instruction) → IsAsking z own whose loops k deep x
      → ((a b : Sort) (sorts : List Sort) → operands_behind (record z { own = own }) x (b ∷ a ∷ sorts) ≡ with_given (Some Truth) (below (Truth ∷ Truth ∷ []) (b ∷ a ∷ sorts)))
      → GivesTruth m a → GivesTruth (m + 1) b → Gives z own whose loops k deep Truth m (two_parts (condition_part k a) (condition_part k b) x)
  joined m a b x is takes = gives_of_two z own whose loops k deep Truth Truth Truth m (condition_part k a) (condition_part k b) x Truth is refl
      (λ a b sorts y w few. takes a b sorts ∙ ap (with_given (Some Truth)) (two_below a b Truth Truth sorts y w) ∙ pushed Truth sorts few)

  held : (m : ℕ) (o holder : tree.Object) (r : Rel) → ObjectFits z k m o → ObjectFits z k (m + 1) holder
      → GivesCode z own whose loops k deep Truth m (held_code (object_code o) r (object_code holder))
  unfolding names_what_is_there operands_behind
  held m o holder r fits more =
      asked_of_two z own whose loops k deep m (object_code o) (object_code holder) (i.Held r) (refl, refl, refl, refl) (λ a b sorts. refl)
      (object_gives z own whose loops k deep o m fits) (object_gives z own whose loops k deep holder (m + 1) more)

  pub condition_gives : (c : Condition) (m : ℕ) → ConditionFits z k m c → GivesTruth m c
  unfolding condition_part names_what_is_there operands_behind
  condition_gives (tree.IsSo o adjective) m fits =
      adjective_gives z own whose loops k deep (object_code o) (λ n. ObjectFits z k n o) (object_gives z own whose loops k deep o) adjective m fits
  condition_gives (tree.IsOne o d) m fits = description_gives z own whose loops k deep (object_code o) (λ n. ObjectFits z k n o) (object_gives z own whose loops k deep o) d m fits
  condition_gives (tree.IsSame a b) m fits =
      gives_of_codes z own whose loops k deep Truth Object Object m (object_code a) (object_code b) i.Eq Truth (refl, refl, refl, refl) refl
      (λ a b sorts x y few. ap (with_given (Some Truth)) (alike_objects a b sorts x y) ∙ pushed Truth sorts few)
      (object_gives z own whose loops k deep a m fits.0) (object_gives z own whose loops k deep b (m + 1) fits.1)
  condition_gives (tree.IsHeld o r holder) m fits = held m o holder r fits.0 fits.1
  condition_gives (tree.IsHeldByOne o r d) m fits =
      description_gives z own whose loops k deep (object_code o ++ i.Holder r ∷ []) (λ n. ObjectFits z k n o)
      (λ n over. asked_of_one z own whose loops k deep Object n (object_code o) (i.Holder r) Object (refl, refl, refl, refl) refl (λ a sorts. refl)
      (object_gives z own whose loops k deep o n over)) d m fits
  condition_gives (tree.Has holder o) m fits =
      gives_of_codes z own whose loops k deep Truth Truth Truth m (held_code (object_code o) Carried (object_code holder)) (held_code (object_code o) Worn (object_code holder)) i.Or Truth
      (refl, refl, refl, refl) refl
      (λ a b sorts x y few. ap (with_given (Some Truth)) (two_below a b Truth Truth sorts x y) ∙ pushed Truth sorts few)
      (held m o holder Carried fits.0.0 fits.0.1) (held (m + 1) o holder Worn fits.1.0 fits.1.1)
  condition_gives (tree.Encloses holder o) m fits =
      asked_of_two z own whose loops k deep m (object_code holder) (object_code o) i.Encloses (refl, refl, refl, refl) (λ a b sorts. refl)
      (object_gives z own whose loops k deep holder m fits.0) (object_gives z own whose loops k deep o (m + 1) fits.1)
  condition_gives (tree.HasDescription o) m fits =
      asked_of_one z own whose loops k deep Truth m (object_code o) i.HasDescription Truth (refl, refl, refl, refl) refl (λ a sorts. refl)
      (object_gives z own whose loops k deep o m fits)
  condition_gives (tree.Equals a b) m fits =
      gives_of_two z own whose loops k deep Truth Number Number m (number_part k a) (number_part k b) i.Eq Truth (refl, refl, refl, refl) refl
      (λ a b sorts x y few. ap (with_given (Some Truth)) (alike_numbers a b sorts x y) ∙ pushed Truth sorts few) (number_gives a m fits.0) (number_gives b (m + 1) fits.1)
  condition_gives (tree.IsLess a b) m fits = compared m a b i.Less (refl, refl, refl, refl) (λ a b sorts. refl) fits.0 fits.1
  condition_gives (tree.IsAtMost a b) m fits = compared m a b i.AtMost (refl, refl, refl, refl) (λ a b sorts. refl) fits.0 fits.1
  condition_gives (tree.Happens scene) m fits =
      gives_one z own whose loops k deep Truth m (i.Happens scene) Truth
      (refl, refl, refl, is_below scene z.scenes fits.0) refl (pushed Truth) fits.1
  condition_gives tree.InDarkness m fits = gives_one z own whose loops k deep Truth m i.Dark Truth (refl, refl, refl, refl) refl (pushed Truth) fits
  condition_gives (tree.Not a) m fits = not_so z own whose loops k deep m (condition_part k a) (condition_gives a m fits)
  condition_gives (tree.And a b) m fits = joined m a b i.And (refl, refl, refl, refl) (λ a b sorts. refl) (condition_gives a m fits.0) (condition_gives b (m + 1) fits.1)
  condition_gives (tree.Or a b) m fits = joined m a b i.Or (refl, refl, refl, refl) (λ a b sorts. refl) (condition_gives a m fits.0) (condition_gives b (m + 1) fits.1)
