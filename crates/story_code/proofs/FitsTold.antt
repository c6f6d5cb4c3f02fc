-- The tests whether trees fit tell exactly that, whatever the code's own number and however many codes there are.
use Rattle.std.proofs.Common.{◌≡◌, refl, ℕ, ◌+◌, ◌-◌, ◌&&◌, Bool, true, List, [], ◌∷◌, Option, None, Some, arith}
use Rattle.std.specs.Prelude.{Decides, nat_lt, slice_index_or}
use Rattle.std.proofs.lemmas.Bool.Decides.{Decides-and, Decides-like, Decides-ltb}
use Rattle.play_meaning.specs.Stands.{is_body}
use Rattle.play_meaning.specs.Trees.{Adjective, And, Body, Bytes, Condition, CountOf, Description, DescriptionOf, DoorFrom, Encloses, End, EndStory, Equals, Figure, Follow, Happens, Has, HasDescription, If, IfSaid, InDarkness, Instead, IsAtMost, IsHeld, IsHeldByOne, IsLess, IsOne, IsSame, IsSo, Leave, Listing, Literal, Location, Minus, Move, Name, Not, NotSo, Nothing, Noun, NowHeld, NowIs, NowNowhere, NowNumber, NowValued, NowVariable, Number, Object, Or, Phrase, Plus, PropertyOf, Quality, Repeat, RoomFrom, Say, SecondNoun, Silence, Text, The, Then, Those, ThoseHeld, Times, Touchable, Try, TurnCount, Turning, Valued, ValueName, Variable, Visible}
use Rattle.play_meaning.specs.declared.operand.Counts.{Counts}
use Rattle.play_meaning.specs.declared.operand.Use.{Use}
use Rattle.play_meaning.specs.declared.operand.Use.TheVariants as role
use Rattle.story_code.specs.Fitting.{AdjectiveFits, AdjectivesFit, BodyFits, ConditionFits, DescriptionFits, FitsOver, HasRoom, HeldFits, IsThereFits, NumberFits, ObjectFits, PhraseFits, TestFits, TextFits, ThoseFit}
use Rattle.story_code.specs.Fits.{adjective_fits, adjectives_fit, body_fits, condition_fits, description_fits, is_there_fits, number_fits, numbers_fit, object_fits, objects_fit, phrase_fits, test_fits, text_fits, those_fit}

both : {a b : Bool} {P Q : Type 0} → Decides a P → Decides b Q → Decides (a && b) (P × Q)
both {a = a} {b = b} d e = Decides-and a b d e

-- a test by the room that is left decides what is said of the operands below
abbrev Tells : (ℕ → Bool) → FitsOver → Type 0
Tells o O = (n room : ℕ) → room ≡ 64 - n → Decides (o room) (O n)

less : (n room : ℕ) → room ≡ 64 - n → room - 1 ≡ 64 - (n + 1)
less n room e = omega (arith, e)

has_room : Tells (nat_lt 0) HasRoom
has_room n room e = Decides-like (nat_lt 0 room) (λ some. omega (arith, some, e)) (λ low. omega (arith, low, e)) (Decides-ltb 0 room)

always : Decides true (Unit {0})
always = (λ e. tt, λ u. refl)

module _ (z : Counts) (own many : ℕ) where
  -- judged as the code of this number among so many
  abbrev judged : Counts
  judged = record z { own = own; codes = many }

  object_told : (k : ℕ) (o : Object) → Tells (object_fits z k o) (λ n. ObjectFits judged k n o)
  object_told k (The o) n room e = both (Decides-ltb o z.objects) (has_room n room e)
  object_told k Noun n room e = has_room n room e
  object_told k SecondNoun n room e = has_room n room e
  object_told k Location n room e = has_room n room e
  object_told k Nothing n room e = has_room n room e
  object_told k (Turning loop) n room e = both (Decides-ltb loop k) (has_room n room e)
  object_told k (RoomFrom d from) n room e = both (object_told k d n room e) (object_told k from (n + 1) (room - 1) (less n room e))
  object_told k (DoorFrom d from) n room e = both (object_told k d n room e) (object_told k from (n + 1) (room - 1) (less n room e))

  -- the object of the innermost loop is always there
  turning_told : (k : ℕ) → Tells (object_fits z (k + 1) (Turning k)) HasRoom
  turning_told k n room e =
      Decides-like (object_fits z (k + 1) (Turning k) room) (λ f. f.1) (λ low. (omega arith, low)) (both (Decides-ltb k (k + 1)) (has_room n room e))

  module _ (o : ℕ → Bool) (O : FitsOver) (told : Tells o O) where
    there_told : Tells (is_there_fits o) (IsThereFits O)
    there_told n room e = both (told n room e) (has_room (n + 1) (room - 1) (less n room e))

    adjective_told : (a : Adjective) → Tells (adjective_fits z o a) (λ n. AdjectiveFits judged O n a)
    adjective_told (Quality p side) n room e = both (Decides-ltb p z.flags) (told n room e)
    adjective_told (Valued q value) n room e = both (Decides-ltb value (slice_index_or z.values q 0)) (told n room e)
    adjective_told Visible n room e = told n room e
    adjective_told Touchable n room e = told n room e
    adjective_told (NotSo a) n room e = both (there_told n room e) (adjective_told a (n + 1) (room - 1) (less n room e))

    adjectives_told : (list : List Adjective) → Tells (adjectives_fit z o list) (λ n. AdjectivesFit judged O n list)
    adjectives_told [] n room e = there_told n room e
    adjectives_told (a ∷ list) n room e = both (adjective_told a n room e) (adjectives_told list (n + 1) (room - 1) (less n room e))

    those_told : (list : List Adjective) (kind : Option ℕ) → Tells (those_fit z o list kind) (λ n. ThoseFit judged O n list kind)
    those_told list None n room e = adjectives_told list n room e
    those_told list (Some kind) n room e = both (both (Decides-ltb kind z.kinds) (told n room e)) (adjectives_told list (n + 1) (room - 1) (less n room e))

    description_told : (k : ℕ) (d : Description) → Tells (description_fits z k o d) (λ n. DescriptionFits judged k O n d)
    description_told k (Those list kind) n room e = those_told list kind n room e
    description_told k (ThoseHeld list kind r holder) n room e =
        let e1 = less n room e in
        both (those_told list kind n room e) (both (told (n + 1) (room - 1) e1) (object_told k holder (n + 1 + 1) (room - 1 - 1) (less (n + 1) (room - 1) e1)))

  test_told : (k : ℕ) (d : Description) → Decides (test_fits z k d) (TestFits judged k d)
  test_told k d = both (Decides-ltb k 9) (description_told (object_fits z (k + 1) (Turning k)) HasRoom (turning_told k) k d 0 64 refl)

  number_told : (k : ℕ) (a : Number) → Tells (number_fits z k a) (λ n. NumberFits judged k n a)
  unfolding number_fits
  number_told k (Literal a) n room e = has_room n room e
  number_told k (Variable v) n room e = both (Decides-ltb v z.variables) (has_room n room e)
  number_told k (PropertyOf p o) n room e = both (Decides-ltb p z.numbers) (object_told k o n room e)
  number_told k (CountOf d) n room e = both (has_room n room e) (test_told k d)
  number_told k TurnCount n room e = has_room n room e
  number_told k (Plus a b) n room e = both (number_told k a n room e) (number_told k b (n + 1) (room - 1) (less n room e))
  number_told k (Minus a b) n room e = both (number_told k a n room e) (number_told k b (n + 1) (room - 1) (less n room e))
  number_told k (Times a b) n room e = both (number_told k a n room e) (number_told k b (n + 1) (room - 1) (less n room e))

  objects_told : (k : ℕ) (a b : Object) → Tells (objects_fit z k a b) (λ n. HeldFits judged k n a b)
  objects_told k a b n room e = both (object_told k a n room e) (object_told k b (n + 1) (room - 1) (less n room e))

  numbers_told : (k : ℕ) (a b : Number) → Tells (numbers_fit z k a b) (λ n. NumberFits judged k n a × NumberFits judged k (n + 1) b)
  numbers_told k a b n room e = both (number_told k a n room e) (number_told k b (n + 1) (room - 1) (less n room e))

  pub condition_told : (k : ℕ) (c : Condition) → Tells (condition_fits z k c) (λ n. ConditionFits judged k n c)
  unfolding condition_fits
  condition_told k (IsSo o a) n room e = adjective_told (object_fits z k o) (λ m. ObjectFits judged k m o) (object_told k o) a n room e
  condition_told k (IsOne o d) n room e = description_told (object_fits z k o) (λ m. ObjectFits judged k m o) (object_told k o) k d n room e
  condition_told k (IsSame a b) n room e = objects_told k a b n room e
  condition_told k (IsHeld o r holder) n room e = objects_told k o holder n room e
  condition_told k (IsHeldByOne o r d) n room e = description_told (object_fits z k o) (λ m. ObjectFits judged k m o) (object_told k o) k d n room e
  condition_told k (Has holder o) n room e = both (objects_told k o holder n room e) (objects_told k o holder (n + 1) (room - 1) (less n room e))
  condition_told k (Encloses holder o) n room e = objects_told k holder o n room e
  condition_told k (HasDescription o) n room e = object_told k o n room e
  condition_told k (Equals a b) n room e = numbers_told k a b n room e
  condition_told k (IsLess a b) n room e = numbers_told k a b n room e
  condition_told k (IsAtMost a b) n room e = numbers_told k a b n room e
  condition_told k (Happens scene) n room e = both (Decides-ltb scene z.scenes) (has_room n room e)
  condition_told k InDarkness n room e = has_room n room e
  condition_told k (Not a) n room e = condition_told k a n room e
  condition_told k (And a b) n room e = both (condition_told k a n room e) (condition_told k b (n + 1) (room - 1) (less n room e))
  condition_told k (Or a b) n room e = both (condition_told k a n room e) (condition_told k b (n + 1) (room - 1) (less n room e))

  body_told_is : (whose : Use) → Decides (is_body whose) (whose ≡ role.Body)
  body_told_is role.Body = (λ e. refl, λ e. refl)
  body_told_is role.Describing = (λ e. absurd cc, λ e. absurd cc)
  body_told_is (role.Test loops) = (λ e. absurd cc, λ e. absurd cc)

  pub text_told : (whose : Use) (string : List ℕ → ℕ) (k : ℕ) (text : Text) → Decides (text_fits z whose string k text) (TextFits judged whose string k text)
  unfolding text_fits
  text_told whose string k Silence = always
  text_told whose string k (Bytes bytes more) = both (Decides-ltb (string bytes) z.strings) (text_told whose string k more)
  text_told whose string k (Figure number more) = both (number_told k number 0 64 refl) (text_told whose string k more)
  text_told whose string k (Name naming o more) = both (object_told k o 0 64 refl) (text_told whose string k more)
  text_told whose string k (Listing naming d more) = both (test_told k d) (text_told whose string k more)
  text_told whose string k (DescriptionOf o more) = both (both (body_told_is whose) (object_told k o 0 64 refl)) (text_told whose string k more)
  text_told whose string k (ValueName q o more) = both (both (Decides-ltb 0 (slice_index_or z.values q 0)) (object_told k o 0 64 refl)) (text_told whose string k more)
  text_told whose string k (IfSaid c a b more) =
      both (condition_told k c 0 64 refl) (both (both (text_told whose string k a) (text_told whose string k b)) (text_told whose string k more))

  mutual
    unfolding phrase_fits body_fits

    phrase_told : (string : List ℕ → ℕ) (k : ℕ) (phrase : Phrase) → Decides (phrase_fits z string k phrase) (PhraseFits judged string k phrase)
    phrase_told string k (Say text) = text_told role.Body string k text
    phrase_told string k (NowIs o p value) = both (Decides-ltb p z.flags) (object_told k o 0 64 refl)
    phrase_told string k (NowHeld o r holder) = objects_told k o holder 0 64 refl
    phrase_told string k (NowNowhere o) = object_told k o 0 64 refl
    phrase_told string k (Move o holder) = objects_told k o holder 0 64 refl
    phrase_told string k (NowNumber p o number) = both (Decides-ltb p z.numbers) (both (object_told k o 0 64 refl) (number_told k number 1 63 refl))
    phrase_told string k (NowVariable v number) = both (Decides-ltb v z.variables) (number_told k number 0 64 refl)
    phrase_told string k (NowValued o q value) = both (Decides-ltb value (slice_index_or z.values q 0)) (object_told k o 0 64 refl)
    phrase_told string k (Try silent action noun second) = both (Decides-ltb action z.actions) (objects_told k noun second 0 64 refl)
    phrase_told string k (Follow book) = Decides-ltb book z.books
    phrase_told string k (Leave flow) = always
    phrase_told string k (EndStory text) = Decides-ltb (string text) z.strings
    phrase_told string k (If c a b) = both (condition_told k c 0 64 refl) (both (body_told string k a) (body_told string k b))
    phrase_told string k (Repeat d body) = both (test_told k d) (body_told string (k + 1) body)
    phrase_told string k (Instead phrase) = phrase_told string k phrase

    pub body_told : (string : List ℕ → ℕ) (k : ℕ) (body : Body) → Decides (body_fits z string k body) (BodyFits judged string k body)
    body_told string k End = always
    body_told string k (Then phrase body) = both (phrase_told string k phrase) (body_told string k body)
