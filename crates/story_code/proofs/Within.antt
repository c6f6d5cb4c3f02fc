-- What fits inside so many loops names the object of no other.
use Rattle.std.proofs.Common.{ℕ, ◌+◌, List, [], ◌∷◌, Option, None, Some}
use Rattle.play_meaning.specs.Scoping.{ConditionIsWithin, DescriptionIsWithin, NumberIsWithin, ObjectIsWithin, TextIsWithin}
use Rattle.play_meaning.specs.Trees.{Adjective, And, Bytes, Condition, CountOf, Description, DescriptionOf, DoorFrom, Encloses, Equals, Figure, Happens, Has, HasDescription, IfSaid, InDarkness, IsAtMost, IsHeld, IsHeldByOne, IsLess, IsOne, IsSame, IsSo, Listing, Literal, Location, Minus, Name, Not, NotSo, Nothing, Noun, Number, Object, Or, Plus, PropertyOf, Quality, RoomFrom, SecondNoun, Silence, Text, The, Those, ThoseHeld, Times, Touchable, TurnCount, Turning, Valued, ValueName, Variable, Visible}
use Rattle.play_meaning.specs.declared.operand.Counts.{Counts}
use Rattle.play_meaning.specs.declared.operand.Use.{Use}
use Rattle.story_code.specs.Fitting.{AdjectiveFits, AdjectivesFit, ConditionFits, DescriptionFits, FitsOver, NumberFits, ObjectFits, TextFits, ThoseFit}

module _ (z : Counts) (k : ℕ) where
  object_within : (o : Object) (n : ℕ) → ObjectFits z k n o → ObjectIsWithin k o
  object_within (The o) n fits = tt
  object_within Noun n fits = tt
  object_within SecondNoun n fits = tt
  object_within Location n fits = tt
  object_within Nothing n fits = tt
  object_within (Turning loop) n fits = fits.0
  object_within (RoomFrom d room) n fits = (object_within d n fits.0, object_within room (n + 1) fits.1)
  object_within (DoorFrom d room) n fits = (object_within d n fits.0, object_within room (n + 1) fits.1)

  -- the object that is asked about fits too
  adjective_over : (o : FitsOver) (n : ℕ) (a : Adjective) → AdjectiveFits z o n a → o n
  adjective_over o n (Quality p side) fits = fits.1
  adjective_over o n (Valued q value) fits = fits.1
  adjective_over o n Visible fits = fits
  adjective_over o n Touchable fits = fits
  adjective_over o n (NotSo a) fits = fits.0.0

  adjectives_over : (o : FitsOver) (n : ℕ) (list : List Adjective) → AdjectivesFit z o n list → o n
  adjectives_over o n [] fits = fits.0
  adjectives_over o n (a ∷ list) fits = adjective_over o n a fits.0

  those_over : (o : FitsOver) (n : ℕ) (list : List Adjective) (kind : Option ℕ) → ThoseFit z o n list kind → o n
  those_over o n list None fits = adjectives_over o n list fits
  those_over o n list (Some kind) fits = fits.0.1

  description_over : (o : FitsOver) (n : ℕ) (d : Description) → DescriptionFits z k o n d → o n
  description_over o n (Those list kind) fits = those_over o n list kind fits
  description_over o n (ThoseHeld list kind r holder) fits = those_over o n list kind fits.0

  description_within : (o : FitsOver) (n : ℕ) (d : Description) → DescriptionFits z k o n d → DescriptionIsWithin k d
  description_within o n (Those list kind) fits = tt
  description_within o n (ThoseHeld list kind r holder) fits = object_within holder (n + 1 + 1) fits.1.1

  number_within : (a : Number) (n : ℕ) → NumberFits z k n a → NumberIsWithin k a
  number_within (Literal a) n fits = tt
  number_within (Variable v) n fits = tt
  number_within (PropertyOf p o) n fits = object_within o n fits.1
  number_within (CountOf d) n fits = description_within _ 0 d fits.1.1
  number_within TurnCount n fits = tt
  number_within (Plus a b) n fits = (number_within a n fits.0, number_within b (n + 1) fits.1)
  number_within (Minus a b) n fits = (number_within a n fits.0, number_within b (n + 1) fits.1)
  number_within (Times a b) n fits = (number_within a n fits.0, number_within b (n + 1) fits.1)

  condition_within : (c : Condition) (n : ℕ) → ConditionFits z k n c → ConditionIsWithin k c
  condition_within (IsSo o a) n fits = object_within o n (adjective_over (λ m. ObjectFits z k m o) n a fits)
  condition_within (IsOne o d) n fits = (object_within o n (description_over (λ m. ObjectFits z k m o) n d fits), description_within (λ m. ObjectFits z k m o) n d fits)
  condition_within (IsSame a b) n fits = (object_within a n fits.0, object_within b (n + 1) fits.1)
  condition_within (IsHeld o r holder) n fits = (object_within o n fits.0, object_within holder (n + 1) fits.1)
  condition_within (IsHeldByOne o r d) n fits = (object_within o n (description_over (λ m. ObjectFits z k m o) n d fits), description_within (λ m. ObjectFits z k m o) n d fits)
  condition_within (Has holder o) n fits = (object_within holder (n + 1) fits.0.1, object_within o n fits.0.0)
  condition_within (Encloses holder o) n fits = (object_within holder n fits.0, object_within o (n + 1) fits.1)
  condition_within (HasDescription o) n fits = object_within o n fits
  condition_within (Equals a b) n fits = (number_within a n fits.0, number_within b (n + 1) fits.1)
  condition_within (IsLess a b) n fits = (number_within a n fits.0, number_within b (n + 1) fits.1)
  condition_within (IsAtMost a b) n fits = (number_within a n fits.0, number_within b (n + 1) fits.1)
  condition_within (Happens scene) n fits = tt
  condition_within InDarkness n fits = tt
  condition_within (Not a) n fits = condition_within a n fits
  condition_within (And a b) n fits = (condition_within a n fits.0, condition_within b (n + 1) fits.1)
  condition_within (Or a b) n fits = (condition_within a n fits.0, condition_within b (n + 1) fits.1)

  pub text_within : (whose : Use) (string : List ℕ → ℕ) (text : Text) → TextFits z whose string k text → TextIsWithin k text
  text_within whose string Silence fits = tt
  text_within whose string (Bytes bytes more) fits = text_within whose string more fits.1
  text_within whose string (Figure number more) fits = (number_within number 0 fits.0, text_within whose string more fits.1)
  text_within whose string (Name naming o more) fits = (object_within o 0 fits.0, text_within whose string more fits.1)
  text_within whose string (Listing naming d more) fits = (description_within _ 0 d fits.0.1, text_within whose string more fits.1)
  text_within whose string (DescriptionOf o more) fits = (object_within o 0 fits.0.1, text_within whose string more fits.1)
  text_within whose string (ValueName q o more) fits = (object_within o 0 fits.0.1, text_within whose string more fits.1)
  text_within whose string (IfSaid c a b more) fits =
      (condition_within c 0 fits.0, (text_within whose string a fits.1.0.0, (text_within whose string b fits.1.0.1, text_within whose string more fits.1.1)))
