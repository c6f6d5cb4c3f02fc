-- What can be said of a story fits it: few operands stand at once.
use Rattle.std.proofs.Common.{ℕ, ◌+◌, ◌<◌, ◌≤◌, List, [], ◌∷◌, length, Option, None, Some, arith}
use Rattle.play_meaning.specs.Trees.{Adjective, And, Body, Bytes, Condition, CountOf, Description, DescriptionOf, DoorFrom, Encloses, End, EndStory, Equals, Figure, Follow, Happens, Has, HasDescription, If, IfSaid, InDarkness, Instead, IsAtMost, IsHeld, IsHeldByOne, IsLess, IsOne, IsSame, IsSo, Leave, Listing, Literal, Location, Minus, Move, Name, Not, NotSo, Nothing, Noun, NowHeld, NowIs, NowNowhere, NowNumber, NowValued, NowVariable, Number, Object, Or, Phrase, Plus, PropertyOf, Quality, Repeat, RoomFrom, Say, SecondNoun, Silence, Text, The, Then, Those, ThoseHeld, Times, Touchable, Try, TurnCount, Turning, Valued, ValueName, Variable, Visible}
use Rattle.play_meaning.specs.declared.operand.Counts.{Counts}
use Rattle.play_meaning.specs.declared.operand.Use.{Use}
use Rattle.play_meaning.specs.declared.operand.Use.TheVariants as role
use Rattle.story_code.specs.Fitting.{AdjectiveFits, AdjectivesFit, BodyFits, ConditionFits, DescriptionFits, FitsOver, HasRoom, HeldFits, IsThereFits, NumberFits, ObjectFits, PhraseFits, TestFits, TextFits, ThoseFit}
use Rattle.story_code.specs.SoundlyEmitted.{among}
use Rattle.story_code.specs.Sayable.{AdjectiveIsPlain, AdjectiveIsSayable, AdjectivesAreSayable, BodyIsSayable, ClausesAreSayable, ConditionIsSayable, DescriptionIsSayable, NumberIsSayable, NumbersAreSayable, ObjectIsSayable, ObjectIsThere, ObjectsAreSayable, PhraseIsSayable, TermsAreSayable, TextIsSayable, ThoseAreSayable, froms, numbers_joined, truths_waiting}

one_at_least : (a : Number) → 1 ≤ numbers_joined a
one_at_least (Literal n) = omega arith
one_at_least (Variable v) = omega arith
one_at_least (PropertyOf p o) = omega arith
one_at_least (CountOf d) = omega arith
one_at_least TurnCount = omega arith
one_at_least (Plus a b) = omega (arith, one_at_least a)
one_at_least (Minus a b) = omega (arith, one_at_least a)
one_at_least (Times a b) = omega (arith, one_at_least a)

module _ (z : Counts) (own codes : ℕ) where
  -- whatever number the code has, and however many there are
  abbrev judged : Counts
  judged = among z own codes

  there_fits_object : (k : ℕ) (o : Object) (n : ℕ) → ObjectIsThere z k o → n + froms o < 64 → ObjectFits judged k n o
  there_fits_object k (The o) n there low = (there, omega (arith, low))
  there_fits_object k Noun n there low = omega (arith, low)
  there_fits_object k SecondNoun n there low = omega (arith, low)
  there_fits_object k Location n there low = omega (arith, low)
  there_fits_object k Nothing n there low = omega (arith, low)
  there_fits_object k (Turning loop) n there low = (there, omega (arith, low))
  there_fits_object k (RoomFrom d room) n there low =
      (there_fits_object k d n there.0 (omega (arith, low)), there_fits_object k room (n + 1) there.1 (omega (arith, low)))
  there_fits_object k (DoorFrom d room) n there low =
      (there_fits_object k d n there.0 (omega (arith, low)), there_fits_object k room (n + 1) there.1 (omega (arith, low)))

  object_fits : (k : ℕ) (o : Object) (n : ℕ) → ObjectIsSayable z k o → n < 56 → ObjectFits judged k n o
  object_fits k o n is low = there_fits_object k o n is.0 (omega (arith, is.1, low))

  objects_fit : (k : ℕ) (a b : Object) (n : ℕ) → ObjectsAreSayable z k a b → n < 55 → HeldFits judged k n a b
  objects_fit k a b n are low = (object_fits k a n are.0 (omega (arith, low)), object_fits k b (n + 1) are.1 (omega (arith, low)))

  -- ---- descriptions

  module _ (O : FitsOver) (over : (n : ℕ) → n < 56 → O n) where
    there_fits : (n : ℕ) → n < 56 → IsThereFits O n
    there_fits n low = (over n low, omega (arith, low))

    plain_fits : (a : Adjective) (n : ℕ) → AdjectiveIsPlain z a → n < 56 → AdjectiveFits judged O n a
    plain_fits (Quality p side) n is low = (is, over n low)
    plain_fits (Valued q value) n is low = (is, over n low)
    plain_fits Visible n is low = over n low
    plain_fits Touchable n is low = over n low
    plain_fits (NotSo a) n is low = absurd is

    adjective_fits : (a : Adjective) (n : ℕ) → AdjectiveIsSayable z a → n < 55 → AdjectiveFits judged O n a
    adjective_fits (Quality p side) n is low = (is, over n (omega (arith, low)))
    adjective_fits (Valued q value) n is low = (is, over n (omega (arith, low)))
    adjective_fits Visible n is low = over n (omega (arith, low))
    adjective_fits Touchable n is low = over n (omega (arith, low))
    adjective_fits (NotSo a) n is low = (there_fits n (omega (arith, low)), plain_fits a (n + 1) is (omega (arith, low)))

    adjectives_fit : (list : List Adjective) (n : ℕ) → AdjectivesAreSayable z list → n + length list < 55 → AdjectivesFit judged O n list
    adjectives_fit [] n are low = there_fits n (omega (arith, low))
    adjectives_fit (a ∷ list) n are low = (adjective_fits a n are.0 (omega (arith, low)), adjectives_fit list (n + 1) are.1 (omega (arith, low)))

    those_fit : (list : List Adjective) (kind : Option ℕ) (n : ℕ) → ThoseAreSayable z list kind → n < 45 → ThoseFit judged O n list kind
    those_fit list None n are low = adjectives_fit list n are.1.0 (omega (arith, are.0, low))
    those_fit list (Some kind) n are low = ((are.1.1, over n (omega (arith, low))), adjectives_fit list (n + 1) are.1.0 (omega (arith, are.0, low)))

    description_fits : (k : ℕ) (d : Description) (n : ℕ) → DescriptionIsSayable z k d → n < 45 → DescriptionFits judged k O n d
    description_fits k (Those list kind) n is low = those_fit list kind n is low
    description_fits k (ThoseHeld list kind r holder) n is low =
        (those_fit list kind n is.0 low, (over (n + 1) (omega (arith, low)), object_fits k holder (n + 1 + 1) is.1 (omega (arith, low))))

  test_fits : (k : ℕ) (d : Description) → k ≤ 8 → DescriptionIsSayable z k d → TestFits judged k d
  test_fits k d few is = (omega (arith, few), description_fits HasRoom (λ n low. omega (arith, low)) k d 0 is (omega arith))

  -- ---- numbers and conditions

  terms_fit : (k : ℕ) (a : Number) (n : ℕ) → k ≤ 8 → TermsAreSayable z k a → n + numbers_joined a ≤ 50 → NumberFits judged k n a
  terms_fit k (Literal a) n few are low = omega (arith, low)
  terms_fit k (Variable v) n few are low = (are, omega (arith, low))
  terms_fit k (PropertyOf p o) n few are low = (are.0, object_fits k o n are.1 (omega (arith, low)))
  terms_fit k (CountOf d) n few are low = (omega (arith, low), test_fits k d few are)
  terms_fit k TurnCount n few are low = omega (arith, low)
  terms_fit k (Plus a b) n few are low = (terms_fit k a n few are.0 (omega (arith, low)), terms_fit k b (n + 1) few are.1 (omega (arith, low, one_at_least a)))
  terms_fit k (Minus a b) n few are low = (terms_fit k a n few are.0 (omega (arith, low)), terms_fit k b (n + 1) few are.1 (omega (arith, low, one_at_least a)))
  terms_fit k (Times a b) n few are low = (terms_fit k a n few are.0 (omega (arith, low)), terms_fit k b (n + 1) few are.1 (omega (arith, low, one_at_least a)))

  number_fits : (k : ℕ) (a : Number) (n : ℕ) → k ≤ 8 → NumberIsSayable z k a → n ≤ 17 → NumberFits judged k n a
  number_fits k a n few is low = terms_fit k a n few is.1 (omega (arith, is.0, low))

  numbers_fit : (k : ℕ) (a b : Number) (n : ℕ) → k ≤ 8 → NumbersAreSayable z k a b → n ≤ 16 → NumberFits judged k n a × NumberFits judged k (n + 1) b
  numbers_fit k a b n few are low = (number_fits k a n few are.0 (omega (arith, low)), number_fits k b (n + 1) few are.1 (omega (arith, low)))

  described_fits : (k : ℕ) (o : Object) (d : Description) (n : ℕ) → ObjectIsSayable z k o → DescriptionIsSayable z k d → n ≤ 2
      → DescriptionFits judged k (λ m. ObjectFits judged k m o) n d
  described_fits k o d n is are low = description_fits (λ m. ObjectFits judged k m o) (λ m room. object_fits k o m is room) k d n are (omega (arith, low))

  clauses_fit : (k : ℕ) (c : Condition) (n : ℕ) → k ≤ 8 → ClausesAreSayable z k c → n + truths_waiting c ≤ 2 → ConditionFits judged k n c
  clauses_fit k (IsSo o a) n few are low =
      adjective_fits (λ m. ObjectFits judged k m o) (λ m room. object_fits k o m are.0 room) a n are.1 (omega (arith, low))
  clauses_fit k (IsOne o d) n few are low = described_fits k o d n are.0 are.1 (omega (arith, low))
  clauses_fit k (IsSame a b) n few are low = objects_fit k a b n are (omega (arith, low))
  clauses_fit k (IsHeld o r holder) n few are low = objects_fit k o holder n are (omega (arith, low))
  clauses_fit k (IsHeldByOne o r d) n few are low = described_fits k o d n are.0 are.1 (omega (arith, low))
  clauses_fit k (Has holder o) n few are low =
      (objects_fit k o holder n (are.1, are.0) (omega (arith, low)), objects_fit k o holder (n + 1) (are.1, are.0) (omega (arith, low)))
  clauses_fit k (Encloses holder o) n few are low = objects_fit k holder o n are (omega (arith, low))
  clauses_fit k (HasDescription o) n few are low = object_fits k o n are (omega (arith, low))
  clauses_fit k (Equals a b) n few are low = numbers_fit k a b n few are (omega (arith, low))
  clauses_fit k (IsLess a b) n few are low = numbers_fit k a b n few are (omega (arith, low))
  clauses_fit k (IsAtMost a b) n few are low = numbers_fit k a b n few are (omega (arith, low))
  clauses_fit k (Happens scene) n few are low = (are, omega (arith, low))
  clauses_fit k InDarkness n few are low = omega (arith, low)
  clauses_fit k (Not a) n few are low = clauses_fit k a n few are low
  clauses_fit k (And a b) n few are low = (clauses_fit k a n few are.0 (omega (arith, low)), clauses_fit k b (n + 1) few are.1 (omega (arith, low)))
  clauses_fit k (Or a b) n few are low = (clauses_fit k a n few are.0 (omega (arith, low)), clauses_fit k b (n + 1) few are.1 (omega (arith, low)))

  pub condition_fits : (k : ℕ) (c : Condition) → k ≤ 8 → ConditionIsSayable z k c → ConditionFits judged k 0 c
  condition_fits k c few is = clauses_fit k c 0 few is.1 (omega (arith, is.0))

  -- ---- texts and phrases

  pub text_fits : (whose : Use) (string : List ℕ → ℕ) (k : ℕ) (text : Text) → k ≤ 8 → TextIsSayable z whose string k text → TextFits judged whose string k text
  text_fits whose string k Silence few is = tt
  text_fits whose string k (Bytes bytes more) few is = (is.0, text_fits whose string k more few is.1)
  text_fits whose string k (Figure number more) few is = (number_fits k number 0 few is.0 (omega arith), text_fits whose string k more few is.1)
  text_fits whose string k (Name naming o more) few is = (object_fits k o 0 is.0 (omega arith), text_fits whose string k more few is.1)
  text_fits whose string k (Listing naming d more) few is = (test_fits k d few is.0, text_fits whose string k more few is.1)
  text_fits whose string k (DescriptionOf o more) few is = ((is.0.0, object_fits k o 0 is.0.1 (omega arith)), text_fits whose string k more few is.1)
  text_fits whose string k (ValueName q o more) few is = ((is.0.0, object_fits k o 0 is.0.1 (omega arith)), text_fits whose string k more few is.1)
  text_fits whose string k (IfSaid c a b more) few is =
      (condition_fits k c few is.0, ((text_fits whose string k a few is.1.0.0, text_fits whose string k b few is.1.0.1), text_fits whose string k more few is.1.1))

  mutual
    phrase_fits : (string : List ℕ → ℕ) (k : ℕ) (phrase : Phrase) → k ≤ 8 → PhraseIsSayable z string k phrase → PhraseFits judged string k phrase
    phrase_fits string k (Say text) few is = text_fits role.Body string k text few is
    phrase_fits string k (NowIs o p value) few is = (is.0, object_fits k o 0 is.1 (omega arith))
    phrase_fits string k (NowHeld o r holder) few is = objects_fit k o holder 0 is (omega arith)
    phrase_fits string k (NowNowhere o) few is = object_fits k o 0 is (omega arith)
    phrase_fits string k (Move o holder) few is = objects_fit k o holder 0 is (omega arith)
    phrase_fits string k (NowNumber p o number) few is = (is.0, (object_fits k o 0 is.1.0 (omega arith), number_fits k number 1 few is.1.1 (omega arith)))
    phrase_fits string k (NowVariable v number) few is = (is.0, number_fits k number 0 few is.1 (omega arith))
    phrase_fits string k (NowValued o q value) few is = (is.0, object_fits k o 0 is.1 (omega arith))
    phrase_fits string k (Try silent action noun second) few is = (is.0, objects_fit k noun second 0 is.1 (omega arith))
    phrase_fits string k (Follow book) few is = is
    phrase_fits string k (Leave flow) few is = tt
    phrase_fits string k (EndStory text) few is = is
    phrase_fits string k (If c a b) few is = (condition_fits k c few is.0, (body_fits string k a few is.1.0, body_fits string k b few is.1.1))
    phrase_fits string k (Repeat d body) few is = (test_fits k d few is.1.0, body_fits string (k + 1) body (omega (arith, is.0)) is.1.1)
    phrase_fits string k (Instead phrase) few is = phrase_fits string k phrase few is

    pub body_fits : (string : List ℕ → ℕ) (k : ℕ) (body : Body) → k ≤ 8 → BodyIsSayable z string k body → BodyFits judged string k body
    body_fits string k End few is = tt
    body_fits string k (Then phrase body) few is = (phrase_fits string k phrase few is.0, body_fits string k body few is.1)
