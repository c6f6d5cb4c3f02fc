-- Words that name the object of no loop but those that are open, so many.
use Rattle.std.specs.Prelude.{ℕ, ◌+◌, ◌<◌}
use Rattle.play_meaning.specs.Trees.{And, Body, Bytes, Condition, CountOf, Description, DescriptionOf, DoorFrom, Encloses, End, Equals, Figure, Has, HasDescription, If, IfSaid, Instead, IsAtMost, IsHeld, IsHeldByOne, IsLess, IsOne, IsSame, IsSo, Listing, Minus, Move, Name, Not, NowHeld, NowIs, NowNowhere, NowNumber, NowValued, NowVariable, Number, Object, Or, Phrase, Plus, PropertyOf, Repeat, RoomFrom, Say, Silence, Text, Then, Those, ThoseHeld, Times, Try, Turning, ValueName}

abbrev pub ObjectIsWithin : ℕ → Object → Type 0
ObjectIsWithin k (Turning n) = n < k
ObjectIsWithin k (RoomFrom d room) = ObjectIsWithin k d × ObjectIsWithin k room
ObjectIsWithin k (DoorFrom d room) = ObjectIsWithin k d × ObjectIsWithin k room
ObjectIsWithin k _ = Unit {0}

abbrev pub DescriptionIsWithin : ℕ → Description → Type 0
DescriptionIsWithin k (Those adjectives kind) = Unit {0}
DescriptionIsWithin k (ThoseHeld adjectives kind r holder) = ObjectIsWithin k holder

abbrev pub NumberIsWithin : ℕ → Number → Type 0
NumberIsWithin k (PropertyOf p o) = ObjectIsWithin k o
NumberIsWithin k (CountOf description) = DescriptionIsWithin k description
NumberIsWithin k (Plus a b) = NumberIsWithin k a × NumberIsWithin k b
NumberIsWithin k (Minus a b) = NumberIsWithin k a × NumberIsWithin k b
NumberIsWithin k (Times a b) = NumberIsWithin k a × NumberIsWithin k b
NumberIsWithin k _ = Unit {0}

abbrev pub ConditionIsWithin : ℕ → Condition → Type 0
ConditionIsWithin k (IsSo o adjective) = ObjectIsWithin k o
ConditionIsWithin k (IsOne o description) = ObjectIsWithin k o × DescriptionIsWithin k description
ConditionIsWithin k (IsSame a b) = ObjectIsWithin k a × ObjectIsWithin k b
ConditionIsWithin k (IsHeld o r holder) = ObjectIsWithin k o × ObjectIsWithin k holder
ConditionIsWithin k (IsHeldByOne o r description) = ObjectIsWithin k o × DescriptionIsWithin k description
ConditionIsWithin k (Has holder o) = ObjectIsWithin k holder × ObjectIsWithin k o
ConditionIsWithin k (Encloses holder o) = ObjectIsWithin k holder × ObjectIsWithin k o
ConditionIsWithin k (HasDescription o) = ObjectIsWithin k o
ConditionIsWithin k (Equals a b) = NumberIsWithin k a × NumberIsWithin k b
ConditionIsWithin k (IsLess a b) = NumberIsWithin k a × NumberIsWithin k b
ConditionIsWithin k (IsAtMost a b) = NumberIsWithin k a × NumberIsWithin k b
ConditionIsWithin k (Not a) = ConditionIsWithin k a
ConditionIsWithin k (And a b) = ConditionIsWithin k a × ConditionIsWithin k b
ConditionIsWithin k (Or a b) = ConditionIsWithin k a × ConditionIsWithin k b
ConditionIsWithin k _ = Unit {0}

abbrev pub TextIsWithin : ℕ → Text → Type 0
TextIsWithin k Silence = Unit {0}
TextIsWithin k (Bytes bytes more) = TextIsWithin k more
TextIsWithin k (Figure number more) = NumberIsWithin k number × TextIsWithin k more
TextIsWithin k (Name naming o more) = ObjectIsWithin k o × TextIsWithin k more
TextIsWithin k (Listing naming description more) = DescriptionIsWithin k description × TextIsWithin k more
TextIsWithin k (DescriptionOf o more) = ObjectIsWithin k o × TextIsWithin k more
TextIsWithin k (ValueName q o more) = ObjectIsWithin k o × TextIsWithin k more
TextIsWithin k (IfSaid condition a b more) = ConditionIsWithin k condition × (TextIsWithin k a × (TextIsWithin k b × TextIsWithin k more))

abbrev mutual
  pub PhraseIsWithin : ℕ → Phrase → Type 0
  PhraseIsWithin k (Say text) = TextIsWithin k text
  PhraseIsWithin k (NowIs o p value) = ObjectIsWithin k o
  PhraseIsWithin k (NowHeld o r holder) = ObjectIsWithin k o × ObjectIsWithin k holder
  PhraseIsWithin k (NowNowhere o) = ObjectIsWithin k o
  PhraseIsWithin k (Move o holder) = ObjectIsWithin k o × ObjectIsWithin k holder
  PhraseIsWithin k (NowNumber p o number) = ObjectIsWithin k o × NumberIsWithin k number
  PhraseIsWithin k (NowVariable v number) = NumberIsWithin k number
  PhraseIsWithin k (NowValued o q value) = ObjectIsWithin k o
  PhraseIsWithin k (Try silent action noun second) = ObjectIsWithin k noun × ObjectIsWithin k second
  PhraseIsWithin k (If condition a b) = ConditionIsWithin k condition × (BodyIsWithin k a × BodyIsWithin k b)
  PhraseIsWithin k (Repeat description body) = DescriptionIsWithin k description × BodyIsWithin (k + 1) body
  PhraseIsWithin k (Instead phrase) = PhraseIsWithin k phrase
  PhraseIsWithin k _ = Unit {0}

  pub BodyIsWithin : ℕ → Body → Type 0
  BodyIsWithin k End = Unit {0}
  BodyIsWithin k (Then phrase body) = PhraseIsWithin k phrase × BodyIsWithin k body
