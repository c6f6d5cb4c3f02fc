-- Which trees can be said of a story: what they name is there, they keep the limits of the language, and they join at most
-- 32 numbers in one expression. `k` loops are open around a tree.
use Rattle.std.specs.Prelude.{◌≡◌, ℕ, ◌+◌, ◌<◌, ◌≤◌, max, true, List, [], ◌∷◌, length, Option, None, Some}
use Rattle.play_meaning.specs.declared.operand.Counts.{Counts}
use Rattle.play_meaning.specs.declared.operand.Use.{Use}
use Rattle.play_meaning.specs.declared.operand.Use.TheVariants as role
use Rattle.play_meaning.specs.Trees.{Adjective, And, Body, Bytes, Condition, CountOf, Description, DescriptionOf, DoorFrom, Encloses, End, EndStory, Equals, Figure, Follow, Happens, Has, HasDescription, If, IfSaid, InDarkness, Instead, IsAtMost, IsHeld, IsHeldByOne, IsLess, IsOne, IsSame, IsSo, Leave, Listing, Literal, Minus, Move, Name, Not, NotSo, NowHeld, NowIs, NowNowhere, NowNumber, NowValued, NowVariable, Number, Object, Or, Phrase, Plus, PropertyOf, Quality, Repeat, RoomFrom, Say, Silence, Text, The, Then, Those, ThoseHeld, Times, Try, TurnCount, Turning, Valued, ValueName, Variable}
use Rattle.story_code.specs.Fitting.{ValueFits, ValueKindFits}
use Rattle.story_code.specs.Spelling.{is_integer}

-- ---- objects and descriptions

abbrev pub ObjectIsThere : Counts → ℕ → Object → Type 0
ObjectIsThere z k (The o) = o < z.objects
ObjectIsThere z k (Turning loop) = loop < k
ObjectIsThere z k (RoomFrom d room) = ObjectIsThere z k d × ObjectIsThere z k room
ObjectIsThere z k (DoorFrom d room) = ObjectIsThere z k d × ObjectIsThere z k room
ObjectIsThere z k _ = Unit {0}

-- how many `from`s stand within one another
abbrev pub froms : Object → ℕ
froms (RoomFrom d room) = max (froms d) (froms room) + 1
froms (DoorFrom d room) = max (froms d) (froms room) + 1
froms _ = 0

abbrev pub ObjectIsSayable : Counts → ℕ → Object → Type 0
ObjectIsSayable z k o = ObjectIsThere z k o × (froms o ≤ 8)

-- one without a `not`
abbrev pub AdjectiveIsPlain : Counts → Adjective → Type 0
AdjectiveIsPlain z (Quality p side) = p < z.flags
AdjectiveIsPlain z (Valued q value) = ValueFits z q value
AdjectiveIsPlain z (NotSo adjective) = ⊥
AdjectiveIsPlain z _ = Unit {0}

abbrev pub AdjectiveIsSayable : Counts → Adjective → Type 0
AdjectiveIsSayable z (NotSo adjective) = AdjectiveIsPlain z adjective
AdjectiveIsSayable z adjective = AdjectiveIsPlain z adjective

abbrev pub AdjectivesAreSayable : Counts → List Adjective → Type 0
AdjectivesAreSayable z [] = Unit {0}
AdjectivesAreSayable z (adjective ∷ adjectives) = AdjectiveIsSayable z adjective × AdjectivesAreSayable z adjectives

abbrev pub KindIsThere : Counts → Option ℕ → Type 0
KindIsThere z None = Unit {0}
KindIsThere z (Some kind) = kind < z.kinds

abbrev pub ThoseAreSayable : Counts → List Adjective → Option ℕ → Type 0
ThoseAreSayable z adjectives kind = (length adjectives ≤ 9) × (AdjectivesAreSayable z adjectives × KindIsThere z kind)

abbrev pub DescriptionIsSayable : Counts → ℕ → Description → Type 0
DescriptionIsSayable z k (Those adjectives kind) = ThoseAreSayable z adjectives kind
DescriptionIsSayable z k (ThoseHeld adjectives kind r holder) = ThoseAreSayable z adjectives kind × ObjectIsSayable z k holder

-- ---- numbers

abbrev pub numbers_joined : Number → ℕ
numbers_joined (Plus a b) = numbers_joined a + numbers_joined b
numbers_joined (Minus a b) = numbers_joined a + numbers_joined b
numbers_joined (Times a b) = numbers_joined a + numbers_joined b
numbers_joined _ = 1

-- each number that is joined; a literal has thirty-two bits
abbrev pub TermsAreSayable : Counts → ℕ → Number → Type 0
TermsAreSayable z k (Literal n) = is_integer n ≡ true
TermsAreSayable z k (Variable v) = v < z.variables
TermsAreSayable z k (PropertyOf p o) = (p < z.numbers) × ObjectIsSayable z k o
TermsAreSayable z k (CountOf description) = DescriptionIsSayable z k description
TermsAreSayable z k TurnCount = Unit {0}
TermsAreSayable z k (Plus a b) = TermsAreSayable z k a × TermsAreSayable z k b
TermsAreSayable z k (Minus a b) = TermsAreSayable z k a × TermsAreSayable z k b
TermsAreSayable z k (Times a b) = TermsAreSayable z k a × TermsAreSayable z k b

-- thirty-two of an expression, and the one that `increase` and `decrease` join to them
abbrev pub NumberIsSayable : Counts → ℕ → Number → Type 0
NumberIsSayable z k n = (numbers_joined n ≤ 33) × TermsAreSayable z k n

abbrev pub NumbersAreSayable : Counts → ℕ → Number → Number → Type 0
NumbersAreSayable z k a b = NumberIsSayable z k a × NumberIsSayable z k b

-- ---- conditions

-- how many truths wait at once for one that stands behind them, where `and` and `or` are looked at from left to right
abbrev pub truths_waiting : Condition → ℕ
truths_waiting (Not a) = truths_waiting a
truths_waiting (And a b) = max (truths_waiting a) (truths_waiting b + 1)
truths_waiting (Or a b) = max (truths_waiting a) (truths_waiting b + 1)
truths_waiting _ = 0

abbrev pub ObjectsAreSayable : Counts → ℕ → Object → Object → Type 0
ObjectsAreSayable z k a b = ObjectIsSayable z k a × ObjectIsSayable z k b

-- each clause that is joined
abbrev pub ClausesAreSayable : Counts → ℕ → Condition → Type 0
ClausesAreSayable z k (IsSo o adjective) = ObjectIsSayable z k o × AdjectiveIsSayable z adjective
ClausesAreSayable z k (IsOne o description) = ObjectIsSayable z k o × DescriptionIsSayable z k description
ClausesAreSayable z k (IsSame a b) = ObjectsAreSayable z k a b
ClausesAreSayable z k (IsHeld o r holder) = ObjectsAreSayable z k o holder
ClausesAreSayable z k (IsHeldByOne o r description) = ObjectIsSayable z k o × DescriptionIsSayable z k description
ClausesAreSayable z k (Has holder o) = ObjectsAreSayable z k holder o
ClausesAreSayable z k (Encloses holder o) = ObjectsAreSayable z k holder o
ClausesAreSayable z k (HasDescription o) = ObjectIsSayable z k o
ClausesAreSayable z k (Equals a b) = NumbersAreSayable z k a b
ClausesAreSayable z k (IsLess a b) = NumbersAreSayable z k a b
ClausesAreSayable z k (IsAtMost a b) = NumbersAreSayable z k a b
ClausesAreSayable z k (Happens scene) = scene < z.scenes
ClausesAreSayable z k InDarkness = Unit {0}
ClausesAreSayable z k (Not a) = ClausesAreSayable z k a
ClausesAreSayable z k (And a b) = ClausesAreSayable z k a × ClausesAreSayable z k b
ClausesAreSayable z k (Or a b) = ClausesAreSayable z k a × ClausesAreSayable z k b

-- `and` joins clauses, and `or` joins what `and` joins: one truth waits for a clause and one for what `and` joins
abbrev pub ConditionIsSayable : Counts → ℕ → Condition → Type 0
ConditionIsSayable z k c = (truths_waiting c ≤ 2) × ClausesAreSayable z k c

-- ---- texts and phrases, each string by its number

-- what describes an object doesn't say a description
abbrev pub TextIsSayable : Counts → Use → (List ℕ → ℕ) → ℕ → Text → Type 0
TextIsSayable z whose string k Silence = Unit {0}
TextIsSayable z whose string k (Bytes bytes more) = (string bytes < z.strings) × TextIsSayable z whose string k more
TextIsSayable z whose string k (Figure number more) = NumberIsSayable z k number × TextIsSayable z whose string k more
TextIsSayable z whose string k (Name naming o more) = ObjectIsSayable z k o × TextIsSayable z whose string k more
TextIsSayable z whose string k (Listing naming description more) = DescriptionIsSayable z k description × TextIsSayable z whose string k more
TextIsSayable z whose string k (DescriptionOf o more) = ((whose ≡ role.Body) × ObjectIsSayable z k o) × TextIsSayable z whose string k more
TextIsSayable z whose string k (ValueName q o more) = (ValueKindFits z q × ObjectIsSayable z k o) × TextIsSayable z whose string k more
TextIsSayable z whose string k (IfSaid condition a b more) =
    ConditionIsSayable z k condition × ((TextIsSayable z whose string k a × TextIsSayable z whose string k b) × TextIsSayable z whose string k more)

abbrev mutual
  -- eight repeats stand within one another at most
  pub PhraseIsSayable : Counts → (List ℕ → ℕ) → ℕ → Phrase → Type 0
  PhraseIsSayable z string k (Say text) = TextIsSayable z role.Body string k text
  PhraseIsSayable z string k (NowIs o p value) = (p < z.flags) × ObjectIsSayable z k o
  PhraseIsSayable z string k (NowHeld o r holder) = ObjectsAreSayable z k o holder
  PhraseIsSayable z string k (NowNowhere o) = ObjectIsSayable z k o
  PhraseIsSayable z string k (Move o holder) = ObjectsAreSayable z k o holder
  PhraseIsSayable z string k (NowNumber p o number) = (p < z.numbers) × (ObjectIsSayable z k o × NumberIsSayable z k number)
  PhraseIsSayable z string k (NowVariable v number) = (v < z.variables) × NumberIsSayable z k number
  PhraseIsSayable z string k (NowValued o q value) = ValueFits z q value × ObjectIsSayable z k o
  PhraseIsSayable z string k (Try silent action noun second) = (action < z.actions) × ObjectsAreSayable z k noun second
  PhraseIsSayable z string k (Follow book) = book < z.books
  PhraseIsSayable z string k (Leave flow) = Unit {0}
  PhraseIsSayable z string k (EndStory text) = string text < z.strings
  PhraseIsSayable z string k (If condition a b) = ConditionIsSayable z k condition × (BodyIsSayable z string k a × BodyIsSayable z string k b)
  PhraseIsSayable z string k (Repeat description body) = (k < 8) × (DescriptionIsSayable z k description × BodyIsSayable z string (k + 1) body)
  PhraseIsSayable z string k (Instead phrase) = PhraseIsSayable z string k phrase

  pub BodyIsSayable : Counts → (List ℕ → ℕ) → ℕ → Body → Type 0
  BodyIsSayable z string k End = Unit {0}
  BodyIsSayable z string k (Then phrase body) = PhraseIsSayable z string k phrase × BodyIsSayable z string k body
