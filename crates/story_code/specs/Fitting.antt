-- Which trees fit a story: what they name is there, no more loops are open than a code can open, and no more than
-- sixty-four operands stand at once. `k` loops are open around a tree, and `n` operands stand below its own.
use Rattle.std.specs.Prelude.{◌≡◌, ℕ, ◌+◌, ◌<◌, List, [], ◌∷◌, Option, None, Some, slice_index_or}
use Rattle.play_meaning.specs.declared.operand.Counts.{Counts}
use Rattle.play_meaning.specs.declared.operand.Use.{Use}
use Rattle.play_meaning.specs.declared.operand.Use.TheVariants as role
use Rattle.play_meaning.specs.Trees.{Adjective, And, Body, Bytes, Condition, CountOf, Description, DescriptionOf, DoorFrom, Encloses, End, EndStory, Equals, Figure, Follow, Has, HasDescription, Happens, If, IfSaid, InDarkness, Instead, IsAtMost, IsHeld, IsHeldByOne, IsLess, IsOne, IsSame, IsSo, Leave, Listing, Minus, Move, Name, Not, NotSo, NowHeld, NowIs, NowNowhere, NowNumber, NowValued, NowVariable, Number, Object, Or, Phrase, Plus, PropertyOf, Quality, Repeat, RoomFrom, Say, Silence, Text, The, Then, Those, ThoseHeld, Times, Try, Turning, Valued, ValueName, Variable}

-- one more operand has room over so many
abbrev pub HasRoom : ℕ → Type 0
HasRoom n = n < 64

-- one more loop may be opened, though no tenth
abbrev pub MayOpen : ℕ → Type 0
MayOpen k = k < 9

-- a kind of value is there, and one of its values, by its number
abbrev pub ValueKindFits : Counts → ℕ → Type 0
ValueKindFits z q = 0 < slice_index_or z.values q 0

abbrev pub ValueFits : Counts → ℕ → ℕ → Type 0
ValueFits z q value = value < slice_index_or z.values q 0

-- ---- objects and descriptions

abbrev pub ObjectFits : Counts → ℕ → ℕ → Object → Type 0
ObjectFits z k n (The o) = (o < z.objects) × HasRoom n
ObjectFits z k n (Turning loop) = (loop < k) × HasRoom n
ObjectFits z k n (RoomFrom d room) = ObjectFits z k n d × ObjectFits z k (n + 1) room
ObjectFits z k n (DoorFrom d room) = ObjectFits z k n d × ObjectFits z k (n + 1) room
ObjectFits z k n _ = HasRoom n

-- the object that is asked about fits over so many operands
abbrev pub FitsOver : Type 1
FitsOver = ℕ → Type 0

-- it is compared with nothing
abbrev pub IsThereFits : FitsOver → ℕ → Type 0
IsThereFits o n = o n × HasRoom (n + 1)

abbrev pub AdjectiveFits : Counts → FitsOver → ℕ → Adjective → Type 0
AdjectiveFits z o n (Quality p side) = (p < z.flags) × o n
AdjectiveFits z o n (Valued q value) = ValueFits z q value × o n
AdjectiveFits z o n (NotSo adjective) = IsThereFits o n × AdjectiveFits z o (n + 1) adjective
AdjectiveFits z o n _ = o n

abbrev pub AdjectivesFit : Counts → FitsOver → ℕ → List Adjective → Type 0
AdjectivesFit z o n [] = IsThereFits o n
AdjectivesFit z o n (adjective ∷ adjectives) = AdjectiveFits z o n adjective × AdjectivesFit z o (n + 1) adjectives

abbrev pub ThoseFit : Counts → FitsOver → ℕ → List Adjective → Option ℕ → Type 0
ThoseFit z o n adjectives None = AdjectivesFit z o n adjectives
ThoseFit z o n adjectives (Some kind) = ((kind < z.kinds) × o n) × AdjectivesFit z o (n + 1) adjectives

abbrev pub DescriptionFits : Counts → ℕ → FitsOver → ℕ → Description → Type 0
DescriptionFits z k o n (Those adjectives kind) = ThoseFit z o n adjectives kind
DescriptionFits z k o n (ThoseHeld adjectives kind r holder) = ThoseFit z o n adjectives kind × (o (n + 1) × ObjectFits z k (n + 1 + 1) holder)

-- a test of its own asks about the object of one loop more
abbrev pub TestFits : Counts → ℕ → Description → Type 0
TestFits z k description = MayOpen k × DescriptionFits z k HasRoom 0 description

-- ---- numbers and conditions

abbrev pub NumberFits : Counts → ℕ → ℕ → Number → Type 0
NumberFits z k n (Variable v) = (v < z.variables) × HasRoom n
NumberFits z k n (PropertyOf p o) = (p < z.numbers) × ObjectFits z k n o
NumberFits z k n (CountOf description) = HasRoom n × TestFits z k description
NumberFits z k n (Plus a b) = NumberFits z k n a × NumberFits z k (n + 1) b
NumberFits z k n (Minus a b) = NumberFits z k n a × NumberFits z k (n + 1) b
NumberFits z k n (Times a b) = NumberFits z k n a × NumberFits z k (n + 1) b
NumberFits z k n _ = HasRoom n

abbrev pub HeldFits : Counts → ℕ → ℕ → Object → Object → Type 0
HeldFits z k n o holder = ObjectFits z k n o × ObjectFits z k (n + 1) holder

abbrev pub ConditionFits : Counts → ℕ → ℕ → Condition → Type 0
ConditionFits z k n (IsSo o adjective) = AdjectiveFits z (λ m. ObjectFits z k m o) n adjective
ConditionFits z k n (IsOne o description) = DescriptionFits z k (λ m. ObjectFits z k m o) n description
ConditionFits z k n (IsSame a b) = ObjectFits z k n a × ObjectFits z k (n + 1) b
ConditionFits z k n (IsHeld o r holder) = HeldFits z k n o holder
ConditionFits z k n (IsHeldByOne o r description) = DescriptionFits z k (λ m. ObjectFits z k m o) n description
ConditionFits z k n (Has holder o) = HeldFits z k n o holder × HeldFits z k (n + 1) o holder
ConditionFits z k n (Encloses holder o) = ObjectFits z k n holder × ObjectFits z k (n + 1) o
ConditionFits z k n (HasDescription o) = ObjectFits z k n o
ConditionFits z k n (Equals a b) = NumberFits z k n a × NumberFits z k (n + 1) b
ConditionFits z k n (IsLess a b) = NumberFits z k n a × NumberFits z k (n + 1) b
ConditionFits z k n (IsAtMost a b) = NumberFits z k n a × NumberFits z k (n + 1) b
ConditionFits z k n (Happens scene) = (scene < z.scenes) × HasRoom n
ConditionFits z k n InDarkness = HasRoom n
ConditionFits z k n (Not a) = ConditionFits z k n a
ConditionFits z k n (And a b) = ConditionFits z k n a × ConditionFits z k (n + 1) b
ConditionFits z k n (Or a b) = ConditionFits z k n a × ConditionFits z k (n + 1) b

-- ---- texts and phrases, with no operands below, and each string by its number

-- what describes an object doesn't say a description
abbrev pub TextFits : Counts → Use → (List ℕ → ℕ) → ℕ → Text → Type 0
TextFits z whose string k Silence = Unit {0}
TextFits z whose string k (Bytes bytes more) = (string bytes < z.strings) × TextFits z whose string k more
TextFits z whose string k (Figure number more) = NumberFits z k 0 number × TextFits z whose string k more
TextFits z whose string k (Name naming o more) = ObjectFits z k 0 o × TextFits z whose string k more
TextFits z whose string k (Listing naming description more) = TestFits z k description × TextFits z whose string k more
TextFits z whose string k (DescriptionOf o more) = ((whose ≡ role.Body) × ObjectFits z k 0 o) × TextFits z whose string k more
TextFits z whose string k (ValueName q o more) = (ValueKindFits z q × ObjectFits z k 0 o) × TextFits z whose string k more
TextFits z whose string k (IfSaid condition a b more) =
    ConditionFits z k 0 condition × ((TextFits z whose string k a × TextFits z whose string k b) × TextFits z whose string k more)

abbrev mutual
  pub PhraseFits : Counts → (List ℕ → ℕ) → ℕ → Phrase → Type 0
  PhraseFits z string k (Say text) = TextFits z role.Body string k text
  PhraseFits z string k (NowIs o p value) = (p < z.flags) × ObjectFits z k 0 o
  PhraseFits z string k (NowHeld o r holder) = HeldFits z k 0 o holder
  PhraseFits z string k (NowNowhere o) = ObjectFits z k 0 o
  PhraseFits z string k (Move o holder) = HeldFits z k 0 o holder
  PhraseFits z string k (NowNumber p o number) = (p < z.numbers) × (ObjectFits z k 0 o × NumberFits z k 1 number)
  PhraseFits z string k (NowVariable v number) = (v < z.variables) × NumberFits z k 0 number
  PhraseFits z string k (NowValued o q value) = ValueFits z q value × ObjectFits z k 0 o
  PhraseFits z string k (Try silent action noun second) = (action < z.actions) × HeldFits z k 0 noun second
  PhraseFits z string k (Follow book) = book < z.books
  PhraseFits z string k (Leave flow) = Unit {0}
  PhraseFits z string k (EndStory text) = string text < z.strings
  PhraseFits z string k (If condition a b) = ConditionFits z k 0 condition × (BodyFits z string k a × BodyFits z string k b)
  PhraseFits z string k (Repeat description body) = TestFits z k description × BodyFits z string (k + 1) body
  PhraseFits z string k (Instead phrase) = PhraseFits z string k phrase

  pub BodyFits : Counts → (List ℕ → ℕ) → ℕ → Body → Type 0
  BodyFits z string k End = Unit {0}
  BodyFits z string k (Then phrase body) = PhraseFits z string k phrase × BodyFits z string k body
