-- How many words the language says trees by, at the least: articles that may be left out, commas and colons don't count, a
-- text counts as one word, and the words between its brackets count beside it.
use Rattle.std.specs.Prelude.{ℕ, ◌+◌, max, List, [], ◌∷◌, Option, None, Some}
use Rattle.play_meaning.specs.Trees.{Adjective, And, Body, Bytes, Condition, CountOf, Description, DescriptionOf, DoorFrom, Encloses, End, EndStory, Equals, Figure, Follow, Happens, Has, HasDescription, If, IfSaid, InDarkness, Instead, IsAtMost, IsHeld, IsHeldByOne, IsLess, IsOne, IsSame, IsSo, Leave, Listing, Minus, Move, Name, Not, NotSo, Nothing, NowHeld, NowIs, NowNowhere, NowNumber, NowValued, NowVariable, Number, Object, Or, Phrase, Plus, PropertyOf, Repeat, RoomFrom, Say, Silence, Text, Then, Those, ThoseHeld, Times, Try, TurnCount, ValueName}

-- ---- objects and descriptions

-- `room` or `door`, a direction, `from` and a room; any other object has a name of one word at least
abbrev pub words_of_object : Object → ℕ
words_of_object (RoomFrom d room) = 2 + words_of_object d + words_of_object room
words_of_object (DoorFrom d room) = 2 + words_of_object d + words_of_object room
words_of_object _ = 1

abbrev pub words_of_adjective : Adjective → ℕ
words_of_adjective (NotSo adjective) = 1 + words_of_adjective adjective
words_of_adjective _ = 1

abbrev pub words_of_adjectives : List Adjective → ℕ
words_of_adjectives [] = 0
words_of_adjectives (adjective ∷ adjectives) = words_of_adjective adjective + words_of_adjectives adjectives

abbrev pub words_of_those : List Adjective → Option ℕ → ℕ
words_of_those adjectives None = words_of_adjectives adjectives
words_of_those adjectives (Some kind) = words_of_adjectives adjectives + 1

-- what holds the objects stands behind a word as `in`
abbrev pub words_of_description : Description → ℕ
words_of_description (Those adjectives kind) = words_of_those adjectives kind
words_of_description (ThoseHeld adjectives kind r holder) = words_of_those adjectives kind + 1 + words_of_object holder

-- ---- numbers and conditions

-- `PROPERTY of O`, `number of D`, `turn count`
abbrev pub words_of_number : Number → ℕ
words_of_number (PropertyOf p o) = 2 + words_of_object o
words_of_number (CountOf description) = 2 + words_of_description description
words_of_number TurnCount = 2
words_of_number (Plus a b) = words_of_number a + 1 + words_of_number b
words_of_number (Minus a b) = words_of_number a + 1 + words_of_number b
words_of_number (Times a b) = words_of_number a + 1 + words_of_number b
words_of_number _ = 1

-- `is`, `is in`, `carries`, `has a description`, `is less than`, `is at most`, `is happening`, `in darkness`, and the parts
abbrev pub words_of_condition : Condition → ℕ
words_of_condition (IsSo o adjective) = words_of_object o + 1 + words_of_adjective adjective
words_of_condition (IsOne o description) = words_of_object o + 1 + words_of_description description
words_of_condition (IsSame a b) = words_of_object a + 1 + words_of_object b
words_of_condition (IsHeld o r holder) = words_of_object o + 1 + words_of_object holder
words_of_condition (IsHeldByOne o r description) = words_of_object o + 2 + words_of_description description
words_of_condition (Has holder o) = words_of_object holder + 1 + words_of_object o
words_of_condition (Encloses holder o) = words_of_object holder + 1 + words_of_object o
words_of_condition (HasDescription o) = words_of_object o + 3
words_of_condition (Equals a b) = words_of_number a + 1 + words_of_number b
words_of_condition (IsLess a b) = words_of_number a + 3 + words_of_number b
words_of_condition (IsAtMost a b) = words_of_number a + 3 + words_of_number b
words_of_condition (Happens scene) = 3
words_of_condition InDarkness = 2
words_of_condition (Not a) = 1 + words_of_condition a
words_of_condition (And a b) = words_of_condition a + 1 + words_of_condition b
words_of_condition (Or a b) = words_of_condition a + 1 + words_of_condition b

-- ---- texts

-- what is printed stands outside brackets: `[E]`, `[O]`, `[list of D]`, `[description of O]`, `[KIND OF VALUE of O]`, `[if C]` with its `[end if]`
abbrev pub words_of_text : Text → ℕ
words_of_text Silence = 0
words_of_text (Bytes bytes more) = words_of_text more
words_of_text (Figure number more) = words_of_number number + words_of_text more
words_of_text (Name naming o more) = words_of_object o + words_of_text more
words_of_text (Listing naming description more) = 2 + words_of_description description + words_of_text more
words_of_text (DescriptionOf o more) = 2 + words_of_object o + words_of_text more
words_of_text (ValueName q o more) = 2 + words_of_object o + words_of_text more
words_of_text (IfSaid condition a b more) = 3 + words_of_condition condition + words_of_text a + words_of_text b + words_of_text more

-- ---- phrases

-- an action that has no such noun says none
abbrev pub words_of_noun : Object → ℕ
words_of_noun Nothing = 0
words_of_noun o = words_of_object o

-- what is changed by a number: `increase the P of O by E` says but once what it reads and changes
abbrev pub words_of_change : Object → Number → ℕ
words_of_change o number = 1 + max (3 + words_of_object o) (words_of_number number)

abbrev mutual
  -- of a phrase that holds others, what stands in front of them: `if C`, `repeat with W running through D`
  pub words_of_phrase : Phrase → ℕ
  words_of_phrase (Say text) = 2 + words_of_text text
  words_of_phrase (NowIs o p value) = 3 + words_of_object o
  words_of_phrase (NowHeld o r holder) = 2 + words_of_object o + words_of_object holder
  words_of_phrase (NowNowhere o) = 3 + words_of_object o
  words_of_phrase (Move o holder) = 2 + words_of_object o + words_of_object holder
  words_of_phrase (NowNumber p o number) = words_of_change o number
  words_of_phrase (NowVariable v number) = 1 + words_of_number number
  words_of_phrase (NowValued o q value) = 3 + words_of_object o
  words_of_phrase (Try silent action noun second) = 2 + words_of_noun noun + words_of_noun second
  words_of_phrase (Follow book) = 3
  words_of_phrase (Leave flow) = 2
  words_of_phrase (EndStory text) = 2
  words_of_phrase (If condition a b) = 1 + words_of_condition condition + words_of_body a + words_of_body b
  words_of_phrase (Repeat description body) = 5 + words_of_description description + words_of_body body
  words_of_phrase (Instead phrase) = words_of_phrase phrase + 1

  pub words_of_body : Body → ℕ
  words_of_body End = 0
  words_of_body (Then phrase body) = words_of_phrase phrase + words_of_body body
