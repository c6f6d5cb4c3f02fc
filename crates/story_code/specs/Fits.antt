-- What tells whether trees fit, as `Fitting` says: inside so many loops `k`, with so much room for more operands.
use Rattle.std.specs.Prelude.{ℕ, ◌+◌, ◌-◌, nat_lt, Bool, true, ◌&&◌, List, [], ◌∷◌, Option, None, Some, slice_index_or}
use Rattle.std.specs.List.{list_all}
use Rattle.play_meaning.specs.Meant.{body_meant, condition_meant, description_meant, number_meant, object_meant}
use Rattle.play_meaning.specs.Stands.{is_body}
use Rattle.play_meaning.specs.Trees.{Adjective, And, Body, Bytes, Condition, CountOf, Description, DescriptionOf, DoorFrom, Encloses, End, EndStory, Equals, Figure, Follow, Happens, Has, HasDescription, If, IfSaid, InDarkness, Instead, IsAtMost, IsHeld, IsHeldByOne, IsLess, IsOne, IsSame, IsSo, Leave, Listing, Minus, Move, Name, Not, NotSo, NowHeld, NowIs, NowNowhere, NowNumber, NowValued, NowVariable, Number, Object, Or, Phrase, Plus, PropertyOf, Quality, Repeat, RoomFrom, Say, Silence, Text, The, Then, Those, ThoseHeld, Times, Try, Turning, Valued, ValueName, Variable}
use Rattle.play_meaning.specs.declared.operand.Counts.{Counts}
use Rattle.play_meaning.specs.declared.operand.Use.{Use}
use Rattle.play_meaning.specs.declared.operand.Use.TheVariants as role
use Rattle.play_meaning.specs.declared.tree.phrase.Branch.{Branch}
use Rattle.play_meaning.specs.declared.tree.said.Piece.{Piece}
use Rattle.play_meaning.specs.declared.tree.said.Piece.TheVariants as piece
use Rattle.play_meaning.specs.declared.tree.said.Said.{Said}
use Rattle.play_meaning.specs.declared.tree.said.Said.TheVariants as said

-- ---- objects and descriptions

-- a kind of value is there, and one of its values
abbrev pub value_kind_fits : Counts → ℕ → Bool
value_kind_fits z q = nat_lt 0 (slice_index_or z.values q 0)

abbrev pub value_fits : Counts → ℕ → ℕ → Bool
value_fits z q value = nat_lt value (slice_index_or z.values q 0)

abbrev pub object_fits : Counts → ℕ → Object → ℕ → Bool
object_fits z k (The o) room = nat_lt o z.objects && nat_lt 0 room
object_fits z k (Turning loop) room = nat_lt loop k && nat_lt 0 room
object_fits z k (RoomFrom d from) room = object_fits z k d room && object_fits z k from (room - 1)
object_fits z k (DoorFrom d from) room = object_fits z k d room && object_fits z k from (room - 1)
object_fits z k _ room = nat_lt 0 room

abbrev pub is_there_fits : (ℕ → Bool) → ℕ → Bool
is_there_fits o room = o room && nat_lt 0 (room - 1)

abbrev pub adjective_fits : Counts → (ℕ → Bool) → Adjective → ℕ → Bool
adjective_fits z o (Quality p side) room = nat_lt p z.flags && o room
adjective_fits z o (Valued q value) room = value_fits z q value && o room
adjective_fits z o (NotSo adjective) room = is_there_fits o room && adjective_fits z o adjective (room - 1)
adjective_fits z o _ room = o room

abbrev pub adjectives_fit : Counts → (ℕ → Bool) → List Adjective → ℕ → Bool
adjectives_fit z o [] room = is_there_fits o room
adjectives_fit z o (adjective ∷ adjectives) room = adjective_fits z o adjective room && adjectives_fit z o adjectives (room - 1)

abbrev pub those_fit : Counts → (ℕ → Bool) → List Adjective → Option ℕ → ℕ → Bool
those_fit z o adjectives None room = adjectives_fit z o adjectives room
those_fit z o adjectives (Some kind) room = (nat_lt kind z.kinds && o room) && adjectives_fit z o adjectives (room - 1)

abbrev pub description_fits : Counts → ℕ → (ℕ → Bool) → Description → ℕ → Bool
description_fits z k o (Those adjectives kind) room = those_fit z o adjectives kind room
description_fits z k o (ThoseHeld adjectives kind r holder) room = those_fit z o adjectives kind room && (o (room - 1) && object_fits z k holder (room - 1 - 1))

-- it asks about the object of one loop more
abbrev pub test_fits : Counts → ℕ → Description → Bool
test_fits z k description = nat_lt k 9 && description_fits z k (object_fits z (k + 1) (Turning k)) description 64

-- ---- numbers and conditions

unfoldable pub number_fits : Counts → ℕ → Number → ℕ → Bool
number_fits z k (Variable v) room = nat_lt v z.variables && nat_lt 0 room
number_fits z k (PropertyOf p o) room = nat_lt p z.numbers && object_fits z k o room
number_fits z k (CountOf description) room = nat_lt 0 room && test_fits z k description
number_fits z k (Plus a b) room = number_fits z k a room && number_fits z k b (room - 1)
number_fits z k (Minus a b) room = number_fits z k a room && number_fits z k b (room - 1)
number_fits z k (Times a b) room = number_fits z k a room && number_fits z k b (room - 1)
number_fits z k _ room = nat_lt 0 room

abbrev pub objects_fit : Counts → ℕ → Object → Object → ℕ → Bool
objects_fit z k a b room = object_fits z k a room && object_fits z k b (room - 1)

abbrev pub numbers_fit : Counts → ℕ → Number → Number → ℕ → Bool
numbers_fit z k a b room = number_fits z k a room && number_fits z k b (room - 1)

unfoldable pub condition_fits : Counts → ℕ → Condition → ℕ → Bool
condition_fits z k (IsSo o adjective) room = adjective_fits z (object_fits z k o) adjective room
condition_fits z k (IsOne o description) room = description_fits z k (object_fits z k o) description room
condition_fits z k (IsSame a b) room = objects_fit z k a b room
condition_fits z k (IsHeld o r holder) room = objects_fit z k o holder room
condition_fits z k (IsHeldByOne o r description) room = description_fits z k (object_fits z k o) description room
condition_fits z k (Has holder o) room = objects_fit z k o holder room && objects_fit z k o holder (room - 1)
condition_fits z k (Encloses holder o) room = objects_fit z k holder o room
condition_fits z k (HasDescription o) room = object_fits z k o room
condition_fits z k (Equals a b) room = numbers_fit z k a b room
condition_fits z k (IsLess a b) room = numbers_fit z k a b room
condition_fits z k (IsAtMost a b) room = numbers_fit z k a b room
condition_fits z k (Happens scene) room = nat_lt scene z.scenes && nat_lt 0 room
condition_fits z k InDarkness room = nat_lt 0 room
condition_fits z k (Not a) room = condition_fits z k a room
condition_fits z k (And a b) room = condition_fits z k a room && condition_fits z k b (room - 1)
condition_fits z k (Or a b) room = condition_fits z k a room && condition_fits z k b (room - 1)

-- ---- texts and phrases, with room for sixty-four

unfoldable pub text_fits : Counts → Use → (List ℕ → ℕ) → ℕ → Text → Bool
text_fits z whose string k Silence = true
text_fits z whose string k (Bytes bytes more) = nat_lt (string bytes) z.strings && text_fits z whose string k more
text_fits z whose string k (Figure number more) = number_fits z k number 64 && text_fits z whose string k more
text_fits z whose string k (Name naming o more) = object_fits z k o 64 && text_fits z whose string k more
text_fits z whose string k (Listing naming description more) = test_fits z k description && text_fits z whose string k more
text_fits z whose string k (DescriptionOf o more) = (is_body whose && object_fits z k o 64) && text_fits z whose string k more
text_fits z whose string k (ValueName q o more) = (value_kind_fits z q && object_fits z k o 64) && text_fits z whose string k more
text_fits z whose string k (IfSaid condition a b more) = condition_fits z k condition 64 && ((text_fits z whose string k a && text_fits z whose string k b) && text_fits z whose string k more)

abbrev pub piece_fits : Counts → Use → (List ℕ → ℕ) → ℕ → Piece → Bool
piece_fits z whose string k (piece.Bytes bytes) = nat_lt (string bytes) z.strings
piece_fits z whose string k (piece.Figure number) = number_fits z k (number_meant number) 64
piece_fits z whose string k (piece.Name naming o) = object_fits z k (object_meant o) 64
piece_fits z whose string k (piece.Listing naming description) = test_fits z k (description_meant description)
piece_fits z whose string k (piece.DescriptionOf o) = is_body whose && object_fits z k (object_meant o) 64
piece_fits z whose string k (piece.ValueName q o) = value_kind_fits z q && object_fits z k (object_meant o) 64

abbrev pub said_fits : Counts → Use → (List ℕ → ℕ) → ℕ → Said → Bool
said_fits z whose string k (said.Plain piece) = piece_fits z whose string k piece
said_fits z whose string k (said.If condition pieces others) =
    condition_fits z k (condition_meant condition) 64 && (list_all (piece_fits z whose string k) pieces.items && list_all (piece_fits z whose string k) others.items)

unfoldable mutual
  pub phrase_fits : Counts → (List ℕ → ℕ) → ℕ → Phrase → Bool
  phrase_fits z string k (Say text) = text_fits z role.Body string k text
  phrase_fits z string k (NowIs o p value) = nat_lt p z.flags && object_fits z k o 64
  phrase_fits z string k (NowHeld o r holder) = objects_fit z k o holder 64
  phrase_fits z string k (NowNowhere o) = object_fits z k o 64
  phrase_fits z string k (Move o holder) = objects_fit z k o holder 64
  phrase_fits z string k (NowNumber p o number) = nat_lt p z.numbers && (object_fits z k o 64 && number_fits z k number 63)
  phrase_fits z string k (NowVariable v number) = nat_lt v z.variables && number_fits z k number 64
  phrase_fits z string k (NowValued o q value) = value_fits z q value && object_fits z k o 64
  phrase_fits z string k (Try silent action noun second) = nat_lt action z.actions && objects_fit z k noun second 64
  phrase_fits z string k (Follow book) = nat_lt book z.books
  phrase_fits z string k (Leave flow) = true
  phrase_fits z string k (EndStory text) = nat_lt (string text) z.strings
  phrase_fits z string k (If condition a b) = condition_fits z k condition 64 && (body_fits z string k a && body_fits z string k b)
  phrase_fits z string k (Repeat description body) = test_fits z k description && body_fits z string (k + 1) body
  phrase_fits z string k (Instead phrase) = phrase_fits z string k phrase

  pub body_fits : Counts → (List ℕ → ℕ) → ℕ → Body → Bool
  body_fits z string k End = true
  body_fits z string k (Then phrase body) = phrase_fits z string k phrase && body_fits z string k body

abbrev pub branch_fits : Counts → (List ℕ → ℕ) → ℕ → Branch → Bool
branch_fits z string k branch = condition_fits z k (condition_meant branch.condition) 64 && body_fits z string k (body_meant branch.phrases.items)
