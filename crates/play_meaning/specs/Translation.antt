-- The codes of trees. A part of a code is told by the number that its first test has and the place at which it stands.
use Rattle.std.specs.Prelude.{ℕ, ◌+◌, pos, negsuc, List, [], ◌∷◌, ◌++◌, length, Option, None, Some}
use Rattle.std.specs.List.{position_or_len}
use Rattle.std.specs.Str.{bytes_eq}
use Rattle.world_meaning.specs.declared.place.Rel.{Rel}
use Rattle.world_meaning.specs.declared.place.Rel.TheVariants.{Carried, Worn}
use Rattle.play_meaning.specs.Codes.{Codes}
use Rattle.play_meaning.specs.Instructions.{Asked, Instruction, IsFirst, IsSecond, sizes}
use Rattle.play_meaning.specs.Instructions as code
use Rattle.play_meaning.specs.Trees as tree
use Rattle.play_meaning.specs.Trees.{Adjective, Body, Condition, Description, First, NotSo, Number, Object, Phrase, Quality, Second, Side, Text, Touchable, Valued, Visible}
use Rattle.play_meaning.specs.declared.outcome.Flow.{Flow}
use Rattle.play_meaning.specs.declared.outcome.Flow.TheVariants.{GoesOn, NoDecision, Decides}
use Rattle.play_meaning.specs.declared.outcome.Outcome.TheVariants.{Failure, Success}

-- instructions, and the test codes that they name, in order
pub record Emitted : Type 0 where
  pub code : List Instruction
  pub tests : List (List Instruction)

abbrev pub Part : Type 0
Part = ℕ → ℕ → Emitted

-- ---- parts

abbrev pub nothing : Part
nothing test place = record { code = []; tests = [] }

abbrev pub these : List Instruction → Part
these is test place = record { code = is; tests = [] }

abbrev pub one : Instruction → Part
one i = these (i ∷ [])

-- an instruction that names a test
abbrev pub testing : (ℕ → Instruction) → List Instruction → Part
testing i code test place = record { code = i test ∷ []; tests = code ∷ [] }

abbrev pub behind : Emitted → Emitted → Emitted
behind a b = record { code = a.code ++ b.code; tests = a.tests ++ b.tests }

-- one behind the other
unfoldable pub seq : Part → Part → Part
seq a b test place = let first = a test place in behind first (b (test + length first.tests) (place + sizes first.code))

-- a truth, what is done where it is so, and what otherwise
unfoldable pub choice : Part → Part → Part → Part
choice condition a b test place =
    let asked = condition test place in
    let first = a (test + length asked.tests) (place + sizes asked.code + 3) in
    let second = place + sizes asked.code + 3 + sizes first.code + 3 in
    let other = b (test + length asked.tests + length first.tests) second in
    record {
      code = asked.code ++ code.IfZero second ∷ (first.code ++ code.Jump (second + sizes other.code) ∷ other.code);
      tests = asked.tests ++ (first.tests ++ other.tests);
    }

-- a loop of this number over the objects that pass a test
unfoldable pub loop : ℕ → List Instruction → Part → Part
loop k passes body test place =
    let turn = body (test + 1) (place + 8) in
    record {
      code = code.Begin k ∷ code.Next k test (place + 8 + sizes turn.code + 3) ∷ (turn.code ++ code.Jump (place + 2) ∷ []);
      tests = passes ∷ turn.tests;
    }

-- ---- objects and descriptions: they name no test

abbrev pub object_code : Object → List Instruction
object_code (tree.The o) = code.Num (pos o) ∷ []
object_code tree.Noun = code.Noun ∷ []
object_code tree.SecondNoun = code.Second ∷ []
object_code tree.Location = code.Location ∷ []
object_code tree.Nothing = code.Num (negsuc 0) ∷ []
object_code (tree.Turning k) = code.Loop k ∷ []
object_code (tree.RoomFrom d room) = object_code d ++ object_code room ++ code.Room ∷ []
object_code (tree.DoorFrom d room) = object_code d ++ object_code room ++ code.Door ∷ []

abbrev pub and_code : List Instruction → List Instruction → List Instruction
and_code a b = a ++ b ++ code.And ∷ []

-- the object that this code gives is no nothing
abbrev pub is_there_code : List Instruction → List Instruction
is_there_code o = o ++ code.Num (negsuc 0) ∷ code.Eq ∷ code.Not ∷ []

abbrev pub asked_of : Side → Asked
asked_of First = IsFirst
asked_of Second = IsSecond

-- of nothing none of them is true
unfoldable pub adjective_code : List Instruction → Adjective → List Instruction
adjective_code o (Quality p side) = o ++ code.Flag p (asked_of side) ∷ []
adjective_code o (Valued q value) = o ++ code.Valued q value ∷ []
adjective_code o Visible = o ++ code.Visible ∷ []
adjective_code o Touchable = o ++ code.Touchable ∷ []
adjective_code o (NotSo adjective) = and_code (is_there_code o) (adjective_code o adjective ++ code.Not ∷ [])

abbrev pub adjectives_code : List Instruction → List Adjective → List Instruction
adjectives_code o [] = is_there_code o
adjectives_code o (adjective ∷ adjectives) = and_code (adjective_code o adjective) (adjectives_code o adjectives)

abbrev pub kind_code : List Instruction → Option ℕ → List Instruction → List Instruction
kind_code o None more = more
kind_code o (Some kind) more = and_code (o ++ code.Kind kind ∷ []) more

-- the object that this code gives is one of those that a description means
unfoldable pub description_code : List Instruction → Description → List Instruction
description_code o (tree.Those adjectives kind) = kind_code o kind (adjectives_code o adjectives)
description_code o (tree.ThoseHeld adjectives kind r holder) =
    and_code (kind_code o kind (adjectives_code o adjectives)) (o ++ object_code holder ++ code.Held r ∷ [])

-- the test of a description, inside so many loops
abbrev pub test_code : ℕ → Description → List Instruction
test_code k description = description_code (code.Loop k ∷ []) description ++ code.Answer ∷ []

-- ---- numbers, conditions and texts, inside so many loops

unfoldable pub number_part : ℕ → Number → Part
number_part k (tree.Literal n) = one (code.Num n)
number_part k (tree.Variable v) = one (code.Var v)
number_part k (tree.PropertyOf p o) = these (object_code o ++ code.Prop p ∷ [])
number_part k (tree.CountOf description) = testing (code.Count k) (test_code k description)
number_part k tree.TurnCount = one code.Turns
number_part k (tree.Plus a b) = seq (number_part k a) (seq (number_part k b) (one code.Add))
number_part k (tree.Minus a b) = seq (number_part k a) (seq (number_part k b) (one code.Sub))
number_part k (tree.Times a b) = seq (number_part k a) (seq (number_part k b) (one code.Mul))

abbrev pub held_code : List Instruction → Rel → List Instruction → List Instruction
held_code o r holder = o ++ holder ++ code.Held r ∷ []

unfoldable pub condition_part : ℕ → Condition → Part
condition_part k (tree.IsSo o adjective) = these (adjective_code (object_code o) adjective)
condition_part k (tree.IsOne o description) = these (description_code (object_code o) description)
condition_part k (tree.IsSame a b) = these (object_code a ++ object_code b ++ code.Eq ∷ [])
condition_part k (tree.IsHeld o r holder) = these (held_code (object_code o) r (object_code holder))
condition_part k (tree.IsHeldByOne o r description) = these (description_code (object_code o ++ code.Holder r ∷ []) description)
condition_part k (tree.Has holder o) = these (held_code (object_code o) Carried (object_code holder) ++ held_code (object_code o) Worn (object_code holder) ++ code.Or ∷ [])
condition_part k (tree.Encloses holder o) = these (object_code holder ++ object_code o ++ code.Encloses ∷ [])
condition_part k (tree.HasDescription o) = these (object_code o ++ code.HasDescription ∷ [])
condition_part k (tree.Equals a b) = seq (number_part k a) (seq (number_part k b) (one code.Eq))
condition_part k (tree.IsLess a b) = seq (number_part k a) (seq (number_part k b) (one code.Less))
condition_part k (tree.IsAtMost a b) = seq (number_part k a) (seq (number_part k b) (one code.AtMost))
condition_part k (tree.Happens scene) = one (code.Happens scene)
condition_part k tree.InDarkness = one code.Dark
condition_part k (tree.Not a) = seq (condition_part k a) (one code.Not)
condition_part k (tree.And a b) = seq (condition_part k a) (seq (condition_part k b) (one code.And))
condition_part k (tree.Or a b) = seq (condition_part k a) (seq (condition_part k b) (one code.Or))

-- each string by its number
unfoldable pub text_part : (List ℕ → ℕ) → ℕ → Text → Part
text_part string k tree.Silence = nothing
text_part string k (tree.Bytes bytes more) = seq (one (code.Say (string bytes))) (text_part string k more)
text_part string k (tree.Figure number more) = seq (seq (number_part k number) (one code.Figure)) (text_part string k more)
text_part string k (tree.Name naming o more) = seq (these (object_code o ++ code.Name naming ∷ [])) (text_part string k more)
text_part string k (tree.Listing naming description more) = seq (testing (code.Names naming k) (test_code k description)) (text_part string k more)
text_part string k (tree.DescriptionOf o more) = seq (these (object_code o ++ code.Description ∷ [])) (text_part string k more)
text_part string k (tree.ValueName q o more) = seq (these (object_code o ++ code.ValueName q ∷ [])) (text_part string k more)
text_part string k (tree.IfSaid condition a b more) = seq (choice (condition_part k condition) (text_part string k a) (text_part string k b)) (text_part string k more)

-- ---- phrases

abbrev pub leave_part : Flow → Part
leave_part GoesOn = nothing
leave_part NoDecision = one code.NoDecision
leave_part (Decides Success) = one code.Success
leave_part (Decides Failure) = one code.Failure

unfoldable mutual
  pub phrase_part : (List ℕ → ℕ) → ℕ → Phrase → Part
  phrase_part string k (tree.Say text) = text_part string k text
  phrase_part string k (tree.NowIs o p value) = these (object_code o ++ code.SetFlag p value ∷ [])
  phrase_part string k (tree.NowHeld o r holder) = these (object_code o ++ object_code holder ++ code.PutAt r ∷ [])
  phrase_part string k (tree.NowNowhere o) = these (object_code o ++ code.Away ∷ [])
  phrase_part string k (tree.Move o holder) = these (object_code o ++ object_code holder ++ code.Move ∷ [])
  phrase_part string k (tree.NowNumber p o number) = seq (seq (these (object_code o)) (number_part k number)) (one (code.SetProp p))
  phrase_part string k (tree.NowVariable v number) = seq (number_part k number) (one (code.SetVar v))
  phrase_part string k (tree.NowValued o q value) = these (object_code o ++ code.SetValue q value ∷ [])
  phrase_part string k (tree.Try silent action noun second) = these (object_code noun ++ object_code second ++ code.Try silent action ∷ [])
  phrase_part string k (tree.Follow book) = one (code.Follow book)
  phrase_part string k (tree.Leave flow) = leave_part flow
  phrase_part string k (tree.EndStory text) = one (code.EndStory (string text))
  phrase_part string k (tree.If condition a b) = choice (condition_part k condition) (body_part string k a) (body_part string k b)
  phrase_part string k (tree.Repeat description body) = loop k (test_code k description) (body_part string (k + 1) body)
  phrase_part string k (tree.Instead phrase) = seq (phrase_part string k phrase) (one code.Failure)

  pub body_part : (List ℕ → ℕ) → ℕ → Body → Part
  body_part string k tree.End = nothing
  body_part string k (tree.Then phrase body) = seq (phrase_part string k phrase) (body_part string k body)

-- the code of a body and its tests, where it has this number
abbrev pub body_codes : (List ℕ → ℕ) → ℕ → Body → List (List Instruction)
body_codes string n body = let emitted = seq (body_part string 0 body) (one code.Done) (n + 1) 0 in emitted.code ∷ emitted.tests

-- ---- strings

-- the strings that a text says, in order
abbrev pub strings_of_text : Text → List (List ℕ)
strings_of_text tree.Silence = []
strings_of_text (tree.Bytes bytes more) = bytes ∷ strings_of_text more
strings_of_text (tree.Figure number more) = strings_of_text more
strings_of_text (tree.Name naming o more) = strings_of_text more
strings_of_text (tree.Listing naming description more) = strings_of_text more
strings_of_text (tree.DescriptionOf o more) = strings_of_text more
strings_of_text (tree.ValueName q o more) = strings_of_text more
strings_of_text (tree.IfSaid condition a b more) = strings_of_text a ++ strings_of_text b ++ strings_of_text more

unfoldable mutual
  pub strings_of_phrase : Phrase → List (List ℕ)
  strings_of_phrase (tree.Say text) = strings_of_text text
  strings_of_phrase (tree.EndStory text) = text ∷ []
  strings_of_phrase (tree.If condition a b) = strings_of_body a ++ strings_of_body b
  strings_of_phrase (tree.Repeat description body) = strings_of_body body
  strings_of_phrase (tree.Instead phrase) = strings_of_phrase phrase
  strings_of_phrase _ = []

  pub strings_of_body : Body → List (List ℕ)
  strings_of_body tree.End = []
  strings_of_body (tree.Then phrase body) = strings_of_phrase phrase ++ strings_of_body body

-- a body by itself: its strings, its code and its tests
unfoldable pub translated : Body → Codes
translated body = record {
  strings = strings_of_body body;
  codes = body_codes (λ string. position_or_len (bytes_eq string) (strings_of_body body)) 0 body;
}

-- a condition by itself: its code and its tests
unfoldable pub translated_condition : Condition → Codes
translated_condition condition =
    let emitted = seq (condition_part 0 condition) (one code.Answer) 1 0 in record { strings = []; codes = emitted.code ∷ emitted.tests }
