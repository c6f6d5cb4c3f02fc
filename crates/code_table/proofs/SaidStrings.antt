-- The strings that the codes of texts, rules and scenes name are those that these say.
use Rattle.std.proofs.Common.{◌≡◌, ◌∙◌, ap, sym, refl, ℕ, ◌+◌, negsuc, List, [], ◌∷◌, ◌++◌, length, append-nil, Option, Some, None}
use Rattle.std.specs.List.{flat_map}
use Rattle.std.specs.Prelude.{map}
use Rattle.std.proofs.lemmas.List.{map-append}
use Rattle.world_meaning.specs.declared.place.Rel.TheVariants.{Carried, Worn}
use Rattle.play_meaning.specs.Instructions.{sizes}
use Rattle.play_meaning.specs.declared.instruction.Instruction.{Instruction}
use Rattle.play_meaning.specs.declared.instruction.Instruction.TheVariants as code
use Rattle.play_meaning.specs.TranslatedScripts.{description_part}
use Rattle.play_meaning.specs.Translation.{Part, adjective_code, adjectives_code, asked_of, body_part, choice, condition_part, description_code, held_code, is_there_code, kind_code, leave_part, loop, number_part, object_code, one, phrase_part, seq, strings_of_body, strings_of_phrase, strings_of_text, test_code, testing, text_part, these}
use Rattle.play_meaning.specs.Trees as tree
use Rattle.play_meaning.specs.Trees.{Adjective, Body, Condition, Description, NotSo, Number, Object, Phrase, Quality, Text, Touchable, Valued, Visible}
use Rattle.play_meaning.specs.declared.outcome.Flow.{Flow}
use Rattle.play_meaning.specs.declared.outcome.Flow.TheVariants.{Decides, GoesOn, NoDecision}
use Rattle.play_meaning.specs.declared.outcome.Outcome.TheVariants.{Failure, Success}
use Rattle.story_code.specs.Emits.{whole_body}
use Rattle.code_table.specs.Emitted.{codes_of_origins, origins_emitted, origins_from}
use Rattle.code_table.specs.Origins.{Asks, Describes, Does, Origin, part_of, strings_of_origin}
use Rattle.code_table.specs.Strings.{strings_in, strings_of}
use Rattle.code_table.proofs.Lists.{flat_append}

in_append : (a b : List Instruction) (xs ys : List ℕ) → strings_in a ≡ xs → strings_in b ≡ ys → strings_in (a ++ b) ≡ xs ++ ys
in_append a b xs ys first second = flat_append _ a b ∙ ap (λ l. l ++ strings_in b) first ∙ ap (λ l. xs ++ l) second

of_append : (a b : List (List Instruction)) → strings_of a ≡ [] → strings_of b ≡ [] → strings_of (a ++ b) ≡ []
of_append a b first second = flat_append strings_in a b ∙ ap (λ l. l ++ strings_of b) first ∙ second

-- ---- codes that name none

none : (a b : List Instruction) → strings_in a ≡ [] → strings_in b ≡ [] → strings_in (a ++ b) ≡ []
none a b first second = in_append a b [] [] first second

object_none : (o : Object) → strings_in (object_code o) ≡ []
object_none (tree.The o) = refl
object_none tree.Noun = refl
object_none tree.SecondNoun = refl
object_none tree.Location = refl
object_none tree.Nothing = refl
object_none (tree.Turning k) = refl
object_none (tree.RoomFrom d room) = none (object_code d ++ object_code room) (code.Room ∷ []) (none (object_code d) (object_code room) (object_none d) (object_none room)) refl
object_none (tree.DoorFrom d room) = none (object_code d ++ object_code room) (code.Door ∷ []) (none (object_code d) (object_code room) (object_none d) (object_none room)) refl

and_none : (a b : List Instruction) → strings_in a ≡ [] → strings_in b ≡ [] → strings_in (a ++ b ++ code.And ∷ []) ≡ []
and_none a b first second = none (a ++ b) (code.And ∷ []) (none a b first second) refl

adjective_none : (o : List Instruction) → strings_in o ≡ [] → (adjective : Adjective) → strings_in (adjective_code o adjective) ≡ []
unfolding adjective_code
adjective_none o is (Quality p side) = none o (code.Flag p (asked_of side) ∷ []) is refl
adjective_none o is (Valued q value) = none o (code.Valued q value ∷ []) is refl
adjective_none o is Visible = none o (code.Visible ∷ []) is refl
adjective_none o is Touchable = none o (code.Touchable ∷ []) is refl
adjective_none o is (NotSo adjective) =
    and_none (is_there_code o) (adjective_code o adjective ++ code.Not ∷ []) (none o (code.Num (negsuc 0) ∷ code.Eq ∷ code.Not ∷ []) is refl)
    (none (adjective_code o adjective) (code.Not ∷ []) (adjective_none o is adjective) refl)

adjectives_none : (o : List Instruction) → strings_in o ≡ [] → (adjectives : List Adjective) → strings_in (adjectives_code o adjectives) ≡ []
adjectives_none o is [] = none o (code.Num (negsuc 0) ∷ code.Eq ∷ code.Not ∷ []) is refl
adjectives_none o is (adjective ∷ adjectives) = and_none (adjective_code o adjective) (adjectives_code o adjectives) (adjective_none o is adjective) (adjectives_none o is adjectives)

kind_none : (o : List Instruction) → strings_in o ≡ [] → (kind : Option ℕ) (more : List Instruction) → strings_in more ≡ [] → strings_in (kind_code o kind more) ≡ []
kind_none o is None more others = others
kind_none o is (Some kind) more others = and_none (o ++ code.Kind kind ∷ []) more (none o (code.Kind kind ∷ []) is refl) others

description_none : (o : List Instruction) → strings_in o ≡ [] → (description : Description) → strings_in (description_code o description) ≡ []
unfolding description_code
description_none o is (tree.Those adjectives kind) = kind_none o is kind (adjectives_code o adjectives) (adjectives_none o is adjectives)
description_none o is (tree.ThoseHeld adjectives kind r holder) =
    and_none (kind_code o kind (adjectives_code o adjectives)) (o ++ object_code holder ++ code.Held r ∷ []) (kind_none o is kind (adjectives_code o adjectives) (adjectives_none o is adjectives))
    (none (o ++ object_code holder) (code.Held r ∷ []) (none o (object_code holder) is (object_none holder)) refl)

test_none : (k : ℕ) (description : Description) → strings_in (test_code k description) ≡ []
test_none k description = none (description_code (code.Loop k ∷ []) description) (code.Answer ∷ []) (description_none (code.Loop k ∷ []) refl description) refl

-- ---- parts, wherever they stand

-- its code names these strings, its tests none
abbrev pub Names_strings : Part → List ℕ → Type 0
Names_strings part strings = (test place : ℕ) → (strings_in (part test place).code ≡ strings) × (strings_of (part test place).tests ≡ [])

seq_names : (a b : Part) (xs ys : List ℕ) → Names_strings a xs → Names_strings b ys → Names_strings (seq a b) (xs ++ ys)
unfolding seq
seq_names a b xs ys first second test place =
    let one = a test place in
    let other = b (test + length one.tests) (place + sizes one.code) in
    let f = first test place in
    let s = second (test + length one.tests) (place + sizes one.code) in
    (in_append one.code other.code xs ys f.0 s.0, of_append one.tests other.tests f.1 s.1)

these_name : (is : List Instruction) → strings_in is ≡ [] → Names_strings (these is) []
these_name is none test place = (none, refl)

choice_names : (condition a b : Part) (xs ys : List ℕ) → Names_strings condition [] → Names_strings a xs → Names_strings b ys → Names_strings (choice condition a b) (xs ++ ys)
unfolding choice
choice_names condition a b xs ys asks first second test place =
    let asked = condition test place in
    let q = asks test place in
    let test_a = test + length asked.tests in
    let place_a = place + sizes asked.code + 3 in
    let one = a test_a place_a in
    let f = first test_a place_a in
    let test_b = test + length asked.tests + length one.tests in
    let place_b = place + sizes asked.code + 3 + sizes one.code + 3 in
    let other = b test_b place_b in
    let s = second test_b place_b in (
      in_append asked.code (code.IfZero place_b ∷ (one.code ++ code.Jump (place_b + sizes other.code) ∷ other.code)) [] (xs ++ ys) q.0
          (in_append one.code (code.Jump (place_b + sizes other.code) ∷ other.code) xs ys f.0 s.0),
      of_append asked.tests (one.tests ++ other.tests) q.1 (of_append one.tests other.tests f.1 s.1),
    )

loop_names : (k : ℕ) (passes : List Instruction) (body : Part) (xs : List ℕ) → strings_in passes ≡ [] → Names_strings body xs → Names_strings (loop k passes body) (xs ++ [])
unfolding loop
loop_names k passes body xs none turns test place =
    let turn = body (test + 1) (place + 8) in
    let t = turns (test + 1) (place + 8) in
    (in_append turn.code (code.Jump (place + 2) ∷ []) xs [] t.0 refl, ap (λ l. l ++ strings_of turn.tests) none ∙ t.1)

three : (a b c : Part) → Names_strings a [] → Names_strings b [] → Names_strings c [] → Names_strings (seq a (seq b c)) []
three a b c first second third = seq_names a (seq b c) [] [] first (seq_names b c [] [] second third)

number_names : (k : ℕ) (number : Number) → Names_strings (number_part k number) []
unfolding number_part
number_names k (tree.Literal n) = these_name (code.Num n ∷ []) refl
number_names k (tree.Variable v) = these_name (code.Var v ∷ []) refl
number_names k (tree.PropertyOf p o) = these_name (object_code o ++ code.Prop p ∷ []) (none (object_code o) (code.Prop p ∷ []) (object_none o) refl)
number_names k (tree.CountOf description) = λ test place. (refl, append-nil _ ∙ test_none k description)
number_names k tree.TurnCount = these_name (code.Turns ∷ []) refl
number_names k (tree.Plus a b) = three (number_part k a) (number_part k b) (one code.Add) (number_names k a) (number_names k b) (these_name (code.Add ∷ []) refl)
number_names k (tree.Minus a b) = three (number_part k a) (number_part k b) (one code.Sub) (number_names k a) (number_names k b) (these_name (code.Sub ∷ []) refl)
number_names k (tree.Times a b) = three (number_part k a) (number_part k b) (one code.Mul) (number_names k a) (number_names k b) (these_name (code.Mul ∷ []) refl)

held_none : (o holder : Object) (last : Instruction) → strings_in (last ∷ []) ≡ [] → strings_in (object_code o ++ object_code holder ++ last ∷ []) ≡ []
held_none o holder last is = none (object_code o ++ object_code holder) (last ∷ []) (none (object_code o) (object_code holder) (object_none o) (object_none holder)) is

condition_names : (k : ℕ) (condition : Condition) → Names_strings (condition_part k condition) []
unfolding condition_part
condition_names k (tree.IsSo o adjective) = these_name (adjective_code (object_code o) adjective) (adjective_none (object_code o) (object_none o) adjective)
condition_names k (tree.IsOne o description) = these_name (description_code (object_code o) description) (description_none (object_code o) (object_none o) description)
condition_names k (tree.IsSame a b) = these_name (object_code a ++ object_code b ++ code.Eq ∷ []) (held_none a b code.Eq refl)
condition_names k (tree.IsHeld o r holder) = these_name (held_code (object_code o) r (object_code holder)) (held_none o holder (code.Held r) refl)
condition_names k (tree.IsHeldByOne o r description) =
    these_name (description_code (object_code o ++ code.Holder r ∷ []) description) (description_none (object_code o ++ code.Holder r ∷ []) (none (object_code o) (code.Holder r ∷ []) (object_none o) refl) description)
condition_names k (tree.Has holder o) =
    these_name (held_code (object_code o) Carried (object_code holder) ++ held_code (object_code o) Worn (object_code holder) ++ code.Or ∷ [])
    (none (held_code (object_code o) Carried (object_code holder) ++ held_code (object_code o) Worn (object_code holder)) (code.Or ∷ [])
    (none (held_code (object_code o) Carried (object_code holder)) (held_code (object_code o) Worn (object_code holder)) (held_none o holder (code.Held Carried) refl) (held_none o holder (code.Held Worn) refl)) refl)
condition_names k (tree.Encloses holder o) = these_name (object_code holder ++ object_code o ++ code.Encloses ∷ []) (held_none holder o code.Encloses refl)
condition_names k (tree.HasDescription o) = these_name (object_code o ++ code.HasDescription ∷ []) (none (object_code o) (code.HasDescription ∷ []) (object_none o) refl)
condition_names k (tree.Equals a b) = three (number_part k a) (number_part k b) (one code.Eq) (number_names k a) (number_names k b) (these_name (code.Eq ∷ []) refl)
condition_names k (tree.IsLess a b) = three (number_part k a) (number_part k b) (one code.Less) (number_names k a) (number_names k b) (these_name (code.Less ∷ []) refl)
condition_names k (tree.IsAtMost a b) = three (number_part k a) (number_part k b) (one code.AtMost) (number_names k a) (number_names k b) (these_name (code.AtMost ∷ []) refl)
condition_names k (tree.Happens scene) = these_name (code.Happens scene ∷ []) refl
condition_names k tree.InDarkness = these_name (code.Dark ∷ []) refl
condition_names k (tree.Not a) = seq_names (condition_part k a) (one code.Not) [] [] (condition_names k a) (these_name (code.Not ∷ []) refl)
condition_names k (tree.And a b) = three (condition_part k a) (condition_part k b) (one code.And) (condition_names k a) (condition_names k b) (these_name (code.And ∷ []) refl)
condition_names k (tree.Or a b) = three (condition_part k a) (condition_part k b) (one code.Or) (condition_names k a) (condition_names k b) (these_name (code.Or ∷ []) refl)

-- ---- texts

module _ (string : List ℕ → ℕ) where
  alike : (part : Part) (xs ys : List ℕ) → xs ≡ ys → Names_strings part xs → Names_strings part ys
  alike part xs ys same names test place = let both = names test place in (both.0 ∙ same, both.1)

  text_names : (k : ℕ) (text : Text) → Names_strings (text_part string k text) (map string (strings_of_text text))
  unfolding text_part
  text_names k tree.Silence = λ test place. (refl, refl)
  text_names k (tree.Bytes bytes more) = seq_names (one (code.Say (string bytes))) (text_part string k more) (string bytes ∷ []) (map string (strings_of_text more)) (λ test place. (refl, refl)) (text_names k more)
  text_names k (tree.Figure number more) =
      seq_names (seq (number_part k number) (one code.Figure)) (text_part string k more) [] (map string (strings_of_text more))
      (seq_names (number_part k number) (one code.Figure) [] [] (number_names k number) (these_name (code.Figure ∷ []) refl)) (text_names k more)
  text_names k (tree.Name naming o more) =
      seq_names (these (object_code o ++ code.Name naming ∷ [])) (text_part string k more) [] (map string (strings_of_text more))
      (these_name (object_code o ++ code.Name naming ∷ []) (none (object_code o) (code.Name naming ∷ []) (object_none o) refl)) (text_names k more)
  text_names k (tree.Listing naming description more) =
      seq_names (testing (code.Names naming k) (test_code k description)) (text_part string k more) [] (map string (strings_of_text more))
      (λ test place. (refl, append-nil _ ∙ test_none k description)) (text_names k more)
  text_names k (tree.DescriptionOf o more) =
      seq_names (these (object_code o ++ code.Description ∷ [])) (text_part string k more) [] (map string (strings_of_text more))
      (these_name (object_code o ++ code.Description ∷ []) (none (object_code o) (code.Description ∷ []) (object_none o) refl)) (text_names k more)
  text_names k (tree.ValueName q o more) =
      seq_names (these (object_code o ++ code.ValueName q ∷ [])) (text_part string k more) [] (map string (strings_of_text more))
      (these_name (object_code o ++ code.ValueName q ∷ []) (none (object_code o) (code.ValueName q ∷ []) (object_none o) refl)) (text_names k more)
  text_names k (tree.IfSaid condition a b more) =
      alike (seq (choice (condition_part k condition) (text_part string k a) (text_part string k b)) (text_part string k more))
      ((map string (strings_of_text a) ++ map string (strings_of_text b)) ++ map string (strings_of_text more)) (map string (strings_of_text a ++ strings_of_text b ++ strings_of_text more))
      (ap (λ l. l ++ map string (strings_of_text more)) (sym (map-append string (strings_of_text a) (strings_of_text b))) ∙ sym (map-append string (strings_of_text a ++ strings_of_text b) (strings_of_text more)))
      (seq_names (choice (condition_part k condition) (text_part string k a) (text_part string k b)) (text_part string k more) (map string (strings_of_text a) ++ map string (strings_of_text b)) (map string (strings_of_text more))
      (choice_names (condition_part k condition) (text_part string k a) (text_part string k b) (map string (strings_of_text a)) (map string (strings_of_text b)) (condition_names k condition) (text_names k a) (text_names k b))
      (text_names k more))

  description_names : (text : Text) → Names_strings (description_part string text) (map string (strings_of_text text))
  description_names text =
      alike (description_part string text) (map string (strings_of_text text) ++ []) (map string (strings_of_text text)) (append-nil (map string (strings_of_text text)))
      (seq_names (text_part string 0 text) (one code.Done) (map string (strings_of_text text)) [] (text_names 0 text) (these_name (code.Done ∷ []) refl))

  -- ---- phrases

  leave_names : (flow : Flow) → Names_strings (leave_part flow) []
  leave_names GoesOn = these_name [] refl
  leave_names NoDecision = these_name (code.NoDecision ∷ []) refl
  leave_names (Decides Success) = these_name (code.Success ∷ []) refl
  leave_names (Decides Failure) = these_name (code.Failure ∷ []) refl

  mutual
    unfolding phrase_part body_part strings_of_phrase strings_of_body

    phrase_names : (k : ℕ) (phrase : Phrase) → Names_strings (phrase_part string k phrase) (map string (strings_of_phrase phrase))
    phrase_names k (tree.Say text) = text_names k text
    phrase_names k (tree.NowIs o p value) = these_name (object_code o ++ code.SetFlag p value ∷ []) (none (object_code o) (code.SetFlag p value ∷ []) (object_none o) refl)
    phrase_names k (tree.NowHeld o r holder) = these_name (object_code o ++ object_code holder ++ code.PutAt r ∷ []) (held_none o holder (code.PutAt r) refl)
    phrase_names k (tree.NowNowhere o) = these_name (object_code o ++ code.Away ∷ []) (none (object_code o) (code.Away ∷ []) (object_none o) refl)
    phrase_names k (tree.Move o holder) = these_name (object_code o ++ object_code holder ++ code.Move ∷ []) (held_none o holder code.Move refl)
    phrase_names k (tree.NowNumber p o number) =
        seq_names (seq (these (object_code o)) (number_part k number)) (one (code.SetProp p)) [] []
        (seq_names (these (object_code o)) (number_part k number) [] [] (these_name (object_code o) (object_none o)) (number_names k number)) (these_name (code.SetProp p ∷ []) refl)
    phrase_names k (tree.NowVariable v number) = seq_names (number_part k number) (one (code.SetVar v)) [] [] (number_names k number) (these_name (code.SetVar v ∷ []) refl)
    phrase_names k (tree.NowValued o q value) = these_name (object_code o ++ code.SetValue q value ∷ []) (none (object_code o) (code.SetValue q value ∷ []) (object_none o) refl)
    phrase_names k (tree.Try silent action noun second) = these_name (object_code noun ++ object_code second ++ code.Try silent action ∷ []) (held_none noun second (code.Try silent action) refl)
    phrase_names k (tree.Follow book) = these_name (code.Follow book ∷ []) refl
    phrase_names k (tree.Leave flow) = leave_names flow
    phrase_names k (tree.EndStory text) = λ test place. (refl, refl)
    phrase_names k (tree.If condition a b) =
        alike (choice (condition_part k condition) (body_part string k a) (body_part string k b)) (map string (strings_of_body a) ++ map string (strings_of_body b)) (map string (strings_of_body a ++ strings_of_body b))
        (sym (map-append string (strings_of_body a) (strings_of_body b)))
        (choice_names (condition_part k condition) (body_part string k a) (body_part string k b) (map string (strings_of_body a)) (map string (strings_of_body b)) (condition_names k condition) (body_names k a) (body_names k b))
    phrase_names k (tree.Repeat description body) =
        alike (loop k (test_code k description) (body_part string (k + 1) body)) (map string (strings_of_body body) ++ []) (map string (strings_of_body body)) (append-nil (map string (strings_of_body body)))
        (loop_names k (test_code k description) (body_part string (k + 1) body) (map string (strings_of_body body)) (test_none k description) (body_names (k + 1) body))
    phrase_names k (tree.Instead phrase) =
        alike (seq (phrase_part string k phrase) (one code.Failure)) (map string (strings_of_phrase phrase) ++ []) (map string (strings_of_phrase phrase)) (append-nil (map string (strings_of_phrase phrase)))
        (seq_names (phrase_part string k phrase) (one code.Failure) (map string (strings_of_phrase phrase)) [] (phrase_names k phrase) (these_name (code.Failure ∷ []) refl))

    body_names : (k : ℕ) (body : Body) → Names_strings (body_part string k body) (map string (strings_of_body body))
    body_names k tree.End = these_name [] refl
    body_names k (tree.Then phrase body) =
        alike (seq (phrase_part string k phrase) (body_part string k body)) (map string (strings_of_phrase phrase) ++ map string (strings_of_body body)) (map string (strings_of_phrase phrase ++ strings_of_body body))
        (sym (map-append string (strings_of_phrase phrase) (strings_of_body body)))
        (seq_names (phrase_part string k phrase) (body_part string k body) (map string (strings_of_phrase phrase)) (map string (strings_of_body body)) (phrase_names k phrase) (body_names k body))

  whole_names : (body : Body) → Names_strings (whole_body string body) (map string (strings_of_body body))
  whole_names body =
      alike (whole_body string body) (map string (strings_of_body body) ++ []) (map string (strings_of_body body)) (append-nil (map string (strings_of_body body)))
      (seq_names (body_part string 0 body) (one code.Done) (map string (strings_of_body body)) [] (body_names 0 body) (these_name (code.Done ∷ []) refl))

  -- ---- origins one behind the other

  origin_names : (origin : Origin) → Names_strings (part_of string origin) (map string (strings_of_origin origin))
  origin_names (Describes text) = description_names text
  origin_names (Asks condition) = seq_names (condition_part 0 condition) (one code.Answer) [] [] (condition_names 0 condition) (these_name (code.Answer ∷ []) refl)
  origin_names (Does body) = whole_names body

  all_named : (first : ℕ) (origins : List Origin)
      → (strings_of (map (λ e. e.code) (origins_from string first origins)) ≡ map string (flat_map strings_of_origin origins)) × (strings_of (flat_map (λ e. e.tests) (origins_from string first origins)) ≡ [])
  all_named first [] = (refl, refl)
  all_named first (origin ∷ origins) =
      let e = part_of string origin first 0 in
      let own = origin_names origin first 0 in
      let later = all_named (first + length e.tests) origins in
      let rest = origins_from string (first + length e.tests) origins in
      let said = strings_of_origin origin in (
        ap (λ l. l ++ strings_of (map (λ e. e.code) rest)) own.0 ∙ ap (λ l. map string said ++ l) later.0 ∙ sym (map-append string said (flat_map strings_of_origin origins)),
        of_append e.tests (flat_map (λ e. e.tests) rest) own.1 later.1,
      )

  pub strings_in_order : (origins : List Origin) → strings_of (codes_of_origins string origins) ≡ map string (flat_map strings_of_origin origins)
  strings_in_order origins =
      let all = all_named (length origins) origins in
      let es = origins_emitted string origins in
      flat_append strings_in (map (λ e. e.code) es) (flat_map (λ e. e.tests) es) ∙ ap (λ l. strings_of (map (λ e. e.code) es) ++ l) all.1 ∙ append-nil (strings_of (map (λ e. e.code) es)) ∙ all.0
