-- Bytes can say the codes of texts and phrases, which take few bytes for each word and each string.
use Rattle.std.proofs.Common.{refl, ℕ, ◌+◌, ◌*◌, ◌<◌, ◌≤◌, ◌&&◌, nat_lt, true, List, [], ◌∷◌, ◌++◌, length, length-append, arith}
use Rattle.std.proofs.lemmas.Bool.{and_from}
use Rattle.play_meaning.specs.Instructions.{size_of}
use Rattle.play_meaning.specs.Translation.{Part, body_part, choice, condition_part, leave_part, loop, nothing, number_part, object_code, one, phrase_part, seq, strings_of_body, strings_of_phrase, strings_of_text, test_code, testing, text_part, these}
use Rattle.play_meaning.specs.Trees as tree
use Rattle.play_meaning.specs.Trees.{Body, Condition, Description, Number, Object, Phrase, Text}
use Rattle.play_meaning.specs.declared.instruction.Instruction.{Instruction}
use Rattle.play_meaning.specs.declared.instruction.Instruction.TheVariants as i
use Rattle.play_meaning.specs.declared.naming.Naming.{Naming}
use Rattle.play_meaning.specs.declared.operand.Counts.{Counts}
use Rattle.play_meaning.specs.declared.operand.Use.{Use}
use Rattle.play_meaning.specs.declared.operand.Use.TheVariants as role
use Rattle.play_meaning.specs.declared.outcome.Flow.{Flow}
use Rattle.play_meaning.specs.declared.outcome.Flow.TheVariants.{Decides, GoesOn, NoDecision}
use Rattle.play_meaning.specs.declared.outcome.Outcome.TheVariants.{Failure, Success}
use Rattle.story_code.specs.Sayable.{BodyIsSayable, DescriptionIsSayable, NumberIsSayable, ObjectsAreSayable, PhraseIsSayable, TermsAreSayable, TextIsSayable}
use Rattle.story_code.specs.ShortLaws.{IsCountedInTwoBytes}
use Rattle.story_code.specs.Shortness.{words_of_body, words_of_condition, words_of_description, words_of_noun, words_of_number, words_of_object, words_of_phrase, words_of_text}
use Rattle.story_code.proofs.ShortConditions.{ConditionIsSaid, condition_said, object_is, one_number_word, said_with_one, said_with_two, terms_said}
use Rattle.story_code.proofs.ShortDescriptions.{noun_size, object_size, one_word, size_of_three, spell_three, test_said}
use Rattle.story_code.proofs.ShortParts.{CanSpell, IsSaid, said_choice, said_loop, said_nothing, said_one, said_seq, said_testing, said_these, two_spelled, within}

string_spelled : (n : ℕ) → n < 65536 → CanSpell (i.Say n ∷ [])
string_spelled n low = (and_from (nat_lt n 65536 && true) true (two_spelled n low) refl, refl)

ending_spelled : (n : ℕ) → n < 65536 → CanSpell (i.EndStory n ∷ [])
ending_spelled n low = (and_from (nat_lt n 65536 && true) true (two_spelled n low) refl, refl)

book_spelled : (n : ℕ) → n < 65536 → CanSpell (i.Follow n ∷ [])
book_spelled n low = (and_from (nat_lt n 65536 && true) true (two_spelled n low) refl, refl)

module _ (z : Counts) (counted : IsCountedInTwoBytes z) where
  -- ---- texts

  abbrev TextIsSaid : (List ℕ → ℕ) → ℕ → Text → Type 0
  TextIsSaid string k text = IsSaid (text_part string k text) (105 * words_of_text text + 3 * length (strings_of_text text)) (words_of_text text)

  -- a piece that so many words say, in front of a text
  said_in_front : (string : List ℕ → ℕ) (k : ℕ) (piece : Part) (words : ℕ) (more : Text) → IsSaid piece (105 * words) words → TextIsSaid string k more
      → IsSaid (seq piece (text_part string k more)) (105 * (words + words_of_text more) + 3 * length (strings_of_text more)) (words + words_of_text more)
  said_in_front string k piece words more r s =
      within (seq piece (text_part string k more)) _ _ _ _ (said_seq piece (text_part string k more) (105 * words) _ words _ r s) (omega arith) (omega arith)

  figure_said : (k : ℕ) (number : Number) → NumberIsSayable z k number → words_of_number number ≤ 500 → IsSaid (seq (number_part k number) (one i.Figure)) (105 * words_of_number number) (words_of_number number)
  figure_said k number is short =
      within (seq (number_part k number) (one i.Figure)) _ _ _ _
      (said_seq (number_part k number) (one i.Figure) _ 1 _ 0 (terms_said z counted k number is.1 short) (said_one i.Figure 1 (omega arith) (refl, refl)))
      (omega (arith, one_number_word number)) (omega arith)

  listing_said : (k : ℕ) (naming : Naming) (d : Description) → DescriptionIsSayable z k d → words_of_description d ≤ 500
      → IsSaid (testing (i.Names naming k) (test_code k d)) (105 * (2 + words_of_description d)) (2 + words_of_description d)
  listing_said k naming d is short =
      within (testing (i.Names naming k) (test_code k d)) 5 _ 1 _
      (said_testing (i.Names naming k) (test_code k d) 5 (λ t. omega arith) (λ t low. (and_from (nat_lt t 65536 && true) true (two_spelled t low) refl, refl))
      (test_said z k d counted.objects is short)) (omega arith) (omega arith)

  chosen_said : (string : List ℕ → ℕ) (k : ℕ) (c : Condition) (a b : Text) → ConditionIsSaid k c → TextIsSaid string k a → TextIsSaid string k b
      → IsSaid (choice (condition_part k c) (text_part string k a) (text_part string k b))
      (105 * (words_of_condition c + words_of_text a + words_of_text b) + 3 * length (strings_of_text a) + 3 * length (strings_of_text b) + 6)
      (words_of_condition c + words_of_text a + words_of_text b)
  chosen_said string k c a b r s u =
      within (choice (condition_part k c) (text_part string k a) (text_part string k b)) _ _ _ _
      (said_choice (condition_part k c) (text_part string k a) (text_part string k b) _ _ _ _ _ _ r s u) (omega arith) (omega arith)

  pub text_said : (whose : Use) (string : List ℕ → ℕ) (k : ℕ) (text : Text) → TextIsSayable z whose string k text → words_of_text text ≤ 500 → TextIsSaid string k text
  unfolding text_part
  text_said whose string k tree.Silence is short = said_nothing
  text_said whose string k (tree.Bytes bytes more) is short =
      within (seq (one (i.Say (string bytes))) (text_part string k more)) _ _ _ _
      (said_seq (one (i.Say (string bytes))) (text_part string k more) 3 _ 0 _
      (said_one (i.Say (string bytes)) 3 (omega arith) (string_spelled (string bytes) (omega (arith, is.0, counted.strings)))) (text_said whose string k more is.1 short))
      (omega arith) (omega arith)
  text_said whose string k (tree.Figure number more) is short =
      said_in_front string k (seq (number_part k number) (one i.Figure)) (words_of_number number) more
      (figure_said k number is.0 (omega (arith, short))) (text_said whose string k more is.1 (omega (arith, short)))
  text_said whose string k (tree.Name naming o more) is short =
      said_in_front string k (these (object_code o ++ i.Name naming ∷ [])) (words_of_object o) more
      (within (these (object_code o ++ i.Name naming ∷ [])) _ _ 0 _ (said_with_one z counted k o (i.Name naming) is.0 (refl, refl)) (omega (arith, one_word o)) (omega arith))
      (text_said whose string k more is.1 (omega (arith, short)))
  text_said whose string k (tree.Listing naming d more) is short =
      said_in_front string k (testing (i.Names naming k) (test_code k d)) (2 + words_of_description d) more
      (listing_said k naming d is.0 (omega (arith, short))) (text_said whose string k more is.1 (omega (arith, short)))
  text_said whose string k (tree.DescriptionOf o more) is short =
      said_in_front string k (these (object_code o ++ i.Description ∷ [])) (2 + words_of_object o) more
      (within (these (object_code o ++ i.Description ∷ [])) _ _ 0 _ (said_with_one z counted k o i.Description is.0.1 (refl, refl)) (omega arith) (omega arith))
      (text_said whose string k more is.1 (omega (arith, short)))
  text_said whose string k (tree.ValueName q o more) is short =
      said_in_front string k (these (object_code o ++ i.ValueName q ∷ [])) (2 + words_of_object o) more
      (within (these (object_code o ++ i.ValueName q ∷ [])) _ _ 0 _ (said_with_one z counted k o (i.ValueName q) is.0.1 (refl, refl)) (omega arith) (omega arith))
      (text_said whose string k more is.1 (omega (arith, short)))
  text_said whose string k (tree.IfSaid c a b more) is short =
      let inner = choice (condition_part k c) (text_part string k a) (text_part string k b) in
      within (seq inner (text_part string k more)) _ _ _ _
      (said_seq inner (text_part string k more) _ _ _ _
      (chosen_said string k c a b (condition_said z counted k c is.0 (omega (arith, short))) (text_said whose string k a is.1.0.0 (omega (arith, short))) (text_said whose string k b is.1.0.1 (omega (arith, short))))
      (text_said whose string k more is.1.1 (omega (arith, short))))
      (omega (arith, length-append (strings_of_text a ++ strings_of_text b) (strings_of_text more), length-append (strings_of_text a) (strings_of_text b))) (omega arith)

  -- ---- phrases

  leave_said : (flow : Flow) → IsSaid (leave_part flow) 210 2
  leave_said GoesOn = within nothing 0 210 0 2 said_nothing (omega arith) (omega arith)
  leave_said NoDecision = within (one i.NoDecision) 1 210 0 2 (said_one i.NoDecision 1 (omega arith) (refl, refl)) (omega arith) (omega arith)
  leave_said (Decides Success) = within (one i.Success) 1 210 0 2 (said_one i.Success 1 (omega arith) (refl, refl)) (omega arith) (omega arith)
  leave_said (Decides Failure) = within (one i.Failure) 1 210 0 2 (said_one i.Failure 1 (omega arith) (refl, refl)) (omega arith) (omega arith)

  -- a number that is put somewhere
  set_said : (k : ℕ) (front : Part) (number : Number) (x : Instruction) (bytes : ℕ) → IsSaid front bytes 0 → TermsAreSayable z k number → words_of_number number ≤ 500 → size_of x ≤ 2 → CanSpell (x ∷ [])
      → IsSaid (seq (seq front (number_part k number)) (one x)) (bytes + 5 * words_of_number number + 2) (0 + words_of_number number + 0)
  set_said k front number x bytes r is short size can =
      said_seq (seq front (number_part k number)) (one x) (bytes + 5 * words_of_number number) 2 (0 + words_of_number number) 0
      (said_seq front (number_part k number) bytes (5 * words_of_number number) 0 (words_of_number number) r (terms_said z counted k number is short)) (said_one x 2 size can)

  try_said : (k : ℕ) (noun second : Object) (x : Instruction) → ObjectsAreSayable z k noun second → size_of x ≤ 3 → CanSpell (x ∷ [])
      → IsSaid (these (object_code noun ++ object_code second ++ x ∷ [])) (5 * words_of_noun noun + 5 * words_of_noun second + 13) 0
  try_said k noun second x are size can =
      said_these (object_code noun ++ object_code second ++ x ∷ []) (5 * words_of_noun noun + 5 * words_of_noun second + 13)
      (omega (arith, size_of_three (object_code noun) (object_code second) x, noun_size noun, noun_size second, size))
      (spell_three (object_code noun) (object_code second) x (object_is z counted k noun are.0) (object_is z counted k second are.1) can)

  module _ (string : List ℕ → ℕ) where
    abbrev PhraseIsSaid : ℕ → Phrase → Type 0
    PhraseIsSaid k phrase = IsSaid (phrase_part string k phrase) (105 * words_of_phrase phrase + 3 * length (strings_of_phrase phrase)) (words_of_phrase phrase)

    abbrev BodyIsSaid : ℕ → Body → Type 0
    BodyIsSaid k body = IsSaid (body_part string k body) (105 * words_of_body body + 3 * length (strings_of_body body)) (words_of_body body)

    mutual
      unfolding phrase_part strings_of_phrase

      phrase_said : (k : ℕ) (phrase : Phrase) → k ≤ 8 → PhraseIsSayable z string k phrase → words_of_phrase phrase ≤ 500 → PhraseIsSaid k phrase
      phrase_said k (tree.Say text) few is short = within (text_part string k text) _ _ _ _ (text_said role.Body string k text is (omega (arith, short))) (omega arith) (omega arith)
      phrase_said k (tree.NowIs o p value) few is short =
          within (these (object_code o ++ i.SetFlag p value ∷ [])) _ _ 0 _ (said_with_one z counted k o (i.SetFlag p value) is.1 (refl, refl)) (omega arith) (omega arith)
      phrase_said k (tree.NowHeld o r holder) few is short =
          within (these (object_code o ++ object_code holder ++ i.PutAt r ∷ [])) _ _ 0 _ (said_with_two z counted k o holder (i.PutAt r) is (refl, refl)) (omega arith) (omega arith)
      phrase_said k (tree.NowNowhere o) few is short =
          within (these (object_code o ++ i.Away ∷ [])) _ _ 0 _ (said_with_one z counted k o i.Away is (refl, refl)) (omega arith) (omega arith)
      phrase_said k (tree.Move o holder) few is short =
          within (these (object_code o ++ object_code holder ++ i.Move ∷ [])) _ _ 0 _ (said_with_two z counted k o holder i.Move is (refl, refl)) (omega arith) (omega arith)
      phrase_said k (tree.NowNumber p o number) few is short =
          within (seq (seq (these (object_code o)) (number_part k number)) (one (i.SetProp p))) _ _ _ _
          (set_said k (these (object_code o)) number (i.SetProp p) (5 * words_of_object o) (said_these (object_code o) _ (object_size o) (object_is z counted k o is.1.0)) is.1.1.1 (omega (arith, short)) (omega arith) (refl, refl))
          (omega arith) (omega arith)
      phrase_said k (tree.NowVariable v number) few is short =
          within (seq (number_part k number) (one (i.SetVar v))) _ _ _ _
          (said_seq (number_part k number) (one (i.SetVar v)) _ 2 _ 0 (terms_said z counted k number is.1.1 (omega (arith, short))) (said_one (i.SetVar v) 2 (omega arith) (refl, refl)))
          (omega arith) (omega arith)
      phrase_said k (tree.NowValued o q value) few is short =
          within (these (object_code o ++ i.SetValue q value ∷ [])) _ _ 0 _ (said_with_one z counted k o (i.SetValue q value) is.1 (refl, refl)) (omega arith) (omega arith)
      phrase_said k (tree.Try silent action noun second) few is short =
          within (these (object_code noun ++ object_code second ++ i.Try silent action ∷ [])) _ _ 0 _ (try_said k noun second (i.Try silent action) is.1 (omega arith) (refl, refl)) (omega arith) (omega arith)
      phrase_said k (tree.Follow book) few is short =
          within (one (i.Follow book)) 3 _ 0 _ (said_one (i.Follow book) 3 (omega arith) (book_spelled book (omega (arith, is, counted.books)))) (omega arith) (omega arith)
      phrase_said k (tree.Leave flow) few is short = within (leave_part flow) 210 _ 2 _ (leave_said flow) (omega arith) (omega arith)
      phrase_said k (tree.EndStory text) few is short =
          within (one (i.EndStory (string text))) 3 _ 0 _ (said_one (i.EndStory (string text)) 3 (omega arith) (ending_spelled (string text) (omega (arith, is, counted.strings)))) (omega arith) (omega arith)
      phrase_said k (tree.If c a b) few is short =
          within (choice (condition_part k c) (body_part string k a) (body_part string k b)) _ _ _ _
          (said_choice (condition_part k c) (body_part string k a) (body_part string k b) _ _ _ _ _ _ (condition_said z counted k c is.0 (omega (arith, short)))
          (body_said k a few is.1.0 (omega (arith, short))) (body_said k b few is.1.1 (omega (arith, short))))
          (omega (arith, length-append (strings_of_body a) (strings_of_body b))) (omega arith)
      phrase_said k (tree.Repeat d body) few is short =
          within (loop k (test_code k d) (body_part string (k + 1) body)) _ _ _ _
          (said_loop k (test_code k d) (body_part string (k + 1) body) _ _ (omega (arith, few)) (test_said z k d counted.objects is.1.0 (omega (arith, short)))
          (body_said (k + 1) body (omega (arith, is.0)) is.1.1 (omega (arith, short)))) (omega arith) (omega arith)
      phrase_said k (tree.Instead phrase) few is short =
          within (seq (phrase_part string k phrase) (one i.Failure)) _ _ _ _
          (said_seq (phrase_part string k phrase) (one i.Failure) _ 1 _ 0 (phrase_said k phrase few is (omega (arith, short))) (said_one i.Failure 1 (omega arith) (refl, refl)))
          (omega arith) (omega arith)

      pub body_said : (k : ℕ) (body : Body) → k ≤ 8 → BodyIsSayable z string k body → words_of_body body ≤ 500 → BodyIsSaid k body
      body_said k tree.End few is short = said_nothing
      body_said k (tree.Then phrase body) few is short =
          within (seq (phrase_part string k phrase) (body_part string k body)) _ _ _ _
          (said_seq (phrase_part string k phrase) (body_part string k body) _ _ _ _ (phrase_said k phrase few is.0 (omega (arith, short))) (body_said k body few is.1 (omega (arith, short))))
          (omega (arith, length-append (strings_of_phrase phrase) (strings_of_body body))) (omega arith)
