-- What a phrase says, by the words for the letters of its form.
use Rattle.std.specs.Prelude.{ℕ, Bool, true, false, List, [], ◌∷◌, length, Option, Some, None, if◌then◌else◌}
use Rattle.i7_lexer.specs.declared.token.Token.{Token}
use Rattle.i7_lexer.specs.declared.token.TokenKind.{TokenKind}
use Rattle.i7_lexer.specs.declared.token.TokenKind.TheVariants.{Text, Word, Mark}
use Rattle.i7_sentences.specs.Assertions.{plain_text}
use Rattle.i7_sentences.specs.Conditions.{are_pieces_read, is_condition}
use Rattle.i7_sentences.specs.Matching.{Found, lowest_fit}
use Rattle.i7_sentences.specs.Names.{named_in, words_in}
use Rattle.i7_sentences.specs.PhraseForms.{is_phrase_form, phrase_forms}
use Rattle.i7_sentences.specs.TextPieces.{is_text_read, printed, text_pieces}
use Rattle.i7_sentences.specs.declared.phrase_form.PhraseForm.{PhraseForm}
use Rattle.i7_sentences.specs.declared.phrase_form.PhraseForm.TheVariants as form
use Rattle.i7_sentences.specs.declared.spoken.Spoken.{Spoken}
use Rattle.i7_sentences.specs.declared.spoken.Spoken.TheVariants as spoken
use Rattle.i7_sentences.specs.declared.spoken_reader.SpokenPhrase.{SpokenPhrase}
use Rattle.i7_sentences.specs.declared.text_piece.TextPiece.{TextPiece}

abbrev pub if_read : Option (List TextPiece) → Option (List TextPiece)
if_read None = None
if_read (Some pieces) = if are_pieces_read pieces then Some pieces else None

abbrev pub pieces_said : ℕ → Option (List TextPiece) → Option Spoken
pieces_said bytes None = None
pieces_said bytes (Some pieces) = Some (spoken.Say pieces bytes)

-- a text that is understood, with the conditions of its ifs, and how long it is written
abbrev pub text_said : TokenKind → Option Spoken
text_said (Text text) = pieces_said (length text) (if_read (if is_text_read text then Some (text_pieces text) else None))
text_said (Word word) = None
text_said (Mark mark) = None

abbrev pub say_of : List (List Token) → Option Spoken
say_of ((token ∷ []) ∷ []) = text_said token.kind
say_of _ = None

-- names tell where a change is cut, so that all its words behind the first are kept
abbrev pub now_of : List Token → Option Spoken
now_of [] = None
now_of (first ∷ behind) = Some (spoken.Now (words_in behind))

abbrev pub move_of : List Token → Option Spoken
move_of [] = None
move_of (first ∷ behind) = Some (spoken.Move (words_in behind))

abbrev pub increase_of : List (List Token) → Option Spoken
increase_of (value ∷ amount ∷ []) = Some (spoken.Increase (words_in value) (words_in amount))
increase_of _ = None

abbrev pub decrease_of : List (List Token) → Option Spoken
decrease_of (value ∷ amount ∷ []) = Some (spoken.Decrease (words_in value) (words_in amount))
decrease_of _ = None

abbrev pub try_of : Bool → List (List Token) → Option Spoken
try_of is_silent (action ∷ []) = Some (spoken.Try is_silent (words_in action))
try_of is_silent _ = None

abbrev pub follow_of : List (List Token) → Option Spoken
follow_of (book ∷ []) = Some (spoken.Follow (named_in book))
follow_of _ = None

abbrev pub ending_with : Option (List ℕ) → Option Spoken
ending_with None = None
ending_with (Some text) = Some (spoken.EndStory (Some (printed text)))

-- the closing text holds no bracket that opens
abbrev pub end_story_of : List (List Token) → Option Spoken
end_story_of (text ∷ []) = ending_with (plain_text text)
end_story_of _ = None

-- the condition of an `if` has a condition's shape
abbrev pub if_condition : List (List ℕ) → Option Spoken
if_condition words = if is_condition words then Some (spoken.If words) else None

abbrev pub if_of : List (List Token) → Option Spoken
if_of (condition ∷ []) = if_condition (words_in condition)
if_of _ = None

abbrev pub otherwise_condition : List (List ℕ) → Option Spoken
otherwise_condition words = if is_condition words then Some (spoken.OtherwiseIf words) else None

abbrev pub otherwise_if_of : List (List Token) → Option Spoken
otherwise_if_of (condition ∷ []) = otherwise_condition (words_in condition)
otherwise_if_of _ = None

abbrev pub repeat_of : List (List Token) → Option Spoken
repeat_of (name ∷ through ∷ []) = Some (spoken.Repeat (named_in name) (words_in through))
repeat_of _ = None

-- what a phrase of these tokens and this form says with these letters, if it is understood
unfoldable pub spoken_of : PhraseForm → List Token → List (List Token) → Option Spoken
spoken_of form.Say tokens letters = say_of letters
spoken_of form.Now tokens letters = now_of tokens
spoken_of form.Move tokens letters = move_of tokens
spoken_of form.Increase tokens letters = increase_of letters
spoken_of form.Decrease tokens letters = decrease_of letters
spoken_of form.Try tokens letters = try_of false letters
spoken_of form.TrySilently tokens letters = try_of true letters
spoken_of form.Follow tokens letters = follow_of letters
spoken_of form.RuleSucceeds tokens letters = Some spoken.RuleSucceeds
spoken_of form.RuleFails tokens letters = Some spoken.RuleFails
spoken_of form.MakeNoDecision tokens letters = Some spoken.MakeNoDecision
spoken_of form.ContinueAction tokens letters = Some spoken.ContinueAction
spoken_of form.StopAction tokens letters = Some spoken.StopAction
spoken_of form.EndStory tokens letters = Some (spoken.EndStory None)
spoken_of form.EndStoryFinally tokens letters = Some (spoken.EndStory None)
spoken_of form.EndStorySaying tokens letters = end_story_of letters
spoken_of form.If tokens letters = if_of letters
spoken_of form.OtherwiseIf tokens letters = otherwise_if_of letters
spoken_of form.Otherwise tokens letters = Some spoken.Otherwise
spoken_of form.Repeat tokens letters = repeat_of letters

abbrev pub spoken_with : PhraseForm → Option Spoken → Option SpokenPhrase
spoken_with form None = None
spoken_with form (Some said) = Some (record { form = form; said = said })

abbrev pub spoken_by : Option PhraseForm → List Token → List (List Token) → Option SpokenPhrase
spoken_by None tokens letters = None
spoken_by (Some form) tokens letters = spoken_with form (spoken_of form tokens letters)

abbrev pub spoken_found : List Token → Option Found → Option SpokenPhrase
spoken_found tokens None = None
spoken_found tokens (Some found) = spoken_by (is_phrase_form found.variant.form) tokens found.letters

-- what a phrase says, by the first form that fits it, with the shortest letters; none where it isn't understood
unfoldable pub spoken_in : List Token → Option SpokenPhrase
spoken_in tokens = spoken_found tokens (lowest_fit phrase_forms tokens)
