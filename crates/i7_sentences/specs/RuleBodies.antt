-- The body of a rule: its phrases, each with what it says and how deep it stands.
use Rattle.std.specs.Prelude.{ℕ, ◌==◌, Bool, true, false, not, ◌&&◌, List, [], ◌∷◌, Option, Some, None, find, option_map}
use Rattle.i7_sentences.specs.Bodies.{Phrase}
use Rattle.i7_sentences.specs.BodyOrder.{Place, after_phrase, body_fault, depth_of, has_instead, start, without_instead}
use Rattle.i7_sentences.specs.Lowest.{lower_of}
use Rattle.i7_sentences.specs.SpokenPhrases.{spoken_in}
use Rattle.i7_sentences.specs.declared.rule.RulePhrase.{RulePhrase}
use Rattle.i7_sentences.specs.declared.spoken.Spoken.{Spoken}
use Rattle.i7_sentences.specs.declared.spoken.Spoken.TheVariants as spoken
use Rattle.i7_sentences.specs.declared.spoken_reader.SpokenPhrase.{SpokenPhrase}

-- what a phrase says, if it is understood
abbrev pub spoken_phrase : Phrase → Option SpokenPhrase
spoken_phrase phrase = spoken_in (without_instead phrase.tokens)

abbrev pub phrase_at : Place → Phrase → SpokenPhrase → RulePhrase
phrase_at place phrase found = record {
  line = phrase.line;
  depth = depth_of place found.form phrase;
  said = found.said;
  is_instead = has_instead phrase.tokens;
}

-- a phrase that isn't understood is left out
abbrev pub onto_phrases : Place → Phrase → Option SpokenPhrase → (Place → List RulePhrase) → List RulePhrase
onto_phrases place phrase None behind = behind place
onto_phrases place phrase (Some found) behind = phrase_at place phrase found ∷ behind (after_phrase place found.form phrase)

-- what the phrases from a place on say
abbrev pub phrases_from : Place → List Phrase → List RulePhrase
phrases_from place [] = []
phrases_from place (phrase ∷ phrases) = onto_phrases place phrase (spoken_phrase phrase) (λ after. phrases_from after phrases)

-- what the phrases of a body say, behind the head of a rule at this line
abbrev pub body_phrases : ℕ → List Phrase → List RulePhrase
body_phrases line phrases = phrases_from (start line) phrases

abbrev pub or_else_unspoken : ℕ → Option SpokenPhrase → Option ℕ → Option ℕ
or_else_unspoken line None later = Some line
or_else_unspoken line (Some found) later = later

-- the line of the first phrase that isn't understood
abbrev pub unspoken_line : List Phrase → Option ℕ
unspoken_line [] = None
unspoken_line (phrase ∷ phrases) = or_else_unspoken phrase.line (spoken_phrase phrase) (unspoken_line phrases)

abbrev pub is_otherwise : Spoken → Bool
is_otherwise (spoken.OtherwiseIf condition) = true
is_otherwise spoken.Otherwise = true
is_otherwise _ = false

-- a phrase that belongs to no other
unfoldable pub is_outermost : RulePhrase → Bool
is_outermost phrase = (phrase.depth == 0) && not (is_otherwise phrase.said)

-- the line of the first that belongs to no other
abbrev pub outermost_line : List RulePhrase → Option ℕ
outermost_line phrases = option_map (λ (phrase : RulePhrase). phrase.line) (find is_outermost phrases)

-- where one phrase has to stand and several do, the line of the second: the first behind the first that doesn't belong to it
abbrev pub second_line : Bool → List RulePhrase → Option ℕ
second_line false phrases = None
second_line true [] = None
second_line true (phrase ∷ phrases) = outermost_line phrases

-- the lowest line at which a body isn't understood, if there is one: a phrase may not stand there, or says nothing, or several stand
-- behind a rule's comma
abbrev pub unread_line : ℕ → Bool → List Phrase → Option ℕ
unread_line line takes_one phrases =
    lower_of (second_line takes_one (body_phrases line phrases)) (lower_of (body_fault line phrases) (unspoken_line phrases))
