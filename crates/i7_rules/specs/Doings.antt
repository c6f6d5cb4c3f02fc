-- What a phrase does that others don't belong to (*Writing with Inform*, chapters 5, 8, 11, 12 and 19).
use Rattle.std.specs.Prelude.{◌≡◌, ◌⊎◌, ℕ, Bool, List, Option, None, Some}
use Rattle.i7_sentences.specs.declared.spoken.Spoken.{Spoken}
use Rattle.i7_sentences.specs.declared.spoken.Spoken.TheVariants as spoken
use Rattle.i7_sentences.specs.declared.text_piece.TextPiece.{TextPiece}
use Rattle.play_meaning.specs.Trees as tree
use Rattle.i7_actions.specs.Books.{IsFollowed}
use Rattle.i7_actions.specs.Trying.{Tries, Try}
use Rattle.i7_conditions.specs.Scopes.{Scope}
use Rattle.i7_conditions.specs.Words.{Word}
use Rattle.i7_conditions.specs.declared.found.Found.{Found}
use Rattle.i7_conditions.specs.declared.found.Found.TheVariants.{Read, Unread}
use Rattle.i7_phrases.specs.Phrases.{Changes, ending_of}
use Rattle.i7_phrases.specs.Texts.{IsText}
use Rattle.i7_rules.specs.Knowns.{Known}
use Rattle.i7_rules.specs.Saying.{ends_sentence, saying}

abbrev pub trying : Bool → Try → tree.Phrase
trying silently t = tree.Try silently t.action t.nouns.0 t.nouns.1

abbrev pub TriesSo : Known → Scope → Bool → List Word → tree.Phrase → Type 0
TriesSo k s silently words p = (t : Try) × Tries k.actions s words t × (p ≡ trying silently t)

abbrev pub Follows : Known → List Word → tree.Phrase → Type 0
Follows k words p = (book : ℕ) × IsFollowed k.actions k.rulebooks k.scenes words book × (p ≡ tree.Follow book)

abbrev pub ChangesOrEnds : Scope → Spoken → tree.Phrase → Type 0
ChangesOrEnds s said p = Changes s said p ⊎ (ending_of said ≡ Some p)

abbrev pub SaysSo : Scope → List TextPiece → tree.Phrase → Type 0
SaysSo s pieces p = (text : tree.Text) × IsText s pieces text × (p ≡ saying (ends_sentence pieces) text)

abbrev pub Does : Known → Scope → Spoken → tree.Phrase → Type 0
Does k s (spoken.Say pieces bytes) p = SaysSo s pieces p
Does k s (spoken.Try silently words) p = TriesSo k s silently words p
Does k s (spoken.Follow words) p = Follows k words p
Does k s said p = ChangesOrEnds s said p

-- what is there is read
abbrev pub found_if : Option tree.Phrase → Found tree.Phrase
found_if None = Unread
found_if (Some phrase) = Read phrase

-- what `follow` does with a rulebook, if it is there
abbrev pub following : Option ℕ → Found tree.Phrase
following None = Unread
following (Some book) = Read (tree.Follow book)
