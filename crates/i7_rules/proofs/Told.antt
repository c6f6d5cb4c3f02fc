-- What phrases are found to do that others don't belong to is what they do.
use Rattle.std.proofs.Common.{◌≡◌, ℕ, Bool, true, false, List, refl, sym, ◌∙◌, ap, subst, inl, inr}
use Rattle.std.specs.Prelude.{◌||◌, Option, None, Some, option_map}
use Rattle.i7_sentences.specs.declared.spoken.Spoken.{Spoken}
use Rattle.i7_sentences.specs.declared.spoken.Spoken.TheVariants as spoken
use Rattle.i7_sentences.specs.declared.text_piece.TextPiece.{TextPiece}
use Rattle.play_meaning.specs.Trees as tree
use Rattle.play_meaning.specs.declared.outcome.Flow.TheVariants.{Decides, NoDecision}
use Rattle.play_meaning.specs.declared.tree.phrase.Simple.{Simple as Kept}
use Rattle.play_meaning.specs.declared.outcome.Outcome.TheVariants.{Failure, Success}
use Rattle.i7_actions.specs.Books.{IsBookFound}
use Rattle.i7_actions.specs.Trying.{Tries, Try, try_is_over}
use Rattle.i7_conditions.specs.Clauses.{asks_over}
use Rattle.i7_conditions.specs.Predicates.{is_deep, is_long}
use Rattle.i7_conditions.specs.Readings.{IsFoundAs, one}
use Rattle.i7_conditions.specs.Scopes.{Scope}
use Rattle.i7_conditions.specs.Terms.{is_over}
use Rattle.i7_conditions.specs.Words.{Word}
use Rattle.i7_conditions.specs.declared.found.Found.{Found}
use Rattle.i7_conditions.specs.declared.found.Found.TheVariants.{Read, TooMany, Unread}
use Rattle.i7_conditions.proofs.Listing.{one_found}
use Rattle.i7_phrases.specs.ChangeForms.{found_simple}
use Rattle.i7_phrases.specs.Limits.{phrase_is_over}
use Rattle.i7_phrases.specs.Phrases.{Changes, closing, ending_of, is_change}
use Rattle.i7_phrases.specs.Texts.{IsText, text_is_over}
use Rattle.i7_phrases.specs.Told.{IsToldOf}
use Rattle.i7_rules.specs.Doings.{ChangesOrEnds, Does, Follows, SaysSo, TriesSo, following, found_if, trying}
use Rattle.i7_rules.specs.Knowns.{Known}
use Rattle.i7_rules.specs.Saying.{ends_sentence, saying, with_break}

-- ---- `say`

pub breaks_are_within : (text : tree.Text) → text_is_over (with_break text) ≡ text_is_over text
breaks_are_within tree.Silence = refl
breaks_are_within (tree.Bytes bytes more) = breaks_are_within more
breaks_are_within (tree.Figure number more) = ap (λ over. is_over number || over) (breaks_are_within more)
breaks_are_within (tree.Name naming o more) = ap (λ over. is_deep o || over) (breaks_are_within more)
breaks_are_within (tree.Listing naming description more) = ap (λ over. is_long description || over) (breaks_are_within more)
breaks_are_within (tree.DescriptionOf o more) = ap (λ over. is_deep o || over) (breaks_are_within more)
breaks_are_within (tree.ValueName q o more) = ap (λ over. is_deep o || over) (breaks_are_within more)
breaks_are_within (tree.IfSaid c a b more) = ap (λ over. asks_over c || (text_is_over a || (text_is_over b || over))) (breaks_are_within more)

closed_is_within : (is_sentence : Bool) (text : tree.Text) → phrase_is_over (saying is_sentence text) ≡ text_is_over text
closed_is_within false text = refl
closed_is_within true text = breaks_are_within text

pub text_told : (s : Scope) (pieces : List TextPiece) (text : Found tree.Text) (found : Found tree.Phrase) → found ≡ one (saying (ends_sentence pieces)) text
    → IsFoundAs (IsText s pieces) text_is_over text → IsFoundAs (SaysSo s pieces) phrase_is_over found
text_told s pieces text found e h =
    subst (IsFoundAs (SaysSo s pieces) phrase_is_over) (sym e)
    (one_found (saying (ends_sentence pieces)) (IsText s pieces) text_is_over phrase_is_over (closed_is_within (ends_sentence pieces)) text h)

-- ---- `try` and `follow`

pub try_told : (k : Known) (s : Scope) (silently : Bool) (words : List Word) (tried : Found Try) (found : Found tree.Phrase) → found ≡ one (trying silently) tried
    → IsFoundAs (Tries k.actions s words) try_is_over tried → IsFoundAs (TriesSo k s silently words) phrase_is_over found
try_told k s silently words tried found e h =
    subst (IsFoundAs (TriesSo k s silently words) phrase_is_over) (sym e) (one_found (trying silently) (Tries k.actions s words) try_is_over phrase_is_over (λ t. refl) tried h)

pub follow_told : (k : Known) (words : List Word) (book : Option ℕ) (found : Found tree.Phrase) → found ≡ following book → IsBookFound k.actions k.rulebooks k.scenes words book
    → IsFoundAs (Follows k words) phrase_is_over found
follow_told k words None found e h = subst (IsFoundAs (Follows k words) phrase_is_over) (sym e) (λ p follows. h follows.0 follows.1)
follow_told k words (Some book) found e h = subst (IsFoundAs (Follows k words) phrase_is_over) (sym e) ((book, h, refl), refl)

-- ---- changes and endings

pub changes_end_nothing : (said : Spoken) → is_change said ≡ true → ending_of said ≡ None
changes_end_nothing (spoken.Now words) is = refl
changes_end_nothing (spoken.Move words) is = refl
changes_end_nothing (spoken.Increase value amount) is = refl
changes_end_nothing (spoken.Decrease value amount) is = refl
changes_end_nothing (spoken.Say text bytes) is = refl
changes_end_nothing (spoken.Try silently action) is = refl
changes_end_nothing (spoken.Follow book) is = refl
changes_end_nothing (spoken.If words) is = refl
changes_end_nothing (spoken.OtherwiseIf words) is = refl
changes_end_nothing spoken.Otherwise is = refl
changes_end_nothing (spoken.Repeat name through) is = refl
changes_end_nothing spoken.RuleSucceeds is = absurd cc
changes_end_nothing spoken.RuleFails is = absurd cc
changes_end_nothing spoken.MakeNoDecision is = absurd cc
changes_end_nothing spoken.ContinueAction is = absurd cc
changes_end_nothing spoken.StopAction is = absurd cc
changes_end_nothing (spoken.EndStory text) is = absurd cc

pub no_other_changes : (s : Scope) (said : Spoken) (p : tree.Phrase) → is_change said ≡ false → Changes s said p → ⊥
no_other_changes s (spoken.Now words) p is changes = absurd cc
no_other_changes s (spoken.Move words) p is changes = absurd cc
no_other_changes s (spoken.Increase value amount) p is changes = absurd cc
no_other_changes s (spoken.Decrease value amount) p is changes = absurd cc
no_other_changes s (spoken.Say text bytes) p is changes = changes
no_other_changes s (spoken.Try silently action) p is changes = changes
no_other_changes s (spoken.Follow book) p is changes = changes
no_other_changes s (spoken.If words) p is changes = changes
no_other_changes s (spoken.OtherwiseIf words) p is changes = changes
no_other_changes s spoken.Otherwise p is changes = changes
no_other_changes s (spoken.Repeat name through) p is changes = changes
no_other_changes s spoken.RuleSucceeds p is changes = changes
no_other_changes s spoken.RuleFails p is changes = changes
no_other_changes s spoken.MakeNoDecision p is changes = changes
no_other_changes s spoken.ContinueAction p is changes = changes
no_other_changes s spoken.StopAction p is changes = changes
no_other_changes s (spoken.EndStory text) p is changes = changes

some_within : (q p : tree.Phrase) → phrase_is_over q ≡ false → Some q ≡ Some p → phrase_is_over p ≡ false
some_within q p within e = let same : q ≡ p = cc in subst (λ (r : tree.Phrase). phrase_is_over r ≡ false) same within

none_within : (p : tree.Phrase) → None ≡ Some p → phrase_is_over p ≡ false
none_within p e = absurd cc

ending_within : (said : Spoken) (p : tree.Phrase) → ending_of said ≡ Some p → phrase_is_over p ≡ false
ending_within spoken.RuleSucceeds p e = some_within (tree.Leave (Decides Success)) p refl e
ending_within spoken.RuleFails p e = some_within (tree.Leave (Decides Failure)) p refl e
ending_within spoken.MakeNoDecision p e = some_within (tree.Leave NoDecision) p refl e
ending_within spoken.ContinueAction p e = some_within (tree.Leave NoDecision) p refl e
ending_within spoken.StopAction p e = some_within (tree.Leave (Decides Failure)) p refl e
ending_within (spoken.EndStory text) p e = some_within (tree.EndStory (closing text)) p refl e
ending_within (spoken.Now words) p e = none_within p e
ending_within (spoken.Move words) p e = none_within p e
ending_within (spoken.Increase value amount) p e = none_within p e
ending_within (spoken.Decrease value amount) p e = none_within p e
ending_within (spoken.Say text bytes) p e = none_within p e
ending_within (spoken.Try silently action) p e = none_within p e
ending_within (spoken.Follow book) p e = none_within p e
ending_within (spoken.If words) p e = none_within p e
ending_within (spoken.OtherwiseIf words) p e = none_within p e
ending_within spoken.Otherwise p e = none_within p e
ending_within (spoken.Repeat name through) p e = none_within p e

change_told : (s : Scope) (said : Spoken) (found : Found tree.Phrase) → IsToldOf (is_change said) (Changes s said) phrase_is_over (Some found)
    → IsFoundAs (ChangesOrEnds s said) phrase_is_over found
change_told s said (Read p) h = (inl h.1.0, h.1.1)
change_told s said TooMany h = (h.1.0, inl h.1.1, h.1.2)
change_told s said Unread h = λ p does. elim does [
  | inl changes ↦ h.1 p changes
  | inr ends ↦ let never : None ≡ Some p = sym (changes_end_nothing said h.0) ∙ ends in absurd cc
]

ending_told : (s : Scope) (said : Spoken) (ending : Option tree.Phrase) → ending_of said ≡ ending → is_change said ≡ false → IsFoundAs (ChangesOrEnds s said) phrase_is_over (found_if ending)
ending_told s said (Some p) ends is = (inr ends, ending_within said p ends)
ending_told s said None ends is = λ p does. elim does [
  | inl changes ↦ no_other_changes s said p is changes
  | inr other ↦ let never : None ≡ Some p = sym ends ∙ other in absurd cc
]

-- ---- as they are kept

abbrev IsChangeTold : Scope → Spoken → Option (Found Kept) → Type 0
IsChangeTold s said told = IsToldOf (is_change said) (Changes s said) phrase_is_over (option_map found_simple told)

pub change_at : (s : Scope) (said : Spoken) (told : Option (Found Kept)) (found : Found Kept) → IsChangeTold s said told → told ≡ Some found → IsFoundAs (ChangesOrEnds s said) phrase_is_over (found_simple found)
change_at s said told found h e = change_told s said (found_simple found) (subst (IsChangeTold s said) e h)

pub ending_at : (s : Scope) (said : Spoken) (told : Option (Found Kept)) (found : Found Kept) → IsChangeTold s said told → told ≡ None → found_simple found ≡ found_if (ending_of said)
    → IsFoundAs (ChangesOrEnds s said) phrase_is_over (found_simple found)
ending_at s said told found h e is =
    subst (IsFoundAs (ChangesOrEnds s said) phrase_is_over) (sym is) (ending_told s said (ending_of said) refl (subst (IsChangeTold s said) e h))

-- a phrase that says a text does what saying it does
pub says_does : (k : Known) (s : Scope) (said : Spoken) (pieces text : List TextPiece) (bytes : ℕ) → said ≡ spoken.Say text bytes → pieces ≡ text
    → (found : Found tree.Phrase) → IsFoundAs (SaysSo s pieces) phrase_is_over found → IsFoundAs (Does k s said) phrase_is_over found
says_does k s said pieces text bytes is same found h =
    subst (λ (other : Spoken). IsFoundAs (Does k s other) phrase_is_over found) (sym is) (subst (λ (all : List TextPiece). IsFoundAs (SaysSo s all) phrase_is_over found) same h)

-- a phrase that says nothing, tries nothing and follows nothing changes the world or ends something
pub other_does : (k : Known) (s : Scope) (said : Spoken) (found : Found tree.Phrase) → ((text : List TextPiece) (bytes : ℕ) → said ≡ spoken.Say text bytes → ⊥) → ((silently : Bool) (action : List Word) → said ≡ spoken.Try silently action → ⊥)
    → ((book : List Word) → said ≡ spoken.Follow book → ⊥) → IsFoundAs (ChangesOrEnds s said) phrase_is_over found → IsFoundAs (Does k s said) phrase_is_over found
other_does k s (spoken.Say text bytes) found a b c h = absurd (a text bytes refl)
other_does k s (spoken.Try silently action) found a b c h = absurd (b silently action refl)
other_does k s (spoken.Follow book) found a b c h = absurd (c book refl)
other_does k s (spoken.Now words) found a b c h = h
other_does k s (spoken.Move words) found a b c h = h
other_does k s (spoken.Increase value amount) found a b c h = h
other_does k s (spoken.Decrease value amount) found a b c h = h
other_does k s (spoken.If words) found a b c h = h
other_does k s (spoken.OtherwiseIf words) found a b c h = h
other_does k s spoken.Otherwise found a b c h = h
other_does k s (spoken.Repeat name through) found a b c h = h
other_does k s spoken.RuleSucceeds found a b c h = h
other_does k s spoken.RuleFails found a b c h = h
other_does k s spoken.MakeNoDecision found a b c h = h
other_does k s spoken.ContinueAction found a b c h = h
other_does k s spoken.StopAction found a b c h = h
other_does k s (spoken.EndStory text) found a b c h = h
