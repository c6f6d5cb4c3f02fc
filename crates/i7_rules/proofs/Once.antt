-- A phrase states one thing at most where it stands.
use Rattle.std.proofs.Common.{◌≡◌, ℕ, true, List, refl, sym, ap, ◌∙◌, inl, inr}
use Rattle.std.specs.Prelude.{None, Some}
use Rattle.std.proofs.lemmas.Bool.{cases_Bool}
use Rattle.i7_sentences.specs.declared.rule.RulePhrase.{RulePhrase}
use Rattle.i7_sentences.specs.declared.spoken.Spoken.{Spoken}
use Rattle.i7_sentences.specs.declared.spoken.Spoken.TheVariants as spoken
use Rattle.i7_sentences.specs.declared.text_piece.TextPiece.{TextPiece}
use Rattle.play_meaning.specs.Trees as tree
use Rattle.i7_actions.specs.Books.{IsFollowed}
use Rattle.i7_actions.specs.Trying.{Tries}
use Rattle.i7_actions.specs.declared.action.Action.{Action}
use Rattle.i7_conditions.specs.Scopes.{Scope}
use Rattle.i7_conditions.specs.Words.{Word}
use Rattle.i7_conditions.proofs.Listing.{IsOnce, made_once}
use Rattle.i7_patterns.specs.Aspects.{AsksOne}
use Rattle.i7_patterns.specs.Patterns.{IsPattern}
use Rattle.i7_phrases.specs.Blocks.{Block, Opens}
use Rattle.i7_phrases.specs.Phrases.{Changes, ending_of, is_change}
use Rattle.i7_phrases.specs.Texts.{IsText}
use Rattle.i7_rules.specs.Doings.{ChangesOrEnds, Does, trying}
use Rattle.i7_rules.specs.Knowns.{Known}
use Rattle.i7_rules.specs.Lines.{Begun, Done, States}
use Rattle.i7_rules.specs.Saying.{ends_sentence, saying}
use Rattle.i7_rules.proofs.Told.{changes_end_nothing, no_other_changes}

-- what laws of texts, changes, blocks, actions, rulebooks, patterns and places say
pub record AreOnce : Type 0 where
  pub text : (s : Scope) (pieces : List TextPiece) → IsOnce (IsText s pieces)
  pub change : (s : Scope) (said : Spoken) → IsOnce (Changes s said)
  pub block : (s : Scope) (said : Spoken) → IsOnce (Opens s said)
  pub action : (actions : List Action) (s : Scope) (words : List Word) → IsOnce (Tries actions s words)
  pub book : (actions : List Action) (rulebooks : List (List ℕ)) (scenes : ℕ) (words : List Word) → IsOnce (IsFollowed actions rulebooks scenes words)
  pub pattern : (actions : List Action) (s : Scope) (words : List Word) → IsOnce (IsPattern actions s words)
  pub place : (s : Scope) (words : List Word) → IsOnce (AsksOne s words)

-- ---- phrases that others don't belong to

no_end : (said : Spoken) (p : tree.Phrase) → is_change said ≡ true → ending_of said ≡ Some p → ⊥
no_end said p is ends = let never : None ≡ Some p = sym (changes_end_nothing said is) ∙ ends in cc

change_and_end : (s : Scope) (said : Spoken) (p q : tree.Phrase) → Changes s said p → ending_of said ≡ Some q → ⊥
change_and_end s said p q changes ends =
    elim (cases_Bool (is_change said)) [
      | inl is ↦ no_end said q is ends
      | inr isnt ↦ no_other_changes s said p isnt changes
    ]

same_end : (said : Spoken) (p q : tree.Phrase) → ending_of said ≡ Some p → ending_of said ≡ Some q → p ≡ q
same_end said p q one other = let both : Some p ≡ Some q = sym one ∙ other in cc

changed_once : (laws : AreOnce) (s : Scope) (said : Spoken) → IsOnce (ChangesOrEnds s said)
changed_once laws s said p q one other =
    elim one [
      | inl changes ↦ elim other [
        | inl again ↦ laws.change s said p q changes again
        | inr ends ↦ absurd (change_and_end s said p q changes ends)
      ]
      | inr ends ↦ elim other [
        | inl changes ↦ absurd (change_and_end s said q p changes ends)
        | inr again ↦ same_end said p q ends again
      ]
    ]

does_once : (laws : AreOnce) (k : Known) (s : Scope) (said : Spoken) → IsOnce (Does k s said)
does_once laws k s (spoken.Say pieces bytes) = made_once (saying (ends_sentence pieces)) (IsText s pieces) (laws.text s pieces)
does_once laws k s (spoken.Try silently words) = made_once (trying silently) (Tries k.actions s words) (laws.action k.actions s words)
does_once laws k s (spoken.Follow words) = made_once tree.Follow (IsFollowed k.actions k.rulebooks k.scenes words) (laws.book k.actions k.rulebooks k.scenes words)
does_once laws k s (spoken.Now words) = changed_once laws s (spoken.Now words)
does_once laws k s (spoken.Move words) = changed_once laws s (spoken.Move words)
does_once laws k s (spoken.Increase value amount) = changed_once laws s (spoken.Increase value amount)
does_once laws k s (spoken.Decrease value amount) = changed_once laws s (spoken.Decrease value amount)
does_once laws k s spoken.RuleSucceeds = changed_once laws s spoken.RuleSucceeds
does_once laws k s spoken.RuleFails = changed_once laws s spoken.RuleFails
does_once laws k s spoken.MakeNoDecision = changed_once laws s spoken.MakeNoDecision
does_once laws k s spoken.ContinueAction = changed_once laws s spoken.ContinueAction
does_once laws k s spoken.StopAction = changed_once laws s spoken.StopAction
does_once laws k s (spoken.EndStory text) = changed_once laws s (spoken.EndStory text)
does_once laws k s (spoken.If words) = changed_once laws s (spoken.If words)
does_once laws k s (spoken.OtherwiseIf words) = changed_once laws s (spoken.OtherwiseIf words)
does_once laws k s spoken.Otherwise = changed_once laws s spoken.Otherwise
does_once laws k s (spoken.Repeat name through) = changed_once laws s (spoken.Repeat name through)

-- ---- and those that others belong to

ends_nothing : (s : Scope) (said : Spoken) (p : tree.Phrase) → (Changes s said p → ⊥) → ending_of said ≡ None → ChangesOrEnds s said p → ⊥
ends_nothing s said p never none does = elim does [
  | inl changes ↦ never changes
  | inr ends ↦ let no : None ≡ Some p = sym none ∙ ends in cc
]

no_block_does : (k : Known) (s : Scope) (said : Spoken) (p : tree.Phrase) (block : Block) → Does k s said p → Opens s said block → ⊥
no_block_does k s (spoken.If words) p block does opens = ends_nothing s (spoken.If words) p (λ no. no) refl does
no_block_does k s (spoken.OtherwiseIf words) p block does opens = ends_nothing s (spoken.OtherwiseIf words) p (λ no. no) refl does
no_block_does k s spoken.Otherwise p block does opens = ends_nothing s spoken.Otherwise p (λ no. no) refl does
no_block_does k s (spoken.Repeat name through) p block does opens = ends_nothing s (spoken.Repeat name through) p (λ no. no) refl does
no_block_does k s (spoken.Say pieces bytes) p block does opens = opens
no_block_does k s (spoken.Try silently words) p block does opens = opens
no_block_does k s (spoken.Follow words) p block does opens = opens
no_block_does k s (spoken.Now words) p block does opens = opens
no_block_does k s (spoken.Move words) p block does opens = opens
no_block_does k s (spoken.Increase value amount) p block does opens = opens
no_block_does k s (spoken.Decrease value amount) p block does opens = opens
no_block_does k s spoken.RuleSucceeds p block does opens = opens
no_block_does k s spoken.RuleFails p block does opens = opens
no_block_does k s spoken.MakeNoDecision p block does opens = opens
no_block_does k s spoken.ContinueAction p block does opens = opens
no_block_does k s spoken.StopAction p block does opens = opens
no_block_does k s (spoken.EndStory text) p block does opens = opens

pub states_once : (laws : AreOnce) (k : Known) (s : Scope) (p : RulePhrase) → IsOnce (States k s p)
states_once laws k s p (Done one phrase) (Done other again) a b =
    ap (λ closes. Done closes phrase) (sym a.0 ∙ b.0) ∙ ap (Done other) (does_once laws k s p.said phrase again a.1 b.1)
states_once laws k s p (Done one phrase) (Begun block) a b = absurd (no_block_does k s p.said phrase block a.1 b)
states_once laws k s p (Begun block) (Done one phrase) a b = absurd (no_block_does k s p.said phrase block b.1 a)
states_once laws k s p (Begun one) (Begun other) a b = ap Begun (laws.block s p.said one other a b)
