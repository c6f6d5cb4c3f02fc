-- What is found of texts, with one more, and what is told of all of them.
use Rattle.std.proofs.Common.{◌≡◌, ℕ, false, List, [], ◌∷◌, refl, sym, ◌∙◌, ap, subst}
use Rattle.std.specs.Prelude.{Option, None, Some, reverse}
use Rattle.world_meaning.specs.declared.fault.FaultCode.TheVariants.{TooMany, UnknownName}
use Rattle.i7_conditions.specs.Readings.{IsFoundAs}
use Rattle.i7_conditions.specs.Scopes.{Scope}
use Rattle.i7_conditions.specs.declared.found.Found.{Found}
use Rattle.i7_conditions.specs.declared.found.Found.TheVariants as read
use Rattle.i7_phrases.specs.Texts.{IsText, found_text, text_is_over}
use Rattle.i7_rules.proofs.Lows.{low_nothing, low_past, low_with, not_none}
use Rattle.i7_rules.specs.Knowns.{Known}
use Rattle.i7_rules.specs.RuleScans.{IsLow}
use Rattle.i7_sentences.specs.Lowest.{IsNowhere}
use Rattle.i7_sentences.specs.declared.sentence.Sentence.{Sentence}
use Rattle.i7_sentences.specs.declared.text_piece.TextPiece.{TextPiece}
use Rattle.play_meaning.specs.Meant.{text_meant}
use Rattle.play_meaning.specs.Trees as tree
use Rattle.play_meaning.specs.declared.tree.said.Text.{Text}
use Rattle.i7_resolution.specs.SourceTexts.{AreFound, IsOver, IsTextsFound, IsUnknown, Says}
use Rattle.i7_resolution.specs.TextList.{TextAt, texts_in}
use Rattle.i7_resolution.specs.TextScans.{IsSoFar, State, refused_or, so_far_told, state_of, with_found}
use Rattle.i7_resolution.specs.declared.source_texts.SoFar.{SoFar}
use Rattle.i7_resolution.specs.declared.source_texts.TextsFound.{TextsFound}
use Rattle.i7_resolution.proofs.ReadScenes.{true_false}

pub none_read : (k : Known) (state : State) → state ≡ record { texts = []; unknown = None; too_many = None } → IsSoFar k [] state
none_read k state is = subst (IsSoFar k []) (sym is) (record { unknown = low_nothing (IsUnknown k); too_many = low_nothing (IsOver k); told = λ known within. tt })

-- pieces mean one text at most
abbrev pub IsOneText : Type 0
IsOneText = (s : Scope) (pieces : List TextPiece) (t u : tree.Text) → IsText s pieces t → IsText s pieces u → t ≡ u

module _ (law : IsOneText) (k : Known) (t : TextAt) (before : List TextAt) where
  within_limits : (text : tree.Text) → Says k t.text text → text_is_over text ≡ false → (line : ℕ) → IsOver k t line → ⊥
  within_limits text says within line bad = true_false (sym bad.over ∙ ap text_is_over (law _ _ bad.text text bad.says.means says.means) ∙ within)

  pub text_further : (found : Found Text) (state : State) → IsFoundAs (Says k t.text) text_is_over (found_text found) → IsSoFar k before state → IsSoFar k (t ∷ before) (with_found state t found)
  text_further (read.Read text) state is so = record {
    unknown = low_past (IsUnknown k) t before state.unknown (λ line bad. bad.unread (text_meant text) is.0) so.unknown;
    too_many = low_past (IsOver k) t before state.too_many (within_limits (text_meant text) is.0 is.1) so.too_many;
    told = λ known within. (record { line = refl; says = is.0; within = is.1 }, so.told known within);
  }
  text_further read.TooMany state is so = record {
    unknown = low_past (IsUnknown k) t before state.unknown (λ line bad. bad.unread is.0 is.1) so.unknown;
    too_many = low_with (IsOver k) t before state.too_many t.line (record { is = record { text = is.0; says = is.1; over = is.2; line_is = refl }; alone = λ at bad. sym bad.line_is }) so.too_many;
    told = λ known within. absurd (not_none state.too_many t.line within);
  }
  text_further read.Unread state is so = record {
    unknown = low_with (IsUnknown k) t before state.unknown t.line (record { is = record { unread = is; line_is = refl }; alone = λ at bad. sym bad.line_is }) so.unknown;
    too_many = low_past (IsOver k) t before state.too_many (λ line bad. is bad.text bad.says) so.too_many;
    told = λ known within. absurd (not_none state.unknown t.line known);
  }

-- ---- what is told of all

module _ (k : Known) (texts : List TextAt) where
  by_over : (line : Option ℕ) (next : TextsFound) → IsNowhere (IsUnknown k) texts → IsLow (IsOver k) texts line → (IsNowhere (IsOver k) texts → line ≡ None → AreFound k texts next)
      → AreFound k texts (refused_or TooMany line next)
  by_over None next known low all = all low refl
  by_over (Some line) next known low all = (known, low)

  by_unknown : (line : Option ℕ) (next : TextsFound) → IsLow (IsUnknown k) texts line → (IsNowhere (IsUnknown k) texts → line ≡ None → AreFound k texts next) → AreFound k texts (refused_or UnknownName line next)
  by_unknown None next low all = all low refl
  by_unknown (Some line) next low all = low

  all_told : (so_far : SoFar) → IsSoFar k texts (state_of so_far) → AreFound k texts (so_far_told so_far)
  all_told so_far so =
      by_unknown so_far.unknown _ so.unknown (λ known no_unknown. by_over so_far.too_many _ known so.too_many (λ within no_over. record { known = known; within = within; each = so.told no_unknown no_over }))

pub sentences_told : (k : Known) (sentences : List Sentence) (texts : List TextAt) (so_far : SoFar) (found : TextsFound) → texts ≡ texts_in sentences → IsSoFar k (reverse texts) (state_of so_far) → found ≡ so_far_told so_far
    → IsTextsFound k sentences found
sentences_told k sentences texts so_far found said so told =
    subst (λ (all : List TextAt). AreFound k (reverse all) found) said (subst (AreFound k (reverse texts)) (sym told) (all_told k (reverse texts) so_far so))
