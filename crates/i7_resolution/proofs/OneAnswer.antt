-- No sentences have two answers about the texts that describe.
use Rattle.std.proofs.Common.{◌≡◌, ℕ, List, [], ◌∷◌, ◌++◌, refl, sym, ◌∙◌, ap}
use Rattle.std.specs.Prelude.{map, reverse}
use Rattle.std.specs.List.{AllZip}
use Rattle.std.proofs.lemmas.Grind.{reverse_onto}
use Rattle.std.proofs.lemmas.List.{map-append, reverse-reverse}
use Rattle.world_meaning.specs.declared.fault.FaultCode.{FaultCode}
use Rattle.world_meaning.specs.declared.fault.FaultCode.TheVariants.{TooMany, UnknownName}
use Rattle.i7_rules.proofs.Lows.{lowest_once}
use Rattle.i7_rules.specs.Knowns.{Known}
use Rattle.i7_sentences.specs.Lowest.{IsLowest, IsNowhere}
use Rattle.i7_sentences.specs.declared.sentence.Sentence.{Sentence}
use Rattle.play_meaning.specs.Meant.{text_meant}
use Rattle.i7_resolution.specs.SourceTexts.{All, AreFound, AreTold, IsOver, IsTextsFound, IsTold, IsUnknown, Refused, Stands, TextMeant, TextsMeant, meant_in, texts_meant}
use Rattle.i7_resolution.specs.TextList.{TextAt, texts_in}
use Rattle.i7_resolution.specs.declared.source_texts.SourceText.{SourceText}
use Rattle.i7_resolution.specs.declared.source_texts.TextsFound.{TextsFound}
use Rattle.i7_resolution.specs.declared.source_texts.TextsFound.TheVariants as found
use Rattle.i7_resolution.proofs.ReadTexts.{IsOneText}
use Rattle.i7_sentences.proofs.Lowest.{nowhere_there}

-- ---- texts

abbrev refusal : FaultCode → ℕ → TextsMeant
refusal code line = Refused (record { code = code; line = line })

text_same : (a b : TextMeant) → a.line ≡ b.line → a.text ≡ b.text → a ≡ b
text_same a b lines texts = λ i. record { line = lines i; text = texts i }

turned : (told : List SourceText) → map meant_in (reverse told) ≡ reverse (map meant_in told)
turned [] = refl
turned (x ∷ told) =
    ap (map meant_in) (reverse_onto told x []) ∙ map-append meant_in (reverse told) (x ∷ []) ∙ ap (λ (ms : List TextMeant). ms ++ meant_in x ∷ []) (turned told)
    ∙ sym (reverse_onto (map meant_in told) (meant_in x) [])

module _ (law : IsOneText) (k : Known) where
  told_once : (t : TextAt) (a b : SourceText) → IsTold k t a → IsTold k t b → meant_in a ≡ meant_in b
  told_once t a b one other = text_same (meant_in a) (meant_in b) (one.line ∙ sym other.line) (law _ _ (text_meant a.text) (text_meant b.text) one.says.means other.says.means)

  all_once : (texts : List TextAt) (a b : List SourceText) → AllZip (IsTold k) texts a → AllZip (IsTold k) texts b → map meant_in a ≡ map meant_in b
  all_once [] [] [] one other = refl
  all_once [] [] (y ∷ b) one other = absurd other
  all_once [] (x ∷ a) b one other = absurd one
  all_once (t ∷ texts) [] b one other = absurd one
  all_once (t ∷ texts) (x ∷ a) [] one other = absurd other
  all_once (t ∷ texts) (x ∷ a) (y ∷ b) one other =
      ap (λ (m : TextMeant). m ∷ map meant_in a) (told_once t x y one.0 other.0) ∙ ap (λ (ms : List TextMeant). meant_in y ∷ ms) (all_once texts a b one.1 other.1)

  in_order : (texts : List TextAt) (a b : List SourceText) → AllZip (IsTold k) texts (reverse a) → AllZip (IsTold k) texts (reverse b) → map meant_in a ≡ map meant_in b
  in_order texts a b one other =
      ap (map meant_in) (sym (reverse-reverse a)) ∙ turned (reverse a) ∙ ap reverse (all_once texts (reverse a) (reverse b) one other) ∙ sym (turned (reverse b)) ∙ ap (map meant_in) (reverse-reverse b)

  unknown_once : (texts : List TextAt) (c : FaultCode) (a b : ℕ) → IsLowest (IsUnknown k) texts a → Stands k c b texts → refusal UnknownName a ≡ refusal c b
  unknown_once texts UnknownName a b one other = ap (refusal UnknownName) (lowest_once (IsUnknown k) texts a b one other)
  unknown_once texts TooMany a b one other = absurd (nowhere_there (IsUnknown k) texts a other.0 one)
  unknown_once texts _ a b one other = absurd other

  over_once : (texts : List TextAt) (c : FaultCode) (a b : ℕ) → IsNowhere (IsUnknown k) texts → IsLowest (IsOver k) texts a → Stands k c b texts → refusal TooMany a ≡ refusal c b
  over_once texts UnknownName a b known one other = absurd (nowhere_there (IsUnknown k) texts b known other)
  over_once texts TooMany a b known one other = ap (refusal TooMany) (lowest_once (IsOver k) texts a b one other.1)
  over_once texts _ a b known one other = absurd other

  refused_once : (texts : List TextAt) (c d : FaultCode) (a b : ℕ) → Stands k c a texts → Stands k d b texts → refusal c a ≡ refusal d b
  refused_once texts UnknownName d a b one other = unknown_once texts d a b one other
  refused_once texts TooMany d a b one other = over_once texts d a b one.0 one.1 other
  refused_once texts _ d a b one other = absurd one

  told_or_refused : (texts : List TextAt) (told : List SourceText) (c : FaultCode) (line : ℕ) → AreTold k texts told → Stands k c line texts → ⊥
  told_or_refused texts told UnknownName line is stands = nowhere_there (IsUnknown k) texts line is.known stands
  told_or_refused texts told TooMany line is stands = nowhere_there (IsOver k) texts line is.within stands.1
  told_or_refused texts told _ line is stands = stands

  found_once : (texts : List TextAt) (a b : TextsFound) → AreFound k texts a → AreFound k texts b → texts_meant a ≡ texts_meant b
  found_once texts (found.Says a) (found.Says b) one other = ap All (in_order texts a.items b.items one.each other.each)
  found_once texts (found.Says a) (found.Refused fault) one other = absurd (told_or_refused texts (reverse a.items) fault.code fault.line one other)
  found_once texts (found.Refused fault) (found.Says b) one other = absurd (told_or_refused texts (reverse b.items) fault.code fault.line other one)
  found_once texts (found.Refused fault) (found.Refused other_fault) one other = refused_once texts fault.code other_fault.code fault.line other_fault.line one other

pub texts_once : IsOneText → (k : Known) (sentences : List Sentence) (a b : TextsFound) → IsTextsFound k sentences a → IsTextsFound k sentences b → texts_meant a ≡ texts_meant b
texts_once law k sentences a b one other = found_once law k (reverse (texts_in sentences)) a b one other
