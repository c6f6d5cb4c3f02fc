-- A source is refused in one way: each step that refuses it does so in one, and no other step does.
use Rattle.std.proofs.Common.{◌≡◌, ◌≢◌, ◌∙◌, ap, sym, subst, ℕ, Bool, List, Err}
use Rattle.std.specs.Prelude.{Some, Result}
use Rattle.world_meaning.specs.declared.fault.Fault.{Fault}
use Rattle.world_meaning.specs.declared.fault.FaultCode.TheVariants.{Memory, TooMany}
use Rattle.world_meaning.specs.declared.tale.Tale.{Tale}
use Rattle.i7_lexer.specs.Readings.{HasTokens}
use Rattle.i7_lexer.specs.Refusals.{IsRefused as IsUnspelled}
use Rattle.i7_lexer.specs.declared.token.Token.{Token}
use Rattle.i7_lexer.proofs.LawLemmas.{refused-same, spelled-refused, tokens-same}
use Rattle.i7_kinds.specs.Tales.{long_said}
use Rattle.i7_resolution.specs.Resolutions.{IsResolution}
use Rattle.i7_resolution.specs.ResolutionsMeant.{resolution_meant}
use Rattle.i7_resolution.specs.declared.resolution.Resolution.TheVariants.{Refused}
use Rattle.i7_rules.specs.Knowns.{Known}
use Rattle.i7_sentences.proofs.Verdicts.{refusals_same, spelled_refused}
use Rattle.i7_sentences.specs.Sources.{IsRefused as IsUnread}
use Rattle.i7_sentences.specs.declared.sentence.Sentence.{Sentence}
use Rattle.story_format.specs.Contents.{Contents}
use Rattle.story_file.specs.Compilations.{IsRefused, IsUnheldSource, IsUnmeant, IsUnreadSource, Says, memory, unheld, unmeant as unsaid, unread, unspelled}
use Rattle.story_file.specs.LongOnes.{IsToldAt}
use Rattle.story_file.specs.Meanings.{AreRefused, AreTooLong, AreUnresolved, known_said, too_long, unmeant, unresolved, with_long}
use Rattle.story_file.proofs.LongLines.{line_once}
use Rattle.story_file.proofs.Outcomes.{IsOneResolution, IsOneText, meant_as, meant_or_refused, resolved_or_refused, same_ok, same_sentences, same_tale}

abbrev refused_as : Fault → Result Tale Fault
refused_as fault = Err fault

same_err : (f g : Fault) → refused_as f ≡ refused_as g → f ≡ g
same_err f g same = cc

ok_or_err : (tale : Tale) (fault : Fault) → meant_as tale ≡ refused_as fault → ⊥
ok_or_err tale fault same = absurd cc

same_some : (line other : ℕ) → Some line ≡ Some other → line ≡ other
same_some line other same = cc

whole_fault : (f g : Fault) → f.code ≡ g.code → f.line ≡ g.line → f ≡ g
whole_fault f g code line = λ i. record { code = code i; line = line i }

-- ---- sentences

abbrev told_long : ℕ → Fault
told_long line = record { code = TooMany; line = line }

resolved_once : IsOneResolution → (k : Known) (recurring : List Bool) (sentences : List Sentence) (f g : Fault) → IsResolution k recurring sentences (Refused f) → IsResolution k recurring sentences (Refused g) → f ≡ g
resolved_once law k recurring sentences f g one second =
    let same : resolution_meant (Refused f) ≡ resolution_meant (Refused g) = law k recurring sentences (Refused f) (Refused g) one second in
    cc

module _ (law : IsOneResolution) (sentences : List Sentence) where
  unresolved_once : (f g : Fault) → AreUnresolved sentences f → AreUnresolved sentences g → f ≡ g
  unresolved_once f g one second =
      let tales = same_ok one.tale second.tale (sym one.tale_is ∙ second.tale_is) in
      let again = subst (λ (t : Tale). IsResolution (known_said sentences t) t.declared.scenes sentences (Refused second.told)) (sym tales) second.refused in
      let told = resolved_once law (known_said sentences one.tale) one.tale.declared.scenes sentences one.told second.told one.refused again in
      one.fault_is ∙ ap (with_long (long_said sentences)) told ∙ sym second.fault_is

  long_or_unresolved : (f g : Fault) → AreTooLong sentences f → AreUnresolved sentences g → ⊥
  long_or_unresolved f g long none =
      let tales = same_ok long.tale none.tale (sym long.tale_is ∙ none.tale_is) in
      let refused = subst (λ (t : Tale). IsResolution (known_said sentences t) t.declared.scenes sentences (Refused none.told)) (sym tales) none.refused in
      resolved_or_refused law (known_said sentences long.tale) long.tale.declared.scenes sentences long.resolved none.told long.resolved_is refused

  long_once : (f g : Fault) → AreTooLong sentences f → AreTooLong sentences g → f ≡ g
  long_once f g one second =
      let line = same_some one.line second.line (sym one.long ∙ second.long) in
      one.fault_is ∙ ap told_long line ∙ sym second.fault_is

  refusals_once : (f g : Fault) → AreRefused sentences f → AreRefused sentences g → f ≡ g
  refusals_once f g (unmeant one) (unmeant second) = same_err f g (sym one ∙ second)
  refusals_once f g (unmeant one) (unresolved second) = absurd (ok_or_err second.tale f (sym second.tale_is ∙ one))
  refusals_once f g (unmeant one) (too_long second) = absurd (ok_or_err second.tale f (sym second.tale_is ∙ one))
  refusals_once f g (unresolved one) (unmeant second) = absurd (ok_or_err one.tale g (sym one.tale_is ∙ second))
  refusals_once f g (unresolved one) (unresolved second) = unresolved_once f g one second
  refusals_once f g (unresolved one) (too_long second) = absurd (long_or_unresolved g f second one)
  refusals_once f g (too_long one) (unmeant second) = absurd (ok_or_err one.tale g (sym one.tale_is ∙ second))
  refusals_once f g (too_long one) (unresolved second) = absurd (long_or_unresolved f g one second)
  refusals_once f g (too_long one) (too_long second) = long_once f g one second

-- ---- sources

-- a source whose tokens are refused says no sentences
read_or_not : (source : List ℕ) (sentences : List Sentence) (fault : Fault) → fault.code ≢ Memory → Says source sentences → IsUnreadSource source fault → ⊥
read_or_not source sentences fault other says none =
    let tokens : none.tokens ≡ says.tokens = tokens-same source none.tokens says.tokens none.spells says.spells in
    spelled_refused says.tokens sentences fault says.reads other (subst (λ ts. IsUnread ts fault) tokens none.unread)

module _ (text_law : IsOneText) (law : IsOneResolution) (source : List ℕ) (f g : Fault) where
  unread_once : f.code ≢ Memory → g.code ≢ Memory → IsUnreadSource source f → IsUnreadSource source g → f ≡ g
  unread_once not_f not_g one second =
      let tokens : one.tokens ≡ second.tokens = tokens-same source one.tokens second.tokens one.spells second.spells in
      refusals_same second.tokens f g (subst (λ ts. IsUnread ts f) tokens one.unread) second.unread not_f not_g

  unmeant_once : IsUnmeant source f → IsUnmeant source g → f ≡ g
  unmeant_once one second =
      let sentences = same_sentences source one.sentences second.sentences one.says second.says in
      refusals_once law second.sentences f g (subst (λ (all : List Sentence). AreRefused all f) sentences one.refused) second.refused

  -- what no story file says is meant
  meant_or_not : (fault : Fault) → IsUnheldSource source f → IsUnmeant source fault → ⊥
  meant_or_not fault held none =
      let sentences = same_sentences source none.sentences held.means.sentences none.says held.means.says in
      meant_or_refused law held.means.sentences held.tale held.said fault held.means.meant (subst (λ (all : List Sentence). AreRefused all fault) sentences none.refused)

  unheld_once : IsUnheldSource source f → IsUnheldSource source g → f ≡ g
  unheld_once one second =
      let same = same_tale text_law law source one.tale second.tale one.said second.said one.means second.means in
      let sentences = same_sentences source one.means.sentences second.means.sentences one.means.says second.means.says in
      let there : IsToldAt second.means.sentences second.tale second.said f.line =
      subst (λ (said : Contents). IsToldAt second.means.sentences second.tale said f.line) same.1
      (subst (λ (tale : Tale). IsToldAt second.means.sentences tale one.said f.line) same.0 (subst (λ (all : List Sentence). IsToldAt all one.tale one.said f.line) sentences one.told.line_is)) in
      whole_fault f g (one.told.code_is ∙ sym second.told.code_is) (line_once _ _ _ f.line g.line there second.told.line_is)

-- a source that spells tokens is refused by its bytes for memory alone
spelled_or_not : (source : List ℕ) (tokens : List Token) (fault : Fault) → fault.code ≢ Memory → HasTokens source tokens → IsUnspelled source fault → ⊥
spelled_or_not source tokens fault other spells none = other (spelled-refused fault.code fault.line source tokens spells none)

pub refused_once : IsOneText → IsOneResolution → (source : List ℕ) (f g : Fault) → IsRefused source f → IsRefused source g → f.code ≢ Memory → g.code ≢ Memory → f ≡ g
refused_once text_law law source f g (memory short is) second not_f not_g = absurd (not_f (ap (λ (x : Fault). x.code) is))
refused_once text_law law source f g (unspelled one) (memory short is) not_f not_g = absurd (not_g (ap (λ (x : Fault). x.code) is))
refused_once text_law law source f g (unspelled one) (unspelled second) not_f not_g = let same = refused-same f.code g.code f.line g.line source one second not_f not_g in whole_fault f g same.0 same.1
refused_once text_law law source f g (unspelled one) (unread second) not_f not_g = absurd (spelled_or_not source second.tokens f not_f second.spells one)
refused_once text_law law source f g (unspelled one) (unsaid second) not_f not_g = absurd (spelled_or_not source second.says.tokens f not_f second.says.spells one)
refused_once text_law law source f g (unspelled one) (unheld second) not_f not_g = absurd (spelled_or_not source second.means.says.tokens f not_f second.means.says.spells one)
refused_once text_law law source f g (unread one) (memory short is) not_f not_g = absurd (not_g (ap (λ (x : Fault). x.code) is))
refused_once text_law law source f g (unread one) (unspelled second) not_f not_g = absurd (spelled_or_not source one.tokens g not_g one.spells second)
refused_once text_law law source f g (unread one) (unread second) not_f not_g = unread_once text_law law source f g not_f not_g one second
refused_once text_law law source f g (unread one) (unsaid second) not_f not_g = absurd (read_or_not source second.sentences f not_f second.says one)
refused_once text_law law source f g (unread one) (unheld second) not_f not_g = absurd (read_or_not source second.means.sentences f not_f second.means.says one)
refused_once text_law law source f g (unsaid one) (memory short is) not_f not_g = absurd (not_g (ap (λ (x : Fault). x.code) is))
refused_once text_law law source f g (unsaid one) (unspelled second) not_f not_g = absurd (spelled_or_not source one.says.tokens g not_g one.says.spells second)
refused_once text_law law source f g (unsaid one) (unread second) not_f not_g = absurd (read_or_not source one.sentences g not_g one.says second)
refused_once text_law law source f g (unsaid one) (unsaid second) not_f not_g = unmeant_once text_law law source f g one second
refused_once text_law law source f g (unsaid one) (unheld second) not_f not_g = absurd (meant_or_not text_law law source g f f second one)
refused_once text_law law source f g (unheld one) (memory short is) not_f not_g = absurd (not_g (ap (λ (x : Fault). x.code) is))
refused_once text_law law source f g (unheld one) (unspelled second) not_f not_g = absurd (spelled_or_not source one.means.says.tokens g not_g one.means.says.spells second)
refused_once text_law law source f g (unheld one) (unread second) not_f not_g = absurd (read_or_not source one.means.sentences g not_g one.means.says second)
refused_once text_law law source f g (unheld one) (unsaid second) not_f not_g = absurd (meant_or_not text_law law source f g g one second)
refused_once text_law law source f g (unheld one) (unheld second) not_f not_g = unheld_once text_law law source f g one second
