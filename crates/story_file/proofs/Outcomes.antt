-- A source has one outcome: its tokens are one list, and so its sentences, and so its tale.
use Rattle.std.proofs.Common.{◌≡◌, ◌≢◌, Bool, ℕ, List, [], ◌∷◌, map, Ok, Err, ap, refl, subst, sym, ◌∙◌}
use Rattle.std.specs.Prelude.{Result, Some, None}
use Rattle.std.specs.List.{AllZip}
use Rattle.world_meaning.specs.declared.fault.Fault.{Fault}
use Rattle.world_meaning.specs.declared.fault.FaultCode.TheVariants.{Memory}
use Rattle.world_meaning.specs.declared.tale.Tale.{Tale}
use Rattle.command_grammar.specs.declared.synonym.Synonym.{Synonym}
use Rattle.play_meaning.specs.Grammar.{Line}
use Rattle.play_meaning.specs.Patterns.{rule_meant}
use Rattle.play_meaning.specs.Rules.{Rule}
use Rattle.play_meaning.specs.Scripts.{Scene}
use Rattle.play_meaning.specs.Trees.{Text}
use Rattle.i7_conditions.specs.Scopes.{Scope}
use Rattle.i7_lexer.proofs.LawLemmas.{spelled-refused, tokens-same}
use Rattle.i7_sentences.proofs.Verdicts.{sentences_same, spelled_refused}
use Rattle.i7_sentences.specs.Sources.{HasSentences, IsRefused as IsUnread}
use Rattle.i7_sentences.specs.declared.sentence.Sentence.{Sentence}
use Rattle.i7_sentences.specs.declared.text_piece.TextPiece.{TextPiece}
use Rattle.i7_phrases.specs.Texts.{IsText}
use Rattle.i7_rules.specs.Knowns.{Known}
use Rattle.i7_rules.specs.RulesMeant.{RuleMeant, rule_meant as source_rule_meant}
use Rattle.i7_rules.specs.declared.source_rules.SourceRule.{SourceRule}
use Rattle.i7_resolution.specs.Resolutions.{IsResolution}
use Rattle.i7_resolution.specs.ResolutionsMeant.{All, Refused as NoneFor, ResolutionMeant, resolution_meant}
use Rattle.i7_resolution.specs.SourceTexts.{SaysIn}
use Rattle.i7_resolution.specs.declared.resolution.Resolution.{Resolution}
use Rattle.i7_resolution.specs.declared.resolution.Resolution.TheVariants.{Refused, Says as Understood}
use Rattle.i7_resolution.specs.declared.resolution.Resolved.{Resolved}
use Rattle.rule_order.specs.declared.listing.ListingSentence.{ListingSentence}
use Rattle.story_format.specs.Contents.{Contents}
use Rattle.story_format.specs.Holding.{AreHeld, NeverHeldAndNot}
use Rattle.story_file.specs.Compilations.{IsCompiled, IsRefused, Means, Says, memory, unheld as untold, unmeant as unsaid, unread, unspelled}
use Rattle.story_file.specs.Meanings.{AreMeant, AreRefused, AreTexts, descriptions_of, known_said, scope_said, too_long, unmeant, unresolved}
use Rattle.story_file.specs.Rules.{lines_told, listings_told, rules_told, scenes_told, synonyms_told}

-- what is known of texts and of what is resolved: each means one thing
abbrev pub IsOneText : Type 0
IsOneText = (s : Scope) (pieces : List TextPiece) (text other : Text) → IsText s pieces text → IsText s pieces other → text ≡ other

abbrev pub IsOneResolution : Type 0
IsOneResolution = (k : Known) (recurring : List Bool) (sentences : List Sentence) (told other : Resolution) → IsResolution k recurring sentences told → IsResolution k recurring sentences other → resolution_meant told ≡ resolution_meant other

pub same_sentences : (source : List ℕ) (v w : List Sentence) → Says source v → Says source w → v ≡ w
same_sentences source v w first second =
    let tokens : first.tokens ≡ second.tokens = tokens-same source first.tokens second.tokens first.spells second.spells in
    sentences_same second.tokens v w (subst (λ ts. HasSentences ts v) tokens first.reads) second.reads

abbrev pub meant_as : Tale → Result Tale Fault
meant_as tale = Ok tale

pub same_ok : (tale other : Tale) → meant_as tale ≡ meant_as other → tale ≡ other
same_ok tale other same = cc

-- ---- what descriptions say

same_texts : IsOneText → (s : Scope) (descriptions : List (List ℕ)) (texts others : List Text) → AllZip (SaysIn s) descriptions texts → AllZip (SaysIn s) descriptions others → texts ≡ others
same_texts law s [] [] [] one second = refl
same_texts law s [] [] (y ∷ others) one second = absurd second
same_texts law s [] (x ∷ texts) others one second = absurd one
same_texts law s (bytes ∷ descriptions) [] others one second = absurd one
same_texts law s (bytes ∷ descriptions) (x ∷ texts) [] one second = absurd second
same_texts law s (bytes ∷ descriptions) (x ∷ texts) (y ∷ others) one second =
    ap (λ (t : Text). t ∷ texts) (law _ _ x y one.0.means second.0.means) ∙ ap (λ (ts : List Text). y ∷ ts) (same_texts law s descriptions texts others one.1 second.1)

-- ---- rules

-- a rule of a tale, however it is kept
abbrev author_of : RuleMeant → Rule
author_of meant = record {
  book = meant.head.book;
  action = meant.head.about.action;
  noun = meant.head.about.noun;
  second = meant.head.about.second;
  place = meant.head.about.place;
  scene = meant.head.about.scene;
  condition = meant.head.condition;
  body = meant.body;
  listed = meant.head.listed;
}

abbrev rules_of : ResolutionMeant → List Rule
rules_of (All rules texts listings scenes lines synonyms) = map author_of rules
rules_of (NoneFor fault) = []

authored : (rules : List SourceRule) → map (λ told. rule_meant told.rule) rules ≡ map author_of (map source_rule_meant rules)
authored [] = refl
authored (rule ∷ rules) = ap (λ (all : List Rule). rule_meant rule.rule ∷ all) (authored rules)

rules_once : IsOneResolution → (k : Known) (recurring : List Bool) (sentences : List Sentence) (one other : Resolved) → IsResolution k recurring sentences (Understood one) → IsResolution k recurring sentences (Understood other) → rules_told one ≡ rules_told other
rules_once law k recurring sentences one other is again =
    authored one.rules.items ∙ ap rules_of (law k recurring sentences (Understood one) (Understood other) is again) ∙ sym (authored other.rules.items)

-- ---- where sentences list rules

abbrev listings_of : ResolutionMeant → List ListingSentence
listings_of (All rules texts listings scenes lines synonyms) = listings
listings_of (NoneFor fault) = []

listings_once : IsOneResolution → (k : Known) (recurring : List Bool) (sentences : List Sentence) (one other : Resolved) → IsResolution k recurring sentences (Understood one) → IsResolution k recurring sentences (Understood other) → listings_told one ≡ listings_told other
listings_once law k recurring sentences one other is again = ap listings_of (law k recurring sentences (Understood one) (Understood other) is again)

-- ---- scenes

abbrev scenes_of : ResolutionMeant → List Scene
scenes_of (All rules texts listings scenes lines synonyms) = scenes
scenes_of (NoneFor fault) = []

scenes_once : IsOneResolution → (k : Known) (recurring : List Bool) (sentences : List Sentence) (one other : Resolved) → IsResolution k recurring sentences (Understood one) → IsResolution k recurring sentences (Understood other) → scenes_told one ≡ scenes_told other
scenes_once law k recurring sentences one other is again = ap scenes_of (law k recurring sentences (Understood one) (Understood other) is again)

-- ---- lines of the grammar and synonyms

abbrev lines_of : ResolutionMeant → List Line
lines_of (All rules texts listings scenes lines synonyms) = lines
lines_of (NoneFor fault) = []

lines_once : IsOneResolution → (k : Known) (recurring : List Bool) (sentences : List Sentence) (one other : Resolved) → IsResolution k recurring sentences (Understood one) → IsResolution k recurring sentences (Understood other) → lines_told one ≡ lines_told other
lines_once law k recurring sentences one other is again = ap lines_of (law k recurring sentences (Understood one) (Understood other) is again)

abbrev synonyms_of : ResolutionMeant → List Synonym
synonyms_of (All rules texts listings scenes lines synonyms) = synonyms
synonyms_of (NoneFor fault) = []

synonyms_once : IsOneResolution → (k : Known) (recurring : List Bool) (sentences : List Sentence) (one other : Resolved) → IsResolution k recurring sentences (Understood one) → IsResolution k recurring sentences (Understood other) → synonyms_told one ≡ synonyms_told other
synonyms_once law k recurring sentences one other is again = ap synonyms_of (law k recurring sentences (Understood one) (Understood other) is again)

-- ---- tales

module _ (text_law : IsOneText) (law : IsOneResolution) (sentences : List Sentence) (tale other : Tale) (said others : Contents) (one : AreMeant sentences tale said) (second : AreMeant sentences other others) where
  tale_once : tale ≡ other
  tale_once = same_ok tale other (sym one.tale_is ∙ second.tale_is)

  abbrev k : Known
  k = known_said sentences tale

  abbrev recurring : List Bool
  recurring = tale.declared.scenes

  texts_once : said.texts ≡ others.texts
  texts_once =
      same_texts text_law (scope_said sentences) (descriptions_of tale.objects) said.texts others.texts one.texts_are
      (subst (λ (t : Tale). AreTexts (scope_said sentences) t.objects others.texts) (sym tale_once) second.texts_are)

  resolved_again : IsResolution k recurring sentences (Understood second.resolved)
  resolved_again = subst (λ (t : Tale). IsResolution (known_said sentences t) t.declared.scenes sentences (Understood second.resolved)) (sym tale_once) second.resolved_is

  meant_rules_once : said.rules ≡ others.rules
  meant_rules_once = one.rules_are ∙ rules_once law k recurring sentences one.resolved second.resolved one.resolved_is resolved_again ∙ sym second.rules_are

  meant_listings_once : said.listings ≡ others.listings
  meant_listings_once = one.listings_are ∙ listings_once law k recurring sentences one.resolved second.resolved one.resolved_is resolved_again ∙ sym second.listings_are

  meant_scenes_once : said.scenes ≡ others.scenes
  meant_scenes_once = one.scenes_are ∙ scenes_once law k recurring sentences one.resolved second.resolved one.resolved_is resolved_again ∙ sym second.scenes_are

  meant_lines_once : said.lines ≡ others.lines
  meant_lines_once = one.lines_are ∙ lines_once law k recurring sentences one.resolved second.resolved one.resolved_is resolved_again ∙ sym second.lines_are

  meant_synonyms_once : said.synonyms ≡ others.synonyms
  meant_synonyms_once = one.synonyms_are ∙ synonyms_once law k recurring sentences one.resolved second.resolved one.resolved_is resolved_again ∙ sym second.synonyms_are

  meant_once : (tale ≡ other) × (said ≡ others)
  meant_once = (tale_once, λ i. record { texts = texts_once i; rules = meant_rules_once i; listings = meant_listings_once i; scenes = meant_scenes_once i; lines = meant_lines_once i; synonyms = meant_synonyms_once i })

pub same_tale : IsOneText → IsOneResolution → (source : List ℕ) (tale other : Tale) (said others : Contents) → Means source tale said → Means source other others → (tale ≡ other) × (said ≡ others)
same_tale text_law law source tale other said others first second =
    let sentences = same_sentences source first.sentences second.sentences first.says second.says in
    meant_once text_law law second.sentences tale other said others (subst (λ (all : List Sentence). AreMeant all tale said) sentences first.meant) second.meant

pub ok_not_err : (tale : Tale) (fault : Fault) → Ok tale ≡ Err fault → ⊥
ok_not_err tale fault same = absurd cc

-- ---- refusals

-- what is resolved isn't refused
pub resolved_or_refused : IsOneResolution → (k : Known) (recurring : List Bool) (sentences : List Sentence) (resolved : Resolved) (fault : Fault) → IsResolution k recurring sentences (Understood resolved) → IsResolution k recurring sentences (Refused fault) → ⊥
resolved_or_refused law k recurring sentences resolved fault is refused =
    let same : resolution_meant (Understood resolved) ≡ resolution_meant (Refused fault) = law k recurring sentences (Understood resolved) (Refused fault) is refused in
    absurd cc

none_not_some : (line : ℕ) → None ≡ Some line → ⊥
none_not_some line same = absurd cc

-- sentences that mean a tale aren't refused
pub meant_or_refused : IsOneResolution → (sentences : List Sentence) (tale : Tale) (said : Contents) (fault : Fault) → AreMeant sentences tale said → AreRefused sentences fault → ⊥
meant_or_refused law sentences tale said fault meant (unmeant refused) = ok_not_err tale fault (sym meant.tale_is ∙ refused)
meant_or_refused law sentences tale said fault meant (unresolved refused) =
    let same = same_ok tale refused.tale (sym meant.tale_is ∙ refused.tale_is) in
    resolved_or_refused law (known_said sentences tale) tale.declared.scenes sentences meant.resolved refused.told meant.resolved_is
    (subst (λ (t : Tale). IsResolution (known_said sentences t) t.declared.scenes sentences (Refused refused.told)) (sym same) refused.refused)
meant_or_refused law sentences tale said fault meant (too_long refused) = none_not_some refused.line (sym meant.short ∙ refused.long)

-- where the same sentences stand they are refused so too
pub refused_so : (sentences others : List Sentence) (fault : Fault) → sentences ≡ others → AreRefused sentences fault → AreRefused others fault
refused_so sentences others fault same = subst (λ (all : List Sentence). AreRefused all fault) same

-- ---- stories

pub not_both : IsOneText → IsOneResolution → NeverHeldAndNot → (source bytes : List ℕ) (fault : Fault) → fault.code ≢ Memory → IsCompiled source bytes → IsRefused source fault → ⊥
not_both text_law law held_law source bytes fault other compiled (unspelled refused) =
    other (spelled-refused fault.code fault.line source compiled.means.says.tokens compiled.means.says.spells refused)
not_both text_law law held_law source bytes fault other compiled (unread refused) =
    let says = compiled.means.says in
    let tokens : refused.tokens ≡ says.tokens = tokens-same source refused.tokens says.tokens refused.spells says.spells in
    spelled_refused says.tokens compiled.means.sentences fault says.reads other (subst (λ ts. IsUnread ts fault) tokens refused.unread)
not_both text_law law held_law source bytes fault other compiled (unsaid refused) =
    let sentences = same_sentences source refused.sentences compiled.means.sentences refused.says compiled.means.says in
    meant_or_refused law compiled.means.sentences compiled.tale compiled.said fault compiled.means.meant (subst (λ all. AreRefused all fault) sentences refused.refused)
not_both text_law law held_law source bytes fault other compiled (untold refused) =
    let same = same_tale text_law law source compiled.tale refused.tale compiled.said refused.said compiled.means refused.means in
    let held : AreHeld refused.tale refused.said = subst (AreHeld refused.tale) same.1 (subst (λ (tale : Tale). AreHeld tale compiled.said) same.0 compiled.held) in
    refused.told.other (held_law refused.tale refused.said refused.reason held refused.not_held)
not_both text_law law held_law source bytes fault other compiled (memory short is) = other (ap (λ f. f.code) is)
