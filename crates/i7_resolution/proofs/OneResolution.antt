-- No sentences are resolved in two ways.
use Rattle.std.proofs.Common.{◌≡◌, ℕ, Bool, List, refl, sym, ◌∙◌, ap}
use Rattle.std.specs.Prelude.{Option, None, Some, Result, Ok, Err, map}
use Rattle.std.specs.Global.{Vec}
use Rattle.world_meaning.specs.declared.fault.Fault.{Fault}
use Rattle.world_meaning.specs.declared.fault.FaultCode.{FaultCode}
use Rattle.world_meaning.specs.declared.fault.FaultCode.TheVariants.{TooMany, Twice}
use Rattle.command_grammar.specs.Lines.{line_meant}
use Rattle.command_grammar.specs.declared.synonym.Synonym.{Synonym}
use Rattle.play_meaning.specs.Grammar.{Line}
use Rattle.play_meaning.specs.ScenesMeant.{scene_meant}
use Rattle.play_meaning.specs.Scripts.{Scene}
use Rattle.play_meaning.specs.declared.tree.scene.MeantScene.{MeantScene}
use Rattle.rule_order.specs.declared.listing.ListingSentence.{ListingSentence}
use Rattle.i7_grammar.specs.Grammars.{GrammarMeant, IsGrammarFound, grammar_meant}
use Rattle.i7_grammar.specs.Grammars as grammars
use Rattle.i7_grammar.specs.Targets.{Known as Naming}
use Rattle.i7_grammar.specs.declared.grammar.Grammar.{Grammar}
use Rattle.i7_grammar.specs.declared.grammar.GrammarFound.{GrammarFound}
use Rattle.i7_grammar.specs.declared.grammar.GrammarFound.TheVariants as spoken
use Rattle.i7_rules.specs.Knowns.{Known}
use Rattle.i7_rules.specs.RulesMeant.{RuleMeant, RulesMeant, rule_meant, rules_meant}
use Rattle.i7_rules.specs.RulesMeant as rules
use Rattle.i7_rules.specs.SourceRules.{IsRulesFound}
use Rattle.i7_rules.specs.declared.source_rules.RulesFound.{RulesFound}
use Rattle.i7_rules.specs.declared.source_rules.RulesFound.TheVariants as ruled
use Rattle.i7_rules.specs.declared.source_rules.SourceRule.{SourceRule}
use Rattle.i7_sentences.specs.ActionDeclarations.{actions_declared}
use Rattle.i7_sentences.specs.declared.sentence.Sentence.{Sentence}
use Rattle.i7_resolution.specs.BookNames.{book_twice}
use Rattle.i7_resolution.specs.Resolutions.{IsJoined, IsResolution, Lists, both, first_of, grammar_told, joined, listings_told, naming_of, resolution_by, rules_told, scenes_told, texts_told, with_fault}
use Rattle.i7_resolution.specs.ResolutionsMeant.{All as Resolved, ResolutionMeant, Refused as Unresolved, resolution_meant}
use Rattle.i7_resolution.specs.SourceActions.{action_over, action_twice, actions_in}
use Rattle.i7_resolution.specs.SourceListings.{ListingsMeant, listings_meant}
use Rattle.i7_resolution.specs.SourceListings as listings
use Rattle.i7_resolution.specs.SourceScenes.{IsScenesFound, ScenesMeant, scenes_meant}
use Rattle.i7_resolution.specs.SourceScenes as scenes
use Rattle.i7_resolution.specs.SourceTexts.{IsTextsFound, TextMeant, TextsMeant, meant_in, texts_meant}
use Rattle.i7_resolution.specs.SourceTexts as texts
use Rattle.i7_resolution.specs.declared.resolution.Resolution.{Resolution}
use Rattle.i7_resolution.specs.declared.resolution.Resolution.TheVariants as told
use Rattle.i7_resolution.specs.declared.source_listings.ListingsFound.{ListingsFound}
use Rattle.i7_resolution.specs.declared.source_listings.ListingsFound.TheVariants as listed
use Rattle.i7_resolution.specs.declared.source_scenes.ScenesFound.{ScenesFound}
use Rattle.i7_resolution.specs.declared.source_scenes.ScenesFound.TheVariants as staged
use Rattle.i7_resolution.specs.declared.source_texts.SourceText.{SourceText}
use Rattle.i7_resolution.specs.declared.source_texts.TextsFound.{TextsFound}
use Rattle.i7_resolution.specs.declared.source_texts.TextsFound.TheVariants as texted
use Rattle.i7_resolution.proofs.OneListing.{listings_once}

-- ---- what is told, however it is kept

abbrev so_told : {A B : Type 0} → (A → B) → Result A Fault → Result B Fault
so_told f (Ok x) = Ok (f x)
so_told f (Err fault) = Err fault

abbrev pairs : {A B C D : Type 0} → (A → C) → (B → D) → A × B → C × D
pairs f g p = (f p.0, g p.1)

both_so : {A B C D : Type 0} (f : A → C) (g : B → D) (x : Result A Fault) (y : Result B Fault) → so_told (pairs f g) (both x y) ≡ both (so_told f x) (so_told g y)
both_so f g (Ok x) (Ok y) = refl
both_so f g (Ok x) (Err fault) = refl
both_so f g (Err fault) (Ok y) = refl
both_so f g (Err fault) (Err other) = refl

-- one more, where so much is known of those before
and_so : {A B C D : Type 0} (f : A → C) (g : B → D) (x : Result A Fault) (y : Result B Fault) (u : Result C Fault) (v : Result D Fault)
    → so_told f x ≡ u → so_told g y ≡ v → so_told (pairs f g) (both x y) ≡ both u v
and_so f g x y u v first second = both_so f g x y ∙ ap (λ w. both w (so_told g y)) first ∙ ap (both u) second

abbrev rules_result : RulesMeant → Result (List RuleMeant) Fault
rules_result (rules.All rs) = Ok rs
rules_result (rules.Refused fault) = Err fault

abbrev texts_result : TextsMeant → Result (List TextMeant) Fault
texts_result (texts.All ts) = Ok ts
texts_result (texts.Refused fault) = Err fault

abbrev listings_result : ListingsMeant → Result (List ListingSentence) Fault
listings_result (listings.All ls) = Ok ls
listings_result (listings.Refused fault) = Err fault

abbrev scenes_result : ScenesMeant → Result (List Scene) Fault
scenes_result (scenes.All ss) = Ok ss
scenes_result (scenes.Refused fault) = Err fault

abbrev grammar_result : GrammarMeant → Result (List Line × List Synonym) Fault
grammar_result (grammars.All ls ss) = Ok (ls, ss)
grammar_result (grammars.Refused fault) = Err fault

abbrev rules_in : Vec SourceRule → List RuleMeant
rules_in rs = map rule_meant rs.items

abbrev texts_in : Vec SourceText → List TextMeant
texts_in ts = map meant_in ts.items

abbrev listings_in : Vec ListingSentence → List ListingSentence
listings_in ls = ls.items

abbrev scenes_in : Vec MeantScene → List Scene
scenes_in ss = map scene_meant ss.items

abbrev grammar_in : Grammar → List Line × List Synonym
grammar_in g = (map line_meant g.lines.items, g.synonyms.items)

rules_so : (r : RulesFound) → so_told rules_in (rules_told r) ≡ rules_result (rules_meant r)
rules_so (ruled.Says rs) = refl
rules_so (ruled.Refused fault) = refl

texts_so : (t : TextsFound) → so_told texts_in (texts_told t) ≡ texts_result (texts_meant t)
texts_so (texted.Says ts) = refl
texts_so (texted.Refused fault) = refl

listings_so : (l : ListingsFound) → so_told listings_in (listings_told l) ≡ listings_result (listings_meant l)
listings_so (listed.Says ls) = refl
listings_so (listed.Refused fault) = refl

scenes_so : (s : ScenesFound) → so_told scenes_in (scenes_told s) ≡ scenes_result (scenes_meant s)
scenes_so (staged.Says ss) = refl
scenes_so (staged.Refused fault) = refl

grammar_so : (g : GrammarFound) → so_told grammar_in (grammar_told g) ≡ grammar_result (grammar_meant g)
grammar_so (spoken.Says grammar) = refl
grammar_so (spoken.Refused fault) = refl

abbrev Meant : Type 0
Meant = (((List RuleMeant × List TextMeant) × List ListingSentence) × List Scene) × (List Line × List Synonym)

abbrev whole : Result Meant Fault → ResolutionMeant
whole (Ok all) = Resolved all.0.0.0.0 all.0.0.0.1 all.0.0.1 all.0.1 all.1.0 all.1.1
whole (Err fault) = Unresolved fault

abbrev all_in : Lists → Meant
all_in = pairs (pairs (pairs (pairs rules_in texts_in) listings_in) scenes_in) grammar_in

whole_so : (all : Result Lists Fault) → resolution_meant (resolution_by all) ≡ whole (so_told all_in all)
whole_so (Ok all) = refl
whole_so (Err fault) = refl

abbrev all_meant : RulesMeant → TextsMeant → ListingsMeant → ScenesMeant → GrammarMeant → ResolutionMeant
all_meant r t l s g = whole (both (both (both (both (rules_result r) (texts_result t)) (listings_result l)) (scenes_result s)) (grammar_result g))

meant_so : (r : RulesFound) (t : TextsFound) (l : ListingsFound) (s : ScenesFound) (g : GrammarFound)
    → resolution_meant (joined r t l s g) ≡ all_meant (rules_meant r) (texts_meant t) (listings_meant l) (scenes_meant s) (grammar_meant g)
meant_so r t l s g =
    let rs = rules_result (rules_meant r) in
    let ts = texts_result (texts_meant t) in
    let ls = listings_result (listings_meant l) in
    let ss = scenes_result (scenes_meant s) in
    let two = and_so rules_in texts_in (rules_told r) (texts_told t) rs ts (rules_so r) (texts_so t) in
    let three = and_so (pairs rules_in texts_in) listings_in (both (rules_told r) (texts_told t)) (listings_told l) (both rs ts) ls two (listings_so l) in
    let four = and_so (pairs (pairs rules_in texts_in) listings_in) scenes_in (both (both (rules_told r) (texts_told t)) (listings_told l)) (scenes_told s) (both (both rs ts) ls) ss three (scenes_so s) in
    whole_so (both (both (both (both (rules_told r) (texts_told t)) (listings_told l)) (scenes_told s)) (grammar_told g))
    ∙ ap whole
    (and_so (pairs (pairs (pairs rules_in texts_in) listings_in) scenes_in) grammar_in (both (both (both (rules_told r) (texts_told t)) (listings_told l)) (scenes_told s)) (grammar_told g)
    (both (both (both rs ts) ls) ss) (grammar_result (grammar_meant g)) four (grammar_so g))

abbrev pub RulesAreOnce : Type 0
RulesAreOnce = (k : Known) (sentences : List Sentence) (a b : RulesFound) → IsRulesFound k sentences a → IsRulesFound k sentences b → rules_meant a ≡ rules_meant b

abbrev pub TextsAreOnce : Type 0
TextsAreOnce = (k : Known) (sentences : List Sentence) (a b : TextsFound) → IsTextsFound k sentences a → IsTextsFound k sentences b → texts_meant a ≡ texts_meant b

abbrev pub ScenesAreOnce : Type 0
ScenesAreOnce = (k : Known) (recurring : List Bool) (sentences : List Sentence) (a b : ScenesFound) → IsScenesFound k recurring sentences a → IsScenesFound k recurring sentences b
    → scenes_meant a ≡ scenes_meant b

abbrev pub GrammarIsOnce : Type 0
GrammarIsOnce = (k : Naming) (sentences : List Sentence) (a b : GrammarFound) → IsGrammarFound k sentences a → IsGrammarFound k sentences b → grammar_meant a ≡ grammar_meant b

-- ---- a resolution that may be refused for an action or a rulebook's name

abbrev before_meant : Fault → ResolutionMeant → ResolutionMeant
before_meant fault (Resolved rs ts ls ss gs ws) = Unresolved fault
before_meant fault (Unresolved other) = Unresolved (first_of fault other)

abbrev fault_meant : FaultCode → Option ℕ → ResolutionMeant → ResolutionMeant
fault_meant code None told = told
fault_meant code (Some line) told = before_meant (record { code = code; line = line }) told

fault_so : (code : FaultCode) (line : Option ℕ) (told : Resolution) → resolution_meant (with_fault code line told) ≡ fault_meant code line (resolution_meant told)
fault_so code None told = refl
fault_so code (Some line) (told.Says resolved) = refl
fault_so code (Some line) (told.Refused fault) = refl

same_behind : (code : FaultCode) (line : Option ℕ) (a b : Resolution) → resolution_meant a ≡ resolution_meant b → resolution_meant (with_fault code line a) ≡ resolution_meant (with_fault code line b)
same_behind code line a b same = fault_so code line a ∙ ap (fault_meant code line) same ∙ sym (fault_so code line b)

module _ (rules_law : RulesAreOnce) (texts_law : TextsAreOnce) (scenes_law : ScenesAreOnce) (grammar_law : GrammarIsOnce) (k : Known) (recurring : List Bool) (sentences : List Sentence) where
  joined_once : (a b : Resolution) → IsJoined k recurring sentences a → IsJoined k recurring sentences b → resolution_meant a ≡ resolution_meant b
  joined_once a b one other =
      ap resolution_meant one.told_is
      ∙ meant_so one.rules one.texts one.listings one.scenes one.grammar
      ∙ ap (λ (r : RulesMeant). all_meant r (texts_meant one.texts) (listings_meant one.listings) (scenes_meant one.scenes) (grammar_meant one.grammar))
      (rules_law k sentences one.rules other.rules one.rules_are other.rules_are)
      ∙ ap (λ (t : TextsMeant). all_meant (rules_meant other.rules) t (listings_meant one.listings) (scenes_meant one.scenes) (grammar_meant one.grammar))
      (texts_law k sentences one.texts other.texts one.texts_are other.texts_are)
      ∙ ap (λ (l : ListingsMeant). all_meant (rules_meant other.rules) (texts_meant other.texts) l (scenes_meant one.scenes) (grammar_meant one.grammar))
      (listings_once k sentences one.listings other.listings one.listings_are other.listings_are)
      ∙ ap (λ (s : ScenesMeant). all_meant (rules_meant other.rules) (texts_meant other.texts) (listings_meant other.listings) s (grammar_meant one.grammar))
      (scenes_law k recurring sentences one.scenes other.scenes one.scenes_are other.scenes_are)
      ∙ ap (all_meant (rules_meant other.rules) (texts_meant other.texts) (listings_meant other.listings) (scenes_meant other.scenes))
      (grammar_law (naming_of k) sentences one.grammar other.grammar one.grammar_is other.grammar_is)
      ∙ sym (meant_so other.rules other.texts other.listings other.scenes other.grammar)
      ∙ sym (ap resolution_meant other.told_is)

  pub resolved_once : (a b : Resolution) → IsResolution k recurring sentences a → IsResolution k recurring sentences b → resolution_meant a ≡ resolution_meant b
  resolved_once a b one other =
      let over = action_over (actions_declared sentences) in
      let twice = action_twice (actions_declared sentences) in
      let few : Resolution → Resolution = with_fault TooMany over in
      let apart : Resolution → Resolution = λ before. with_fault Twice twice (few before) in
      ap resolution_meant one.told_is
      ∙ same_behind Twice (book_twice (actions_in sentences) sentences) (apart one.before) (apart other.before)
      (same_behind Twice twice (few one.before) (few other.before)
      (same_behind TooMany over one.before other.before (joined_once one.before other.before one.is_joined other.is_joined)))
      ∙ sym (ap resolution_meant other.told_is)
