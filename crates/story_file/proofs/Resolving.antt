-- Where nothing refuses sentences, all that is resolved of them is what their rules, texts, listings, scenes and commands say, and their
-- actions are few.
use Rattle.std.proofs.Common.{◌≡◌, ◌≤◌, ◌∙◌, ap, refl, sym, Bool, ℕ, zero, suc, List, [], ◌∷◌, length, arith}
use Rattle.std.specs.Global.{Vec}
use Rattle.std.specs.Prelude.{Option, None, Some, Result, Ok, Err, option_map, slice_get}
use Rattle.world_meaning.specs.declared.fault.Fault.{Fault}
use Rattle.world_meaning.specs.declared.fault.FaultCode.{FaultCode}
use Rattle.world_meaning.specs.declared.fault.FaultCode.TheVariants.{TooMany, Twice}
use Rattle.i7_grammar.specs.declared.grammar.Grammar.{Grammar}
use Rattle.i7_grammar.specs.declared.grammar.GrammarFound.{GrammarFound}
use Rattle.i7_grammar.specs.declared.grammar.GrammarFound.TheVariants as spoken
use Rattle.i7_resolution.specs.BookNames.{book_twice}
use Rattle.i7_resolution.specs.Resolutions.{IsResolution, Lists, both, grammar_told, joined, listings_told, resolution_by, rules_told, scenes_told, texts_told, with_fault}
use Rattle.i7_resolution.specs.SourceActions.{action_over, action_twice, actions_in}
use Rattle.i7_resolution.specs.declared.resolution.Resolution.{Resolution}
use Rattle.i7_resolution.specs.declared.resolution.Resolution.TheVariants.{Says, Refused}
use Rattle.i7_resolution.specs.declared.resolution.Resolved.{Resolved}
use Rattle.i7_resolution.specs.declared.source_listings.ListingsFound.{ListingsFound}
use Rattle.i7_resolution.specs.declared.source_listings.ListingsFound.TheVariants as listed
use Rattle.i7_resolution.specs.declared.source_scenes.ScenesFound.{ScenesFound}
use Rattle.i7_resolution.specs.declared.source_scenes.ScenesFound.TheVariants as staged
use Rattle.i7_resolution.specs.declared.source_texts.SourceText.{SourceText}
use Rattle.i7_resolution.specs.declared.source_texts.TextsFound.{TextsFound}
use Rattle.i7_resolution.specs.declared.source_texts.TextsFound.TheVariants as texted
use Rattle.i7_rules.specs.Knowns.{Known}
use Rattle.i7_rules.specs.declared.source_rules.RulesFound.{RulesFound}
use Rattle.i7_rules.specs.declared.source_rules.RulesFound.TheVariants as ruled
use Rattle.i7_rules.specs.declared.source_rules.SourceRule.{SourceRule}
use Rattle.i7_sentences.specs.ActionDeclarations.{ActionAt, actions_declared}
use Rattle.i7_sentences.specs.declared.sentence.Sentence.{Sentence}
use Rattle.play_meaning.specs.declared.tree.scene.MeantScene.{MeantScene}
use Rattle.rule_order.specs.declared.listing.ListingSentence.{ListingSentence}

-- ---- both of two

both_said : {A B : Type 0} (one : Result A Fault) (other : Result B Fault) (all : A × B) → both one other ≡ Ok all → (one ≡ Ok all.0) × (other ≡ Ok all.1)
both_said {A} {B} (Ok a) (Ok b) all is = let same : (a, b) ≡ all = same_pair is in (ap (λ (p : A × B). Ok p.0) same, ap (λ (p : A × B). Ok p.1) same)
  where
    same_pair : ◌≡◌ {A = Result (A × B) Fault} (Ok (a, b)) (Ok all) → (a, b) ≡ all
    same_pair same = cc
both_said (Ok a) (Err fault) all is = absurd cc
both_said (Err fault) (Ok b) all is = absurd cc
both_said (Err fault) (Err other) all is = absurd cc

-- ---- what is told of each

rules_said : (found : RulesFound) (rules : Vec SourceRule) → rules_told found ≡ Ok rules → found ≡ ruled.Says rules
rules_said (ruled.Says told) rules is = ap (λ (all : Vec SourceRule). ruled.Says all) cc
rules_said (ruled.Refused fault) rules is = absurd cc

texts_said : (found : TextsFound) (texts : Vec SourceText) → texts_told found ≡ Ok texts → found ≡ texted.Says texts
texts_said (texted.Says told) texts is = ap (λ (all : Vec SourceText). texted.Says all) cc
texts_said (texted.Refused fault) texts is = absurd cc

listings_said : (found : ListingsFound) (listings : Vec ListingSentence) → listings_told found ≡ Ok listings → found ≡ listed.Says listings
listings_said (listed.Says told) listings is = ap (λ (all : Vec ListingSentence). listed.Says all) cc
listings_said (listed.Refused fault) listings is = absurd cc

scenes_said : (found : ScenesFound) (scenes : Vec MeantScene) → scenes_told found ≡ Ok scenes → found ≡ staged.Says scenes
scenes_said (staged.Says told) scenes is = ap (λ (all : Vec MeantScene). staged.Says all) cc
scenes_said (staged.Refused fault) scenes is = absurd cc

grammar_said : (found : GrammarFound) (grammar : Grammar) → grammar_told found ≡ Ok grammar → found ≡ spoken.Says grammar
grammar_said (spoken.Says told) grammar is = ap (λ (all : Grammar). spoken.Says all) cc
grammar_said (spoken.Refused fault) grammar is = absurd cc

resolved_said : (lists : Result Lists Fault) (resolved : Resolved) → Says resolved ≡ resolution_by lists
    → lists ≡ Ok ((((resolved.rules, resolved.texts), resolved.listings), resolved.scenes), resolved.grammar)
resolved_said (Ok all) resolved is = ap (λ (r : Resolved). Ok ((((r.rules, r.texts), r.listings), r.scenes), r.grammar)) (same_resolved _ resolved (sym is))
  where
    same_resolved : (one other : Resolved) → Says one ≡ Says other → one ≡ other
    same_resolved one other same = cc
resolved_said (Err fault) resolved is = absurd cc

-- each of them says what is resolved
pub record AllSaid (of_rules : RulesFound) (of_texts : TextsFound) (of_listings : ListingsFound) (of_scenes : ScenesFound) (of_grammar : GrammarFound) (resolved : Resolved) : Type 0 where
  pub rules : of_rules ≡ ruled.Says resolved.rules
  pub texts : of_texts ≡ texted.Says resolved.texts
  pub listings : of_listings ≡ listed.Says resolved.listings
  pub scenes : of_scenes ≡ staged.Says resolved.scenes
  pub grammar : of_grammar ≡ spoken.Says resolved.grammar

all_said : (rules : RulesFound) (texts : TextsFound) (listings : ListingsFound) (scenes : ScenesFound) (grammar : GrammarFound) (resolved : Resolved)
    → Says resolved ≡ joined rules texts listings scenes grammar → AllSaid rules texts listings scenes grammar resolved
all_said rules texts listings scenes grammar resolved is =
    let two = both (rules_told rules) (texts_told texts) in
    let three = both two (listings_told listings) in
    let four = both three (scenes_told scenes) in
    let whole = resolved_said (both four (grammar_told grammar)) resolved is in
    let a = both_said four (grammar_told grammar) _ whole in
    let b = both_said three (scenes_told scenes) _ a.0 in
    let c = both_said two (listings_told listings) _ b.0 in
    let d = both_said (rules_told rules) (texts_told texts) _ c.0 in
    record {
      rules = rules_said rules resolved.rules d.0;
      texts = texts_said texts resolved.texts d.1;
      listings = listings_said listings resolved.listings c.1;
      scenes = scenes_said scenes resolved.scenes b.1;
      grammar = grammar_said grammar resolved.grammar a.1;
    }

-- ---- actions

unfaulted : (code : FaultCode) (line : Option ℕ) (told : Resolution) (resolved : Resolved) → Says resolved ≡ with_fault code line told → (line ≡ None) × (Says resolved ≡ told)
unfaulted code None told resolved is = (refl, is)
unfaulted code (Some line) (Says other) resolved is = absurd cc
unfaulted code (Some line) (Refused fault) resolved is = absurd cc

-- nothing of the actions refuses
resolved_before : (k : Known) (recurring : List Bool) (sentences : List Sentence) (resolved : Resolved) (is : IsResolution k recurring sentences (Says resolved)) → (action_over (actions_declared sentences) ≡ None) × (Says resolved ≡ is.before)
resolved_before k recurring sentences resolved is =
    let few = with_fault TooMany (action_over (actions_declared sentences)) is.before in
    let apart = with_fault Twice (action_twice (actions_declared sentences)) few in
    let books = unfaulted Twice (book_twice (actions_in sentences) sentences) apart resolved is.told_is in
    let names = unfaulted Twice (action_twice (actions_declared sentences)) few resolved books.1 in
    unfaulted TooMany (action_over (actions_declared sentences)) is.before resolved names.1

-- and all that is resolved is what the lists say
pub said_of : (k : Known) (recurring : List Bool) (sentences : List Sentence) (resolved : Resolved) (is : IsResolution k recurring sentences (Says resolved))
    → AllSaid is.is_joined.rules is.is_joined.texts is.is_joined.listings is.is_joined.scenes is.is_joined.grammar resolved
said_of k recurring sentences resolved is =
    let whole = is.is_joined in
    all_said whole.rules whole.texts whole.listings whole.scenes whole.grammar resolved ((resolved_before k recurring sentences resolved is).1 ∙ whole.told_is)

few_before : (actions : List ActionAt) (n : ℕ) → option_map (λ action. action.line) (slice_get actions n) ≡ None → length actions ≤ n
few_before [] n none = omega arith
few_before (action ∷ actions) zero none = absurd cc
few_before (action ∷ actions) (suc n) none = omega (arith, few_before actions n none)

pub few_actions : (k : Known) (recurring : List Bool) (sentences : List Sentence) (resolved : Resolved) → IsResolution k recurring sentences (Says resolved) → length (actions_declared sentences) ≤ 184
few_actions k recurring sentences resolved is = few_before (actions_declared sentences) 184 (resolved_before k recurring sentences resolved is).0
