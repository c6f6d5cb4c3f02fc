-- What is resolved of a source: its rules, the texts that describe, where sentences list rules, when its scenes begin and end, and what
-- commands and words mean, or the first refusal for these or for its actions and the names of its rulebooks.
use Rattle.std.specs.Prelude.{◌≡◌, ℕ, ◌==◌, Bool, ◌&&◌, ◌||◌, nat_lt, List, [], Option, None, Some, Result, Ok, Err, if◌then◌else◌}
use Rattle.std.specs.Global.{Vec}
use Rattle.std.specs.List.{list_any}
use Rattle.world_meaning.specs.declared.fault.Fault.{Fault}
use Rattle.world_meaning.specs.declared.fault.FaultCode.{FaultCode}
use Rattle.world_meaning.specs.declared.fault.FaultCode.TheVariants.{TooMany, Twice, UnknownName, WrongKind}
use Rattle.world_meaning.specs.declared.tale.Tale.{Tale}
use Rattle.i7_conditions.specs.NamesOf.{has_operators, meanings_of, plurals_of}
use Rattle.i7_conditions.specs.Operators.{holds_operator}
use Rattle.i7_conditions.specs.Scopes.{Scope}
use Rattle.i7_grammar.specs.Grammars.{IsGrammarFound}
use Rattle.i7_grammar.specs.Targets.{Known as Naming}
use Rattle.i7_grammar.specs.declared.grammar.Grammar.{Grammar}
use Rattle.i7_grammar.specs.declared.grammar.GrammarFound.{GrammarFound}
use Rattle.i7_grammar.specs.declared.grammar.GrammarFound.TheVariants as spoken
use Rattle.i7_names.specs.declared.source_names.SourceNames.{SourceNames}
use Rattle.i7_rules.specs.Knowns.{Known}
use Rattle.i7_rules.specs.SourceRules.{IsRulesFound}
use Rattle.i7_rules.specs.declared.source_rules.RulesFound.{RulesFound}
use Rattle.i7_rules.specs.declared.source_rules.RulesFound.TheVariants as ruled
use Rattle.i7_rules.specs.declared.source_rules.SourceRule.{SourceRule}
use Rattle.i7_sentences.specs.ActionDeclarations.{actions_declared}
use Rattle.i7_sentences.specs.declared.sentence.Sentence.{Sentence}
use Rattle.play_meaning.specs.declared.tree.scene.MeantScene.{MeantScene}
use Rattle.rule_order.specs.declared.listing.ListingSentence.{ListingSentence}
use Rattle.i7_resolution.specs.BookNames.{book_twice}
use Rattle.i7_resolution.specs.SourceActions.{action_over, action_twice, actions_in, known_actions}
use Rattle.i7_resolution.specs.SourceListings.{IsListingsFound}
use Rattle.i7_resolution.specs.SourceScenes.{IsScenesFound}
use Rattle.i7_resolution.specs.SourceTexts.{IsTextsFound}
use Rattle.i7_resolution.specs.declared.resolution.Resolution.{Resolution}
use Rattle.i7_resolution.specs.declared.resolution.Resolution.TheVariants.{Refused, Says}
use Rattle.i7_resolution.specs.declared.source_listings.ListingsFound.{ListingsFound}
use Rattle.i7_resolution.specs.declared.source_listings.ListingsFound.TheVariants as listed
use Rattle.i7_resolution.specs.declared.source_scenes.ScenesFound.{ScenesFound}
use Rattle.i7_resolution.specs.declared.source_scenes.ScenesFound.TheVariants as staged
use Rattle.i7_resolution.specs.declared.source_texts.SourceText.{SourceText}
use Rattle.i7_resolution.specs.declared.source_texts.TextsFound.{TextsFound}
use Rattle.i7_resolution.specs.declared.source_texts.TextsFound.TheVariants as texted

-- what rules, texts and scenes' conditions may name: what the names of a source stand for, its rulebooks and scenes, its sentences' actions behind the
-- standard ones, and the kinds and objects of its tale
abbrev pub known_in : SourceNames → Tale → List Sentence → Known
known_in source tale sentences = record {
  meanings = meanings_of source.names;
  plurals = plurals_of source.names;
  has_operators = has_operators source.names;
  actions = known_actions (actions_in sentences);
  rulebooks = source.rulebooks;
  scenes = source.scenes;
  parents = tale.declared.kinds;
  objects = tale.objects;
}

-- what a text may name that describes: no repeat stands around it
abbrev pub scope_in : SourceNames → Scope
scope_in source = record {
  meanings = meanings_of source.names;
  plurals = plurals_of source.names;
  repeats = [];
  has_operators = has_operators source.names || list_any holds_operator [];
}

-- ---- of two refusals the first

-- each code is looked for before the next
abbrev pub turn_of : FaultCode → ℕ
turn_of Twice = 0
turn_of UnknownName = 1
turn_of WrongKind = 2
turn_of TooMany = 3
turn_of _ = 4

abbrev pub goes_before : Fault → Fault → Bool
goes_before one other = nat_lt (turn_of one.code) (turn_of other.code) || (turn_of one.code == turn_of other.code && nat_lt one.line other.line)

abbrev pub first_of : Fault → Fault → Fault
first_of one other = if goes_before other one then other else one

-- both, or the first refusal
abbrev pub both : {A B : Type 0} → Result A Fault → Result B Fault → Result (A × B) Fault
both (Ok one) (Ok other) = Ok (one, other)
both (Ok one) (Err fault) = Err fault
both (Err fault) (Ok other) = Err fault
both (Err fault) (Err other) = Err (first_of fault other)

-- ---- the whole

abbrev pub rules_told : RulesFound → Result (Vec SourceRule) Fault
rules_told (ruled.Says rules) = Ok rules
rules_told (ruled.Refused fault) = Err fault

abbrev pub texts_told : TextsFound → Result (Vec SourceText) Fault
texts_told (texted.Says texts) = Ok texts
texts_told (texted.Refused fault) = Err fault

abbrev pub listings_told : ListingsFound → Result (Vec ListingSentence) Fault
listings_told (listed.Says listings) = Ok listings
listings_told (listed.Refused fault) = Err fault

abbrev pub scenes_told : ScenesFound → Result (Vec MeantScene) Fault
scenes_told (staged.Says scenes) = Ok scenes
scenes_told (staged.Refused fault) = Err fault

abbrev pub grammar_told : GrammarFound → Result Grammar Fault
grammar_told (spoken.Says grammar) = Ok grammar
grammar_told (spoken.Refused fault) = Err fault

abbrev pub Lists : Type 0
Lists = (((Vec SourceRule × Vec SourceText) × Vec ListingSentence) × Vec MeantScene) × Grammar

abbrev pub resolution_by : Result Lists Fault → Resolution
resolution_by (Ok all) = Says (record { rules = all.0.0.0.0; texts = all.0.0.0.1; listings = all.0.0.1; scenes = all.0.1; grammar = all.1 })
resolution_by (Err fault) = Refused fault

-- all of them, or the first refusal
abbrev pub joined : RulesFound → TextsFound → ListingsFound → ScenesFound → GrammarFound → Resolution
joined rules texts listings scenes grammar =
    resolution_by (both (both (both (both (rules_told rules) (texts_told texts)) (listings_told listings)) (scenes_told scenes)) (grammar_told grammar))

-- refused so, or before that for what is told already
abbrev pub refused_before : Fault → Resolution → Resolution
refused_before fault (Says resolved) = Refused fault
refused_before fault (Refused other) = Refused (first_of fault other)

-- refused with this code where it stands at a line
abbrev pub with_fault : FaultCode → Option ℕ → Resolution → Resolution
with_fault code None told = told
with_fault code (Some line) told = refused_before (record { code = code; line = line }) told

-- where a name is given twice, an action's or a rulebook's, or an action is one too many
abbrev pub with_actions : List Sentence → Resolution → Resolution
with_actions sentences told =
    with_fault Twice (book_twice (actions_in sentences) sentences)
    (with_fault Twice (action_twice (actions_declared sentences)) (with_fault TooMany (action_over (actions_declared sentences)) told))

-- what the sentences that tell what commands mean may name: actions and objects
abbrev pub naming_of : Known → Naming
naming_of k = record { meanings = k.meanings; actions = k.actions; objects = k.objects }

-- what is told of a source by what is told of its rules, of its texts, of the sentences that list rules, of its scenes, of each of which
-- it is declared whether it may happen again, and of what commands and words mean
pub record IsJoined (k : Known) (recurring : List Bool) (sentences : List Sentence) (told : Resolution) : Type 0 where
  pub rules : RulesFound
  pub texts : TextsFound
  pub listings : ListingsFound
  pub scenes : ScenesFound
  pub grammar : GrammarFound
  pub rules_are : IsRulesFound k sentences rules
  pub texts_are : IsTextsFound k sentences texts
  pub listings_are : IsListingsFound k sentences listings
  pub scenes_are : IsScenesFound k recurring sentences scenes
  pub grammar_is : IsGrammarFound (naming_of k) sentences grammar
  pub told_is : told ≡ joined rules texts listings scenes grammar

-- and of the names of its actions and rulebooks, and of how many actions there are
pub record IsResolution (k : Known) (recurring : List Bool) (sentences : List Sentence) (told : Resolution) : Type 0 where
  pub before : Resolution
  pub is_joined : IsJoined k recurring sentences before
  pub told_is : told ≡ with_actions sentences before
