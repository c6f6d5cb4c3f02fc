-- The tale that sentences mean, what is said of it, and what refuses sentences.
use Rattle.std.specs.Prelude.{◌≡◌, ◌||◌, ◌&&◌, nat_lt, ℕ, Bool, true, false, List, [], Option, Some, None, Ok, Err, if◌then◌else◌}
use Rattle.std.specs.List.{AllZip, flat_map, list_any}
use Rattle.world_meaning.specs.declared.fault.Fault.{Fault}
use Rattle.world_meaning.specs.declared.fault.FaultCode.{FaultCode}
use Rattle.world_meaning.specs.declared.fault.FaultCode.TheVariants.{TooMany}
use Rattle.world_meaning.specs.declared.tale.Object.{Object}
use Rattle.world_meaning.specs.declared.tale.Tale.{Tale}
use Rattle.play_meaning.specs.TranslatedScripts.{in_list}
use Rattle.play_meaning.specs.Trees.{Text}
use Rattle.i7_conditions.specs.Operators.{holds_operator}
use Rattle.i7_conditions.specs.Scopes.{Scope}
use Rattle.i7_kinds.specs.Tales.{long_said, tale_said}
use Rattle.i7_names.specs.SourceNames.{names_in, rulebooks_in, scene_count}
use Rattle.i7_resolution.specs.Resolutions.{IsResolution}
use Rattle.i7_resolution.specs.SourceActions.{actions_in, known_actions}
use Rattle.i7_resolution.specs.SourceTexts.{SaysIn}
use Rattle.i7_resolution.specs.declared.resolution.Resolution.TheVariants.{Refused, Says}
use Rattle.i7_resolution.specs.declared.resolution.Resolved.{Resolved}
use Rattle.i7_rules.specs.Knowns.{Known}
use Rattle.i7_sentences.specs.declared.sentence.Sentence.{Sentence}
use Rattle.story_format.specs.Contents.{Contents}
use Rattle.story_file.specs.Rules.{lines_told, listings_told, rules_told, scenes_told, synonyms_told}

-- ---- what rules, texts, scenes and sentences that list rules may name

-- where the sentences mean this tale
abbrev pub known_said : List Sentence → Tale → Known
known_said sentences tale = record {
  meanings = (names_in sentences).meanings;
  plurals = (names_in sentences).plurals;
  has_operators = (names_in sentences).has_operators;
  actions = known_actions (actions_in sentences);
  rulebooks = rulebooks_in sentences;
  scenes = scene_count sentences;
  parents = tale.declared.kinds;
  objects = tale.objects;
}

-- what a text may name that describes: no repeat stands around it
abbrev pub scope_said : List Sentence → Scope
scope_said sentences = record {
  meanings = (names_in sentences).meanings;
  plurals = (names_in sentences).plurals;
  repeats = [];
  has_operators = (names_in sentences).has_operators || list_any holds_operator [];
}

-- ---- what descriptions say

-- the bytes with which objects are described, in the order of those that are
abbrev pub descriptions_of : List Object → List (List ℕ)
descriptions_of objects = flat_map (λ object. in_list object.description) objects

-- what each of them says
abbrev pub AreTexts : Scope → List Object → List Text → Type 0
AreTexts s objects texts = AllZip (SaysIn s) (descriptions_of objects) texts

-- ---- the tale

-- Sentences mean this tale, of which this is said: no name and no description is too long, its descriptions say these texts, in the order of the objects, its rules are these,
-- listed so, both in the order of the sentences, its scenes begin and end so, and these are its lines of the grammar and the words
-- that its objects go by besides those of their names.
pub record AreMeant (sentences : List Sentence) (tale : Tale) (said : Contents) : Type 0 where
  pub tale_is : tale_said sentences ≡ Ok tale
  pub short : long_said sentences ≡ None
  pub resolved : Resolved
  pub resolved_is : IsResolution (known_said sentences tale) tale.declared.scenes sentences (Says resolved)
  pub texts_are : AreTexts (scope_said sentences) tale.objects said.texts
  pub rules_are : said.rules ≡ rules_told resolved
  pub listings_are : said.listings ≡ listings_told resolved
  pub scenes_are : said.scenes ≡ scenes_told resolved
  pub lines_are : said.lines ≡ lines_told resolved
  pub synonyms_are : said.synonyms ≡ synonyms_told resolved

abbrev pub is_too_many : FaultCode → Bool
is_too_many TooMany = true
is_too_many _ = false

-- C12 of a name or a description that is too long stands behind C9, C7 and C8, and of two C12 that of the lower line stands
abbrev pub with_long : Option ℕ → Fault → Fault
with_long None fault = fault
with_long (Some line) fault = if is_too_many fault.code && nat_lt line fault.line then record { code = TooMany; line = line } else fault

-- What rules, texts, scenes, commands and sentences that list rules name, or how rulebooks and actions are named, how much there is of them, or
-- how the lines of rules stand, refuses sentences that mean a tale.
pub record AreUnresolved (sentences : List Sentence) (fault : Fault) : Type 0 where
  pub tale : Tale
  pub tale_is : tale_said sentences ≡ Ok tale
  pub told : Fault
  pub refused : IsResolution (known_said sentences tale) tale.declared.scenes sentences (Refused told)
  pub fault_is : fault ≡ with_long (long_said sentences) told

-- A name or a description that is too long refuses sentences that nothing else does.
pub record AreTooLong (sentences : List Sentence) (fault : Fault) : Type 0 where
  pub tale : Tale
  pub tale_is : tale_said sentences ≡ Ok tale
  pub resolved : Resolved
  pub resolved_is : IsResolution (known_said sentences tale) tale.declared.scenes sentences (Says resolved)
  pub line : ℕ
  pub long : long_said sentences ≡ Some line
  pub fault_is : fault ≡ record { code = TooMany; line = line }

-- Sentences are refused for what they say of the world, for their rules, texts, listings, scenes, commands and actions, or for
-- what is too long.
pub data AreRefused (sentences : List Sentence) (fault : Fault) : Type 0 where
  unmeant : tale_said sentences ≡ Err fault → AreRefused sentences fault
  unresolved : AreUnresolved sentences fault → AreRefused sentences fault
  too_long : AreTooLong sentences fault → AreRefused sentences fault
