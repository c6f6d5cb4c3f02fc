-- What is resolved of a source, however that is kept.
use Rattle.std.specs.Prelude.{List, map}
use Rattle.world_meaning.specs.declared.fault.Fault.{Fault}
use Rattle.command_grammar.specs.Lines.{line_meant}
use Rattle.command_grammar.specs.declared.synonym.Synonym.{Synonym}
use Rattle.play_meaning.specs.Grammar.{Line}
use Rattle.play_meaning.specs.ScenesMeant.{scene_meant}
use Rattle.play_meaning.specs.Scripts.{Scene}
use Rattle.i7_rules.specs.RulesMeant.{RuleMeant, rule_meant}
use Rattle.rule_order.specs.declared.listing.ListingSentence.{ListingSentence}
use Rattle.i7_resolution.specs.SourceTexts.{TextMeant, meant_in}
use Rattle.i7_resolution.specs.declared.resolution.Resolution.{Resolution}
use Rattle.i7_resolution.specs.declared.resolution.Resolution.TheVariants as told

pub data ResolutionMeant : Type 0 where
  All : List RuleMeant → List TextMeant → List ListingSentence → List Scene → List Line → List Synonym → ResolutionMeant
  Refused : Fault → ResolutionMeant

abbrev pub resolution_meant : Resolution → ResolutionMeant
resolution_meant (told.Says resolved) =
    All (map rule_meant resolved.rules.items) (map meant_in resolved.texts.items) resolved.listings.items (map scene_meant resolved.scenes.items)
    (map line_meant resolved.grammar.lines.items) resolved.grammar.synonyms.items
resolution_meant (told.Refused fault) = Refused fault
