-- The rules of a source, where its sentences list rules, its scenes, its lines of the grammar and its synonyms, as they are resolved.
use Rattle.std.specs.Prelude.{List, map}
use Rattle.command_grammar.specs.Lines.{line_meant}
use Rattle.command_grammar.specs.declared.synonym.Synonym.{Synonym}
use Rattle.play_meaning.specs.Grammar.{Line}
use Rattle.play_meaning.specs.Patterns.{rule_meant}
use Rattle.play_meaning.specs.Rules.{Rule}
use Rattle.play_meaning.specs.ScenesMeant.{scene_meant}
use Rattle.play_meaning.specs.Scripts.{Scene}
use Rattle.rule_order.specs.declared.listing.ListingSentence.{ListingSentence}
use Rattle.i7_resolution.specs.declared.resolution.Resolved.{Resolved}

-- those that are resolved of sentences, in their order
abbrev pub rules_told : Resolved → List Rule
rules_told resolved = map (λ told. rule_meant told.rule) resolved.rules.items

-- the sentences that list rules, in their order
abbrev pub listings_told : Resolved → List ListingSentence
listings_told resolved = resolved.listings.items

-- the scenes, with what they begin and end on
abbrev pub scenes_told : Resolved → List Scene
scenes_told resolved = map scene_meant resolved.scenes.items

-- the lines of the grammar, in the order of their sentences
abbrev pub lines_told : Resolved → List Line
lines_told resolved = map line_meant resolved.grammar.lines.items

-- the words that objects go by besides those of their names, in that order too
abbrev pub synonyms_told : Resolved → List Synonym
synonyms_told resolved = resolved.grammar.synonyms.items
