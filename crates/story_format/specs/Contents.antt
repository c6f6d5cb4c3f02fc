-- What a story file says of a tale: a text of each description, in the order of the objects, the author's rules, where sentences list
-- rules, the scenes, the author's lines of the grammar, and the words that objects go by besides those of their names.
use Rattle.std.specs.Prelude.{List, map}
use Rattle.command_grammar.specs.Lines.{line_meant}
use Rattle.command_grammar.specs.declared.synonym.Synonym.{Synonym}
use Rattle.code_table.specs.Origins.{Origin, origins_of}
use Rattle.play_meaning.specs.Grammar.{Line}
use Rattle.play_meaning.specs.Meant.{text_meant}
use Rattle.play_meaning.specs.Patterns.{rule_meant}
use Rattle.play_meaning.specs.Rules.{Rule}
use Rattle.play_meaning.specs.ScenesMeant.{scene_meant}
use Rattle.play_meaning.specs.Scripts.{Scene}
use Rattle.play_meaning.specs.Trees.{Text}
use Rattle.rule_order.specs.declared.listing.ListingSentence.{ListingSentence}
use Rattle.story_format.specs.declared.contents.Contents.{Contents as Kept}

pub record Contents : Type 0 where
  pub texts : List Text
  pub rules : List Rule
  pub listings : List ListingSentence
  pub scenes : List Scene
  pub lines : List Line
  pub synonyms : List Synonym

-- as they are kept
abbrev pub contents_meant : Kept → Contents
contents_meant kept = record {
  texts = map text_meant kept.texts.items;
  rules = map rule_meant kept.rules.items;
  listings = kept.listings.items;
  scenes = map scene_meant kept.scenes.items;
  lines = map line_meant kept.lines.items;
  synonyms = kept.synonyms.items;
}

-- what has codes among them
abbrev pub origins_said : Contents → List Origin
origins_said c = origins_of c.texts c.rules c.scenes
